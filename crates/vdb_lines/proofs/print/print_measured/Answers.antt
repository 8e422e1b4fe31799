use Rattle.std.proofs.Common.{refl, ◌∷◌, ◌++◌}
use Rattle.vdb_model.specs.Lines.{number_text}
use Rattle.vdb_lines.proofs.Pens.{Pen-two, Pen-cut}
use Rattle.vdb_lines.proofs.print.print_measured.Goals as goal

pub returns-in-Ok : goal.returns-in-Ok
returns-in-Ok g c = Pen-two _ _ _ _ _ _ _ _ _ _ c.in-Ok.ensures c.print_counts.ensures refl

pub returns-in-Err : goal.returns-in-Err
returns-in-Err g c = Pen-cut _ _ _ _ _ (32 ∷ (number_text c.args.first ++ 32 ∷ number_text c.args.second)) c.in-Err.ensures refl
