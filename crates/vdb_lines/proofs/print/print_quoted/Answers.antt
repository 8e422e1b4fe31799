use Rattle.std.proofs.Common.{refl, ◌∷◌, ◌++◌, []}
use Rattle.vdb_base.specs.Print.{doubled}
use Rattle.vdb_lines.proofs.Pens.{Pen-cut, Pen-three, Pen-cut_second}
use Rattle.vdb_lines.proofs.print.print_quoted.Goals as goal

pub returns-in-Err : goal.returns-in-Err
returns-in-Err g c = Pen-cut _ _ _ _ _ (doubled c.args.quote c.args.text.now ++ c.args.quote ∷ []) c.in-Err.ensures refl

pub returns-in-Ok-print_doubled : goal.returns-in-Ok-print_doubled
returns-in-Ok-print_doubled g c = Pen-three _ _ _ _ _ _ _ _ _ _ _ _ _ c.in-Ok.ensures c.in-Ok-print_doubled.ensures c.print_byte-in-Ok-print_doubled.ensures refl

pub returns-in-Err-print_doubled : goal.returns-in-Err-print_doubled
returns-in-Err-print_doubled g c = Pen-cut_second _ _ _ _ _ _ _ _ (c.args.quote ∷ []) c.in-Ok.ensures c.in-Err-print_doubled.ensures refl
