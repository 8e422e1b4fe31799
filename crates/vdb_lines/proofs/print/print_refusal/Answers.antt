use Rattle.std.proofs.Common.{◌∷◌, ◌++◌, [], append_assoc, codes}
use Rattle.vdb_model.specs.Lines.{number_text, spaced}
use Rattle.vdb_model.specs.RefusalText.{refusal_text, refusal_number}
use Rattle.vdb_lines.proofs.Pens.{Pen-cut, Pen-three, Pen-cut_second}
use Rattle.vdb_lines.proofs.print.print_refusal.Goals as goal

pub returns-in-Err : goal.returns-in-Err
returns-in-Err g c = Pen-cut _ _ _ _ (codes "REFUSED" ++ 32 ∷ number_text c.refusal_number.result) ((spaced (refusal_text c.args.refusal.now)) ++ 10 ∷ []) c.in-Err.ensures (rw c.refusal_number.ensures (append_assoc (codes "REFUSED" ++ 32 ∷ number_text (refusal_number c.args.refusal.now)) (spaced (refusal_text c.args.refusal.now)) (10 ∷ [])))

pub returns-in-Ok-print_refusal_text : goal.returns-in-Ok-print_refusal_text
returns-in-Ok-print_refusal_text g c = Pen-three _ _ _ _ _ _ _ _ _ _ _ _ _ c.in-Ok.ensures c.in-Ok-print_refusal_text.ensures c.print_byte.ensures (rw c.refusal_number.ensures (append_assoc (codes "REFUSED" ++ 32 ∷ number_text (refusal_number c.args.refusal.now)) (spaced (refusal_text c.args.refusal.now)) (10 ∷ [])))

pub returns-in-Err-print_refusal_text : goal.returns-in-Err-print_refusal_text
returns-in-Err-print_refusal_text g c = Pen-cut_second _ _ _ _ _ _ (codes "REFUSED" ++ 32 ∷ number_text c.refusal_number.result) _ (10 ∷ []) c.in-Ok.ensures c.in-Err-print_refusal_text.ensures (rw c.refusal_number.ensures (append_assoc (codes "REFUSED" ++ 32 ∷ number_text (refusal_number c.args.refusal.now)) (spaced (refusal_text c.args.refusal.now)) (10 ∷ [])))
