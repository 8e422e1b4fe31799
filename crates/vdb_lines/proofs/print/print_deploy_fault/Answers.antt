use Rattle.std.proofs.Common.{◌∷◌, ◌++◌, [], append_assoc, codes}
use Rattle.vdb_model.specs.FaultText.{deploy_text, deploy_number}
use Rattle.vdb_model.specs.Lines.{number_text, spaced}
use Rattle.vdb_lines.proofs.Pens.{Pen-cut, Pen-three, Pen-cut_second}
use Rattle.vdb_lines.proofs.print.print_deploy_fault.Goals as goal

pub returns-in-Err : goal.returns-in-Err
returns-in-Err g c = Pen-cut _ _ _ _ (codes "DEPLOY" ++ 32 ∷ number_text c.deploy_number.result) ((spaced (deploy_text c.args.fault.now)) ++ 10 ∷ []) c.in-Err.ensures (rw c.deploy_number.ensures (append_assoc (codes "DEPLOY" ++ 32 ∷ number_text (deploy_number c.args.fault.now)) (spaced (deploy_text c.args.fault.now)) (10 ∷ [])))

pub returns-in-Ok-print_deploy_text : goal.returns-in-Ok-print_deploy_text
returns-in-Ok-print_deploy_text g c = Pen-three _ _ _ _ _ _ _ _ _ _ _ _ _ c.in-Ok.ensures c.in-Ok-print_deploy_text.ensures c.print_byte.ensures (rw c.deploy_number.ensures (append_assoc (codes "DEPLOY" ++ 32 ∷ number_text (deploy_number c.args.fault.now)) (spaced (deploy_text c.args.fault.now)) (10 ∷ [])))

pub returns-in-Err-print_deploy_text : goal.returns-in-Err-print_deploy_text
returns-in-Err-print_deploy_text g c = Pen-cut_second _ _ _ _ _ _ (codes "DEPLOY" ++ 32 ∷ number_text c.deploy_number.result) _ (10 ∷ []) c.in-Ok.ensures c.in-Err-print_deploy_text.ensures (rw c.deploy_number.ensures (append_assoc (codes "DEPLOY" ++ 32 ∷ number_text (deploy_number c.args.fault.now)) (spaced (deploy_text c.args.fault.now)) (10 ∷ [])))
