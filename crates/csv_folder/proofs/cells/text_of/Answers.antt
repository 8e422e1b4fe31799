use Rattle.csv_folder.proofs.Numbers.{text_said, nothing_said}
use Rattle.csv_folder.proofs.cells.text_of.Goals as goal

pub returns-in_ok-from_str-in-Ok : goal.returns-in_ok-from_str-in-Ok
returns-in_ok-from_str-in-Ok c =
    text_said c.in_ok-from_str-in-Ok.field-0 c.in-Ok.text.now c.args.field.now c.in_ok-from_str-in-Ok.ensures c.in-Ok.ensures.cases.0 c.in-Ok.ensures.cases.1

pub returns-in-Err : goal.returns-in-Err
returns-in-Err c = nothing_said c.args.field.now c.in-Err.ensures.cases.0
