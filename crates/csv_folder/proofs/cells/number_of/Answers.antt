use Rattle.std.proofs.Common.{◌∙◌, sym, ap}
use Rattle.csv_folder.specs.Cells as spec
use Rattle.csv_folder.proofs.Numbers.{parsed, no_text}
use Rattle.csv_folder.proofs.cells.number_of.Goals as goal

pub returns-in-Ok : goal.returns-in-Ok
returns-in-Ok c = c.ok.ensures.value ∙ parsed c.in-Ok.text.now c.parse.result c.parse.ensures.value.0 ∙ ap spec.number_of c.in-Ok.ensures.cases.0

pub returns-in-Err : goal.returns-in-Err
returns-in-Err c = sym (no_text c.args.text.now c.in-Err.ensures.cases.0)
