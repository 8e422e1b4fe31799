use Rattle.std.proofs.Common.{◌∙◌, [], ap}
use Rattle.std.specs.Option.{unwrap_or}
use Rattle.csv.specs.Records.{fields_of}
use Rattle.csv_folder.proofs.FieldAt.{field_or}
use Rattle.csv_folder.proofs.records.field.Goals as goal

pub returns-in-Some : goal.returns-in-Some
returns-in-Some c = ap (λ o. unwrap_or o []) c.in-Some.ensures.value ∙ field_or (fields_of c.args.fields.now) c.args.at

pub returns-in-None : goal.returns-in-None
returns-in-None c = ap (λ o. unwrap_or o []) c.in-None.ensures.value ∙ field_or (fields_of c.args.fields.now) c.args.at
