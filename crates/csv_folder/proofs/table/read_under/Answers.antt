use Rattle.std.proofs.Common.{◌≡◌, ◌∙◌, ◌∷◌, true, Some, IfOk, sym, ap, subst}
use Rattle.csv.specs.Records.{fields_of}
use Rattle.csv_folder.specs.Cells.{same_folded}
use Rattle.csv_folder.specs.Header as spec
use Rattle.csv_folder.specs.Places.{FindsPlaces, places_in}
use Rattle.csv_folder.specs.Records.{left_of}
use Rattle.csv_folder.specs.SoFar.{left_say}
use Rattle.csv_folder.specs.Table.{records_say}
use Rattle.csv_folder.proofs.ByPlaces.{under_header}
use Rattle.csv_folder.proofs.table.read_under.Goals as goal

pub returns-in-Some : goal.returns-in-Some
returns-in-Some c =
    let d = c.args.def.now in
    let header = fields_of c.args.header.now in
    let left = left_of c.args.reader.now in
    let places = c.as_slice-in-Some.result.now in
    let apart : spec.are_apart same_folded header ≡ true = sym c.in_ok-are_apart.ensures ∙ c.if-not-branch.false in
    let found : FindsPlaces c.as_slice.result.now header (Some c.in-Some.places) = subst (FindsPlaces c.as_slice.result.now header) c.in-Some.is c.in_ok-places.ensures in
    let named : spec.names_all d.columns header ≡ true = ap (λ cs. spec.names_all cs header) (sym c.as_slice.ensures) ∙ found.0 in
    let is : places ≡ places_in d.columns header = c.as_slice-in-Some.ensures.value ∙ found.1 ∙ ap (λ cs. places_in cs header) c.as_slice.ensures in
    let says : left_say d places c.len.result left ≡ records_say d (header ∷ left) = ap (λ width. left_say d places width left) c.len.ensures ∙ sym (under_header d header left places apart named is) in
    subst (λ s. IfOk c.read_records.result (λ said. said ≡ s)) says c.read_records.ensures
