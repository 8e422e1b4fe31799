use Rattle.std.proofs.Common.{◌≡◌, ◌∙◌, ◌≤◌, ◌<◌, min, length, [], Some, IfOk, slice_index_or, arith, sym, ap, subst}
use Rattle.csv.specs.Records.{fields_of}
use Rattle.vdb_base.specs.declared.value.Value.TheVariants.{Null}
use Rattle.csv_folder.specs.Cells as spec
use Rattle.csv_folder.specs.Places.{cells_at}
use Rattle.csv_folder.proofs.CellsByPlace.{cell_there, no_cell}
use Rattle.csv_folder.proofs.rows.cell_at.Goals as goal

pub returns-then-min-at : goal.returns-then-min-at
returns-then-min-at c =
    let columns = c.args.columns.now in
    let places = c.args.places.now in
    let past : min (length columns) (length places) ≤ c.args.at = omega arith in
    sym (no_cell columns places (fields_of c.args.fields.now) c.args.at past)

pub returns : goal.returns
returns c =
    let columns = c.args.columns.now in
    let places = c.args.places.now in
    let fields = fields_of c.args.fields.now in
    let at = c.args.at in
    let column = c.index-columns-at.result in
    let in_columns : at < length columns = omega arith in
    let in_places : at < length places = omega arith in
    let there : slice_index_or (cells_at columns places fields) at (Some Null) ≡ spec.cell_of column (slice_index_or fields (slice_index_or places at 0) []) = cell_there columns places fields at column in_columns in_places c.index-columns-at.is in
    subst (λ o. IfOk c.cell_of.result (λ v. v ≡ o)) (ap (spec.cell_of column) c.field.ensures ∙ sym there) c.cell_of.ensures
