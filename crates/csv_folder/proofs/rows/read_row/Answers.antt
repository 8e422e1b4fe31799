use Rattle.std.proofs.Common.{◌≡◌, ◌∙◌, ◌++◌, ◌+◌, ◌≤◌, min, length, [], drop, arith, sym, ap}
use Rattle.std.proofs.lemmas.List.{append-nil}
use Rattle.csv.specs.Records.{fields_of}
use Rattle.csv_folder.specs.Places.{cells_at}
use Rattle.csv_folder.specs.Table.{bad_column, values_of}
use Rattle.csv_folder.proofs.CellsByPlace.{cells_end}
use Rattle.csv_folder.proofs.rows.read_row.Goals as goal

pub returns : goal.returns
returns c =
    let columns = c.args.columns.now in
    let places = c.args.places.now in
    let fields = fields_of c.args.fields.now in
    let at = c.loop-at.at in
    let past : min (length columns) (length places) ≤ at = omega arith in
    let none : cells_at (drop at columns) (drop at places) fields ≡ [] = cells_end columns places fields at past in
    let items = c.loop-at.row.items in (
      sym c.loop-at.invariant.good ∙ ap (bad_column (at + 1)) none,
      c.from_vec.ensures ∙ sym (append-nil items) ∙ ap (λ cells. items ++ values_of cells) (sym none) ∙ c.loop-at.invariant.values,
    )
