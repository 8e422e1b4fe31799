-- A change keeps a world a world.
use Rattle.std.proofs.Common.{◌≡◌, Bool, true, false, not, ◌==◌, if◌then◌else◌, List, [], ◌∷◌, ◌++◌, refl}
use Rattle.std.proofs.lemmas.Bool.{and_parts, and_from}
use Rattle.vdb_model.specs.declared.source.Delta.{Delta}
use Rattle.vdb_model.specs.declared.table.ColumnDef.{ColumnDef}
use Rattle.vdb_model.specs.declared.table.TableDef.{TableDef}
use Rattle.vdb_model.specs.Defs.{def_of}
use Rattle.vdb_model.specs.Deltas.{without_one, without_each, changed, after_delta, repeats_key}
use Rattle.vdb_model.specs.Rows.{Cells, same_row}
use Rattle.vdb_model.specs.World.{takes_row, takes_rows, keeps_key, is_table, is_world, table_rows}

taken_but_one : (cs : List ColumnDef) (row : Cells) (rows : List Cells) → takes_rows cs rows ≡ true → takes_rows cs (without_one row rows) ≡ true
taken_but_one cs row [] h = refl
taken_but_one cs row (other ∷ rows) h =
    let parts = and_parts (takes_row cs other) (takes_rows cs rows) h in
    here (same_row row other) parts.0 parts.1 (taken_but_one cs row rows parts.1)
  where
    here : (b : Bool) → takes_row cs other ≡ true → takes_rows cs rows ≡ true → takes_rows cs (without_one row rows) ≡ true → takes_rows cs (if b then rows else other ∷ without_one row rows) ≡ true
    here true first all rest = all
    here false first all rest = and_from (takes_row cs other) (takes_rows cs (without_one row rows)) first rest

taken_but_each : (cs : List ColumnDef) (removed rows : List Cells) → takes_rows cs rows ≡ true → takes_rows cs (without_each removed rows) ≡ true
taken_but_each cs [] rows h = h
taken_but_each cs (row ∷ removed) rows h = taken_but_each cs removed (without_one row rows) (taken_but_one cs row rows h)

taken_both : (cs : List ColumnDef) (front rows : List Cells) → takes_rows cs front ≡ true → takes_rows cs rows ≡ true → takes_rows cs (front ++ rows) ≡ true
taken_both cs [] rows h k = k
taken_both cs (row ∷ front) rows h k =
    let parts = and_parts (takes_row cs row) (takes_rows cs front) h in
    and_from (takes_row cs row) (takes_rows cs (front ++ rows)) parts.0 (taken_both cs front rows parts.1 k)

table_changed : (d : TableDef) (delta : Delta) (rows : List Cells) → is_table d rows ≡ true → takes_rows d.columns delta.added ≡ true → not (keeps_key d.key (changed delta rows)) ≡ false → is_table d (changed delta rows) ≡ true
table_changed d delta rows h added key =
    let parts = and_parts (takes_rows d.columns rows) (keeps_key d.key rows) h in
    and_from (takes_rows d.columns (changed delta rows)) (keeps_key d.key (changed delta rows))
    (taken_both d.columns (without_each delta.removed rows) delta.added (taken_but_each d.columns delta.removed rows parts.0) added) (not_false (keeps_key d.key (changed delta rows)) key)
  where
    not_false : (b : Bool) → not b ≡ false → b ≡ true
    not_false true e = refl
    not_false false e = cc

-- the tables after a change without a repeated key
pub world_changed : (defs : List TableDef) (tables : List (List Cells)) (delta : Delta) → is_world defs tables ≡ true
    → takes_rows (def_of defs delta.table).columns delta.added ≡ true → repeats_key defs tables delta ≡ false → is_world defs (after_delta defs tables delta) ≡ true
world_changed [] [] delta h added key = h
world_changed [] (rows ∷ tables) delta h added key = cc
world_changed (d ∷ ds) [] delta h added key = cc
world_changed (d ∷ ds) (rows ∷ tables) delta h added key =
    let parts = and_parts (is_table d rows) (is_world ds tables) h in
    here (d.number == delta.table) parts.0 parts.1 added key (world_changed ds tables delta parts.1)
  where
    here : (b : Bool) → is_table d rows ≡ true → is_world ds tables ≡ true → takes_rows (if b then d else def_of ds delta.table).columns delta.added ≡ true
        → not (keeps_key (if b then d else def_of ds delta.table).key (changed delta (if b then rows else table_rows ds tables delta.table))) ≡ false
        → (takes_rows (def_of ds delta.table).columns delta.added ≡ true → repeats_key ds tables delta ≡ false → is_world ds (after_delta ds tables delta) ≡ true)
        → is_world (d ∷ ds) (if b then changed delta rows ∷ tables else rows ∷ after_delta ds tables delta) ≡ true
    here true first all a k rest = and_from (is_table d (changed delta rows)) (is_world ds tables) (table_changed d delta rows first a k) all
    here false first all a k rest = and_from (is_table d rows) (is_world ds (after_delta ds tables delta)) first (rest a k)
