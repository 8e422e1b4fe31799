-- The tables of attached definitions in memory, one for each in their order.
use Rattle.std.specs.Prelude.{◌≡◌, ◌≢◌, ℕ, ◌<◌, false, List, [], length, get_or, Option, Some, None}
use Rattle.vdb_model.specs.declared.table.TableDef.{TableDef}
use Rattle.vdb_model.specs.Defs.{is_defined}
use Rattle.vdb_model.specs.Rows.{Cells}
use Rattle.store_tables.specs.Tables.{TableHas}
use Rattle.store_tables.specs.declared.shelf.Shelf.{Shelf}
use Rattle.store_tables.specs.declared.table.Table.{Table}

-- the tables have these rows, as kept and as seen
pub record TablesHave (defs : List TableDef) (kept seen : List (List Cells)) (tables : List Table) : Type 0 where
  pub kept_len : length kept ≡ length defs
  pub seen_len : length seen ≡ length defs
  pub len : length tables ≡ length defs
  pub each : (i : ℕ) (d : TableDef) (t : Table) → i < length defs → TableHas (get_or defs i d).key (get_or kept i []) (get_or seen i []) (get_or tables i t)

abbrev pub ShelfHas : List (List Cells) → List (List Cells) → Shelf → Type 0
ShelfHas kept seen shelf = TablesHave shelf.defs kept seen shelf.tables.items

-- the first definition with the number stands at this place
pub record IsPlace (n : ℕ) (defs : List TableDef) (at : ℕ) : Type 0 where
  pub within : at < length defs
  pub here : (d : TableDef) → (get_or defs at d).number ≡ n
  pub first : (k : ℕ) (d : TableDef) → k < at → (get_or defs k d).number ≢ n

-- that place, or none where no definition has the number
abbrev pub PlaceIs : ℕ → List TableDef → Option ℕ → Type 0
PlaceIs n defs (Some at) = IsPlace n defs at
PlaceIs n defs None = is_defined defs n ≡ false

-- the definitions stay, and so does what each table has
pub record SameShelf (old new : Shelf) : Type 0 where
  pub defs : new.defs ≡ old.defs
  pub has : (kept seen : List (List Cells)) → ShelfHas kept seen old → ShelfHas kept seen new
