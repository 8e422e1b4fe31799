-- Lanes that tell contents without a fault show a world.
use Rattle.std.proofs.Common.{◌≡◌, ℕ, Bool, true, false, if◌then◌else◌, List, [], ◌∷◌, Option, Some, None, IfSome, refl, ap, ◌∙◌}
use Rattle.std.specs.Prelude.{All}
use Rattle.std.specs.Option.{option_map}
use Rattle.std.proofs.lemmas.List.Elements.{All-head, All-tail}
use Rattle.vdb_model.specs.declared.table.TableDef.{TableDef}
use Rattle.vdb_model.specs.Defined.{Defined}
use Rattle.vdb_model.specs.Rows.{Cells}
use Rattle.resource.specs.declared.lane.Lane.{Lane}
use Rattle.resource.specs.Reading.{Reading, Sound, CellFault, StoreFault, tables_of}
use Rattle.resource.specs.Told.{Told, under}
use Rattle.vdb_session.specs.declared.parts.Parts.{Parts}
use Rattle.vdb_session.specs.Shown.{tables_for, serves, server_shows, rows_of_table, with_rows, rows_of_tables, holds}
use Rattle.vdb_session.specs.Starting.{cell_fault, ReadsAs}
use Rattle.vdb.specs.Causes.{TellsContents}
use Rattle.vdb.specs.Headline.{world_held, Opens}

abbrev IsTold : Option (List (List Cells)) → Type 0
IsTold o = (tables : List (List Cells)) × (o ≡ Some tables)

sound_tables : (server : List ℕ) (defs : List TableDef) (reading : Reading) → cell_fault server defs reading ≡ None → IsTold (tables_of reading)
sound_tables server defs (Sound tables branch) e = (tables, refl)
sound_tables server defs (CellFault table row col) e = cc
sound_tables server defs (StoreFault table) e = cc

under_told : (server : List ℕ) (defs : List TableDef) (o : Option (List TableDef → Reading)) → (reads : List TableDef → Reading) × (o ≡ Some reads)
    → IfSome o (λ reads. cell_fault server defs (reads defs) ≡ None) → IsTold (under o defs)
under_told server defs None t e = (let h : None ≡ Some t.0 = t.1 in cc)
under_told server defs (Some reads) t e = sound_tables server defs (reads defs) e

either_told : (b : Bool) (x y : Option (List (List Cells))) → IsTold x → IsTold y → IsTold (if b then x else y)
either_told true x y p q = p
either_told false x y p q = q

module _ {S : Type 0} (told : S → Told) (cat : Defined) where
  server_told : (lanes : List (Lane S)) (server : ℕ) → TellsContents told lanes → All (ReadsAs told cat None) lanes → IsTold (server_shows (holds told cat) cat lanes server)
  server_told [] server t s = ([], refl)
  server_told (lane ∷ lanes) server t s =
      let tells = All-head (λ (lane : Lane S). (reads : List TableDef → Reading) × ((told lane.res).reads ≡ Some reads)) lane lanes t in
      let more = All-tail (λ (lane : Lane S). (reads : List TableDef → Reading) × ((told lane.res).reads ≡ Some reads)) lane lanes t in
      either_told (serves cat server lane.name) (holds told cat lane) (server_shows (holds told cat) cat lanes server)
      (under_told lane.name (tables_for cat lane.name) (told lane.res).reads tells (All-head (ReadsAs told cat None) lane lanes s))
      (server_told lanes server more (All-tail (ReadsAs told cat None) lane lanes s))

  tables_told : (lanes : List (Lane S)) (ds : List TableDef) → TellsContents told lanes → All (ReadsAs told cat None) lanes → IsTold (rows_of_tables (holds told cat) cat lanes ds)
  tables_told lanes [] t s = ([], refl)
  tables_told lanes (d ∷ ds) t s =
      let here = server_told lanes d.server t s in
      let rest = tables_told lanes ds t s in (
        rows_of_table cat d here.0 ∷ rest.0,
        ap (λ shown. with_rows (option_map (rows_of_table cat d) shown) (rows_of_tables (holds told cat) cat lanes ds)) here.1
            ∙ ap (with_rows (Some (rows_of_table cat d here.0))) rest.1,
      )

-- parts that open and tell their contents hold a world
pub world_told : {S : Type 0} (told : S → Told) (cat : Defined) (parts : Parts S) → TellsContents told parts.lanes → Opens told cat parts
    → (world : List (List Cells)) × (world_held told cat parts ≡ Some world)
world_told told cat parts t o = tables_told told cat parts.lanes cat.tables t o.reads
