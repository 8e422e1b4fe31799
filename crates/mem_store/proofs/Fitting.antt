-- Rows that go into the columns of their tables.
use Rattle.std.proofs.Common.{◌≡◌, ℕ, Bool, true, false, not, ◌==◌, ◌&&◌, ◌||◌, List, [], ◌∷◌, None, refl, sym, ap, ◌∙◌}
use Rattle.std.proofs.lemmas.List.{append-nil}
use Rattle.std.proofs.lemmas.List.Sorted.{list_any-IsPermutation}
use Rattle.std.specs.List.{list_any}
use Rattle.std.specs.Prelude.{if◌then◌else◌}
use Rattle.vdb_base.specs.declared.value.Ty.{Ty}
use Rattle.vdb_model.specs.declared.source.Delta.{Delta}
use Rattle.vdb_model.specs.declared.source.SourceQuery.{SourceQuery}
use Rattle.vdb_model.specs.declared.table.TableDef.{TableDef}
use Rattle.vdb_model.specs.Asking.{types_of, query_types}
use Rattle.vdb_model.specs.Defs.{def_of}
use Rattle.vdb_model.specs.Deltas.{changed, after_delta}
use Rattle.vdb_model.specs.Rows.{Cells}
use Rattle.vdb_model.specs.World.{takes_rows, keeps_key, table_rows}
use Rattle.resource.specs.Asks.{types_at, answer_types, cells_fit, all_rows_fit}
use Rattle.resource.specs.Checked.{passing_cut}
use Rattle.resource.proofs.Changed.{world_changed}
use Rattle.resource.proofs.SingleAnswer.{fitting}
use Rattle.resource.proofs.SingleQuery.{SingleQuery}
use Rattle.store_tables.specs.Counting.{SameBag}
use Rattle.store_tables.proofs.Listed.{rearranged}
use Rattle.mem_store.specs.Standing.{keyless, all_take}

keyless_columns : (defs : List TableDef) (n : ℕ) → (def_of (keyless defs) n).columns ≡ (def_of defs n).columns
keyless_columns [] n = refl
keyless_columns (d ∷ ds) n = here (d.number == n) (keyless_columns ds n)
  where
    here : (b : Bool) → (def_of (keyless ds) n).columns ≡ (def_of ds n).columns → (if b then record d { key = None } else def_of (keyless ds) n).columns ≡ (if b then d else def_of ds n).columns
    here true rest = refl
    here false rest = rest

keyless_key : (defs : List TableDef) (n : ℕ) → (def_of (keyless defs) n).key ≡ None
keyless_key [] n = refl
keyless_key (d ∷ ds) n = here (d.number == n) (keyless_key ds n)
  where
    here : (b : Bool) → (def_of (keyless ds) n).key ≡ None → (if b then record d { key = None } else def_of (keyless ds) n).key ≡ None
    here true rest = refl
    here false rest = rest

keyless_delta : (defs : List TableDef) (tables : List (List Cells)) (delta : Delta) → after_delta (keyless defs) tables delta ≡ after_delta defs tables delta
keyless_delta [] tables delta = refl
keyless_delta (d ∷ ds) [] delta = refl
keyless_delta (d ∷ ds) (rows ∷ tables) delta = ap (λ rest. if d.number == delta.table then changed delta rows ∷ tables else rows ∷ rest) (keyless_delta ds tables delta)

keyless_rows : (defs : List TableDef) (tables : List (List Cells)) (n : ℕ) → table_rows (keyless defs) tables n ≡ table_rows defs tables n
keyless_rows [] tables n = refl
keyless_rows (d ∷ ds) [] n = refl
keyless_rows (d ∷ ds) (rows ∷ tables) n = ap (λ rest. if d.number == n then rows else rest) (keyless_rows ds tables n)

-- and so do those that a change adds
pub changed_takes : (defs : List TableDef) (tables : List (List Cells)) (delta : Delta) → all_take defs tables ≡ true → takes_rows (def_of defs delta.table).columns delta.added ≡ true → all_take defs (after_delta defs tables delta) ≡ true
changed_takes defs tables delta h added =
    ap (all_take defs) (sym (keyless_delta defs tables delta))
    ∙ world_changed (keyless defs) tables delta h (ap (λ columns. takes_rows columns delta.added) (keyless_columns defs delta.table) ∙ added)
    (ap (λ key. not (keeps_key key (changed delta (table_rows (keyless defs) tables delta.table)))) (keyless_key defs delta.table))

-- the rows of an answer fit
fits_as_is : (defs : List TableDef) (work : List (List Cells)) (q : SourceQuery) (p : SingleQuery q) → all_take defs work ≡ true → all_rows_fit (answer_types q.count defs q) (passing_cut q.filter q.columns (table_rows defs work p.table)) ≡ true
fits_as_is defs work q p h =
    let types : (ds : List TableDef) → query_types ds q.tables ≡ types_of (def_of ds p.table).columns = λ ds. ap (query_types ds) p.tables ∙ append-nil (types_of (def_of ds p.table).columns) in
    let answers : (ds : List TableDef) → answer_types q.count ds q ≡ types_at (types_of (def_of ds p.table).columns) q.columns = λ ds. ap (λ b. answer_types b ds q) p.count ∙ ap (λ ts. types_at ts q.columns) (types ds) in
    let same : answer_types q.count (keyless defs) q ≡ answer_types q.count defs q = answers (keyless defs) ∙ ap (λ columns. types_at (types_of columns) q.columns) (keyless_columns defs p.table) ∙ sym (answers defs) in
    ap (λ ts. all_rows_fit ts (passing_cut q.filter q.columns (table_rows defs work p.table))) (sym same)
    ∙ ap (λ rows. all_rows_fit (answer_types q.count (keyless defs) q) (passing_cut q.filter q.columns rows)) (sym (keyless_rows defs work p.table))
    ∙ fitting (keyless defs) work q p h

-- a row that doesn't fit is one of them
fit_by_any : (types : List Ty) (rows : List Cells) → all_rows_fit types rows ≡ not (list_any (λ row. not (cells_fit types row)) rows)
fit_by_any types [] = refl
fit_by_any types (row ∷ rows) = here (cells_fit types row) (fit_by_any types rows)
  where
    here : (b : Bool) → all_rows_fit types rows ≡ not (list_any (λ r. not (cells_fit types r)) rows) → (b && all_rows_fit types rows) ≡ not (not b || list_any (λ r. not (cells_fit types r)) rows)
    here true rest = rest
    here false rest = refl

pub fits_like : (types : List Ty) (made rows : List Cells) → SameBag made rows → all_rows_fit types rows ≡ true → all_rows_fit types made ≡ true
fits_like types made rows same h =
    fit_by_any types made
    ∙ ap not (list_any-IsPermutation (λ row. not (cells_fit types row)) made rows (rearranged made rows same))
    ∙ sym (fit_by_any types rows) ∙ h

pub answer_fits : (defs : List TableDef) (work : List (List Cells)) (q : SourceQuery) (p : SingleQuery q) (made : List Cells) → SameBag made (passing_cut q.filter q.columns (table_rows defs work p.table)) → all_take defs work ≡ true
    → all_rows_fit (answer_types q.count defs q) made ≡ true
answer_fits defs work q p made same h = fits_like (answer_types q.count defs q) made (passing_cut q.filter q.columns (table_rows defs work p.table)) same (fits_as_is defs work q p h)
