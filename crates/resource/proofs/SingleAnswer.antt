-- The rows of a table that pass, cut to columns, are the answer to a query of it, and fit.
use Rattle.std.proofs.Common.{◌≡◌, ◌∙◌, Bool, true, false, ◌==◌, if◌then◌else◌, ℕ, zero, suc, List, [], ◌∷◌, refl, sym, ap, subst, rules}
use Rattle.std.specs.List.{filter}
use Rattle.std.specs.List.Sorted.{IsSorted}
use Rattle.std.specs.Prelude.{slice_index_or}
use Rattle.std.proofs.lemmas.Bool.{and_parts, and_from}
use Rattle.std.proofs.lemmas.List.{append-nil}
use Rattle.std.proofs.lemmas.List.Sorted.{IsPermutation-refl}
use Rattle.vdb_base.specs.declared.value.Ty.TheVariants.{Boolean}
use Rattle.vdb_base.specs.Fits.{fit_of}
use Rattle.vdb_model.specs.declared.expr.Expr.{Expr}
use Rattle.vdb_model.specs.declared.source.SourceQuery.{SourceQuery}
use Rattle.vdb_model.specs.declared.table.ColumnDef.{ColumnDef}
use Rattle.vdb_model.specs.declared.table.TableDef.{TableDef}
use Rattle.vdb_model.specs.Answers.{crossed, combos, passes_all, rows_of_each, passing, once, asked_bag, placed, AnsweredBy, Answered}
use Rattle.vdb_model.specs.Arranged.{Arranged}
use Rattle.vdb_model.specs.Asking.{types_of, query_types}
use Rattle.vdb_model.specs.Defs.{def_of}
use Rattle.vdb_model.specs.Keys.{keys_cmp}
use Rattle.vdb_model.specs.Meaning.{cell}
use Rattle.vdb_model.specs.Rows.{Cells, cut, cut_rows}
use Rattle.vdb_model.specs.World.{is_yes, takes_cell, takes_row, takes_rows, is_table, is_world, keeps_key, table_rows}
use Rattle.resource.specs.declared.stored.StoredTable.{StoredTable}
use Rattle.resource.specs.Asks.{types_at, answer_types, cells_fit, all_rows_fit}
use Rattle.resource.specs.Checked.{rows_numbered, passing_cut}
use Rattle.resource.specs.Stored.{rows_named, tables_in}
use Rattle.resource.proofs.SingleQuery.{SingleQuery}

crossed_none : (rows : List Cells) → crossed rows ([] ∷ []) ≡ rows
crossed_none [] = refl
crossed_none (row ∷ rows) = ap (λ first. first ∷ crossed rows ([] ∷ [])) (append-nil row) ∙ ap (λ more. row ∷ more) (crossed_none rows)

passing_one : (defs : List TableDef) (work : List (List Cells)) (q : SourceQuery) (p : SingleQuery q) → passing defs work q ≡ filter (passes_all q.filter) (table_rows defs work p.table)
passing_one defs work q p =
    ap (λ ts. filter (passes_all q.filter) (combos (rows_of_each defs work ts))) p.tables
    ∙ ap (filter (passes_all q.filter)) (crossed_none (table_rows defs work p.table))

bag_one : (defs : List TableDef) (work : List (List Cells)) (q : SourceQuery) (p : SingleQuery q) → asked_bag defs work q ≡ passing_cut q.filter q.columns (table_rows defs work p.table)
bag_one defs work q p =
    ap (λ b. once b (cut_rows q.columns (passing defs work q))) p.distinct
    ∙ ap (cut_rows q.columns) (passing_one defs work q p)

tied : (rows : List Cells) → IsSorted (keys_cmp []) rows
tied rows = search rules

arranged_as_is : (q : SourceQuery) (p : SingleQuery q) (out : List Cells) → Arranged (placed q.columns q.order) 0 q.limit out out
arranged_as_is q p out =
    subst (λ keys. Arranged (placed q.columns keys) 0 q.limit out out) (sym p.order) (
    subst (λ limit. Arranged [] 0 limit out out) (sym p.limit) (
    record { sorted = out; same = IsPermutation-refl out; in_order = tied out; cut = refl }))

pub answered : (defs : List TableDef) (work : List (List Cells)) (q : SourceQuery) (p : SingleQuery q) → Answered defs work q (passing_cut q.filter q.columns (table_rows defs work p.table))
answered defs work q p =
    let out = passing_cut q.filter q.columns (table_rows defs work p.table) in
    subst (λ b. AnsweredBy b defs work q out) (sym p.count) (
    subst (λ rows. Arranged (placed q.columns q.order) 0 q.limit rows out) (sym (bag_one defs work q p)) (arranged_as_is q p out))

-- a cell of a row that is taken fits its column
cell_fits : (cs : List ColumnDef) (row : Cells) (at : ℕ) → takes_row cs row ≡ true → is_yes (fit_of (cell row at) (slice_index_or (types_of cs) at Boolean)) ≡ true
cell_fits [] [] at h = refl
cell_fits [] (v ∷ vs) at h = cc
cell_fits (c ∷ cs) [] at h = refl
cell_fits (c ∷ cs) (v ∷ vs) zero h = (and_parts (is_yes (fit_of v c.ty)) _ (and_parts (takes_cell c v) (takes_row cs vs) h).0).0
cell_fits (c ∷ cs) (v ∷ vs) (suc at) h = cell_fits cs vs at (and_parts (takes_cell c v) (takes_row cs vs) h).1

cut_fits : (cs : List ColumnDef) (ats : List ℕ) (row : Cells) → takes_row cs row ≡ true → cells_fit (types_at (types_of cs) ats) (cut ats row) ≡ true
cut_fits cs [] row h = refl
cut_fits cs (at ∷ ats) row h =
    and_from (is_yes (fit_of (cell row at) (slice_index_or (types_of cs) at Boolean))) (cells_fit (types_at (types_of cs) ats) (cut ats row)) (cell_fits cs row at h) (cut_fits cs ats row h)

rows_fit : (cs : List ColumnDef) (es : List Expr) (ats : List ℕ) (rows : List Cells) → takes_rows cs rows ≡ true → all_rows_fit (types_at (types_of cs) ats) (passing_cut es ats rows) ≡ true
rows_fit cs es ats [] h = refl
rows_fit cs es ats (row ∷ rows) h =
    let parts = and_parts (takes_row cs row) (takes_rows cs rows) h in
    here (passes_all es row) (cut_fits cs ats row parts.0) (rows_fit cs es ats rows parts.1)
  where
    here : (b : Bool) → cells_fit (types_at (types_of cs) ats) (cut ats row) ≡ true → all_rows_fit (types_at (types_of cs) ats) (passing_cut es ats rows) ≡ true
        → all_rows_fit (types_at (types_of cs) ats) (cut_rows ats (if b then row ∷ filter (passes_all es) rows else filter (passes_all es) rows)) ≡ true
    here true first rest = and_from (cells_fit (types_at (types_of cs) ats) (cut ats row)) (all_rows_fit (types_at (types_of cs) ats) (passing_cut es ats rows)) first rest
    here false first rest = rest

-- a table's rows in a world are taken
taken_in : (n : ℕ) (defs : List TableDef) (work : List (List Cells)) → is_world defs work ≡ true → takes_rows (def_of defs n).columns (table_rows defs work n) ≡ true
taken_in n [] work h = refl
taken_in n (d ∷ ds) [] h = cc
taken_in n (d ∷ ds) (rows ∷ work) h =
    let parts = and_parts (is_table d rows) (is_world ds work) h in
    here (d.number == n) (and_parts (takes_rows d.columns rows) (keeps_key d.key rows) parts.0).0 (taken_in n ds work parts.1)
  where
    here : (b : Bool) → takes_rows d.columns rows ≡ true → takes_rows (def_of ds n).columns (table_rows ds work n) ≡ true → takes_rows (if b then d else def_of ds n).columns (if b then rows else table_rows ds work n) ≡ true
    here true first rest = first
    here false first rest = rest

pub fitting : (defs : List TableDef) (work : List (List Cells)) (q : SourceQuery) (p : SingleQuery q) → is_world defs work ≡ true
    → all_rows_fit (answer_types q.count defs q) (passing_cut q.filter q.columns (table_rows defs work p.table)) ≡ true
fitting defs work q p h =
    let cs = (def_of defs p.table).columns in
    let out = passing_cut q.filter q.columns (table_rows defs work p.table) in
    let types : query_types defs q.tables ≡ types_of cs = ap (query_types defs) p.tables ∙ append-nil (types_of cs) in
    ap (λ b. all_rows_fit (answer_types b defs q) out) p.count
    ∙ ap (λ ts. all_rows_fit (types_at ts q.columns) out) types
    ∙ rows_fit cs q.filter q.columns (table_rows defs work p.table) (taken_in p.table defs work h)

-- the rows of the world are those that are stored
pub looked_up : (n : ℕ) (stored : List StoredTable) (defs : List TableDef) → table_rows defs (tables_in stored defs) n ≡ rows_numbered n stored defs
looked_up n stored [] = refl
looked_up n stored (d ∷ ds) = ap (λ rows. if d.number == n then rows_named d.source stored else rows) (looked_up n stored ds)
