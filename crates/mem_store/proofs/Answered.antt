-- A row that is answered stands in its table.
use Rattle.std.proofs.Common.{◌≡◌, ◌∙◌, ℕ, suc, Bool, true, false, ◌==◌, if◌then◌else◌, List, [], ◌∷◌, length, Option, Some, None, IfSome, refl, sym, ap, subst, arith}
use Rattle.std.specs.Option.{unwrap_or}
use Rattle.std.specs.List.{filter, list_any}
use Rattle.std.proofs.lemmas.Bool.{and_parts, and_from}
use Rattle.std.proofs.lemmas.List.{append-nil}
use Rattle.std.proofs.lemmas.List.Sorted.{list_any-IsPermutation}
use Rattle.vdb_base.specs.declared.value.Ty.TheVariants.{Integer, Str}
use Rattle.vdb_model.specs.declared.source.SourceQuery.{SourceQuery}
use Rattle.vdb_model.specs.declared.table.ColumnDef.{ColumnDef}
use Rattle.vdb_model.specs.declared.table.TableDef.{TableDef}
use Rattle.vdb_model.specs.Answers.{crossed, passes_all, asked_bag, Answered}
use Rattle.vdb_model.specs.Asking.{types_of, query_types}
use Rattle.vdb_model.specs.Defs.{def_of}
use Rattle.vdb_model.specs.Deltas.{are_there}
use Rattle.vdb_model.specs.Rows.{Cells, same_row, cut, cut_rows}
use Rattle.vdb_model.specs.World.{takes_cell, takes_row, takes_rows, is_table, is_world, keeps_key, table_rows}

-- all of a table of two columns
abbrev pub all_of : ℕ → SourceQuery
all_of t = record { tables = t ∷ []; filter = []; columns = 0 ∷ 1 ∷ []; distinct = false; order = []; limit = None; count = false }

crossed_none : (rows : List Cells) → crossed rows ([] ∷ []) ≡ rows
crossed_none [] = refl
crossed_none (row ∷ rows) = ap (λ first. first ∷ crossed rows ([] ∷ [])) (append-nil row) ∙ ap (λ more. row ∷ more) (crossed_none rows)

all_pass : (rows : List Cells) → filter (passes_all []) rows ≡ rows
all_pass [] = refl
all_pass (row ∷ rows) = ap (λ more. row ∷ more) (all_pass rows)

-- all columns of a row of two cells
whole : (row : Cells) → length row ≡ 2 → cut (0 ∷ 1 ∷ []) row ≡ row
whole [] h = absurd (omega (arith, h))
whole (a ∷ []) h = absurd (omega (arith, h))
whole (a ∷ b ∷ []) h = refl
whole (a ∷ b ∷ c ∷ rest) h = absurd (omega (arith, h))

as_long : (cs : List ColumnDef) (row : Cells) → takes_row cs row ≡ true → length row ≡ length cs
as_long [] [] h = refl
as_long [] (v ∷ vs) h = cc
as_long (c ∷ cs) [] h = cc
as_long (c ∷ cs) (v ∷ vs) h = ap suc (as_long cs vs (and_parts (takes_cell c v) (takes_row cs vs) h).1)

wholes : (cs : List ColumnDef) (rows : List Cells) → length cs ≡ 2 → takes_rows cs rows ≡ true → cut_rows (0 ∷ 1 ∷ []) rows ≡ rows
wholes cs [] two h = refl
wholes cs (row ∷ rows) two h =
    let parts = and_parts (takes_row cs row) (takes_rows cs rows) h in
    ap (λ first. first ∷ cut_rows (0 ∷ 1 ∷ []) rows) (whole row (as_long cs row parts.0 ∙ two)) ∙ ap (λ more. row ∷ more) (wholes cs rows two parts.1)

-- a table's rows in a world are taken
taken_in : (n : ℕ) (defs : List TableDef) (tables : List (List Cells)) → is_world defs tables ≡ true → takes_rows (def_of defs n).columns (table_rows defs tables n) ≡ true
taken_in n [] tables h = refl
taken_in n (d ∷ ds) [] h = cc
taken_in n (d ∷ ds) (rows ∷ tables) h =
    let parts = and_parts (is_table d rows) (is_world ds tables) h in
    here (d.number == n) (and_parts (takes_rows d.columns rows) (keeps_key d.key rows) parts.0).0 (taken_in n ds tables parts.1)
  where
    here : (b : Bool) → takes_rows d.columns rows ≡ true → takes_rows (def_of ds n).columns (table_rows ds tables n) ≡ true → takes_rows (if b then d else def_of ds n).columns (if b then rows else table_rows ds tables n) ≡ true
    here true first rest = first
    here false first rest = rest

counted : (cs : List ColumnDef) → length (types_of cs) ≡ length cs
counted [] = refl
counted (c ∷ cs) = ap suc (counted cs)

two_columns : (n : ℕ) (defs : List TableDef) → query_types defs (n ∷ []) ≡ Integer ∷ Str ∷ [] → length (def_of defs n).columns ≡ 2
two_columns n defs h = sym (counted (def_of defs n).columns) ∙ ap length (sym (append-nil (types_of (def_of defs n).columns)) ∙ h)

pub stands_there : (n : ℕ) (defs : List TableDef) (tables : List (List Cells)) (row : Cells) (rows : List Cells) → query_types defs (n ∷ []) ≡ Integer ∷ Str ∷ [] → is_world defs tables ≡ true
    → Answered defs tables (all_of n) rows → list_any (same_row row) rows ≡ true → are_there (row ∷ []) (table_rows defs tables n) ≡ true
stands_there n defs tables row rows typed world answered among =
    let table = table_rows defs tables n in
    let bag : asked_bag defs tables (all_of n) ≡ table =
    ap (λ l. cut_rows (0 ∷ 1 ∷ []) (filter (passes_all []) l)) (crossed_none table)
    ∙ ap (cut_rows (0 ∷ 1 ∷ [])) (all_pass table)
    ∙ wholes (def_of defs n).columns table (two_columns n defs typed) (taken_in n defs tables world) in
    let same : list_any (same_row row) (asked_bag defs tables (all_of n)) ≡ list_any (same_row row) rows =
    list_any-IsPermutation (same_row row) (asked_bag defs tables (all_of n)) answered.sorted answered.same ∙ ap (list_any (same_row row)) (sym answered.cut) in
    and_from (list_any (same_row row) table) true (sym (ap (list_any (same_row row)) bag) ∙ same ∙ among) refl

-- the same of what a store tells
pub told_there : (o : Option (List TableDef)) (w : Option (List (List Cells))) (defs : List TableDef) (q : SourceQuery) (row : Cells) (rows : List Cells) → o ≡ Some defs → q ≡ all_of 3 → query_types defs (3 ∷ []) ≡ Integer ∷ Str ∷ []
    → IfSome o (λ ds. IfSome w (λ ts. Answered ds ts q rows)) → IfSome w (λ ts. is_world (unwrap_or o []) ts ≡ true) → list_any (same_row row) rows ≡ true
    → IfSome w (λ ts. are_there (row ∷ []) (table_rows defs ts 3) ≡ true)
told_there None w defs q row rows is asked typed answered world among = absurd (cc is)
told_there (Some ds) None defs q row rows is asked typed answered world among = tt
told_there (Some ds) (Some ts) defs q row rows is asked typed answered world among =
    let same : ds ≡ defs = some_is ds defs is in
    stands_there 3 defs ts row rows typed (subst (λ d. is_world d ts ≡ true) same world) (subst (λ x. Answered defs ts x rows) asked (subst (λ d. Answered d ts q rows) same answered)) among
  where
    some_is : (a b : List TableDef) → Some a ≡ Some b → a ≡ b
    some_is a b e = cc
