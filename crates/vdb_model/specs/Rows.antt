-- What the operators over rows give: Where, Select, Join, Distinct and the cutting to columns.
use Rattle.std.specs.Prelude.{ℕ, Bool, if◌then◌else◌, List, [], ◌∷◌, ◌++◌, replicate}
use Rattle.std.specs.List.{filter, list_any}
use Rattle.std.specs.Ordering.{is_eq}
use Rattle.vdb_base.specs.declared.value.Value.{Value}
use Rattle.vdb_base.specs.declared.value.Value.TheVariants.{Null}
use Rattle.vdb_base.specs.Order.{row_cmp}
use Rattle.vdb_model.specs.declared.expr.Expr.{Expr}
use Rattle.vdb_model.specs.declared.rel.JoinKind.{JoinKind}
use Rattle.vdb_model.specs.declared.rel.JoinKind.TheVariants.{Inner, Left}
use Rattle.vdb_model.specs.Logic.{is_true}
use Rattle.vdb_model.specs.Meaning.{cell, value, values}

abbrev pub Cells : Type 0
Cells = List Value

-- the condition is TRUE at the row
abbrev pub passes : Expr → Cells → Cells → Bool
passes condition vars row = is_true (value condition row vars)

-- Where: the rows whose condition is TRUE
abbrev pub where_rows : Expr → Cells → List Cells → List Cells
where_rows condition vars rows = filter (passes condition vars) rows

-- Select: one row of values per row
abbrev pub select_rows : List Expr → Cells → List Cells → List Cells
select_rows es vars [] = []
select_rows es vars (row ∷ rows) = values es row vars ∷ select_rows es vars rows

-- one left row with each right row, where the condition is TRUE
abbrev pub matches : Expr → Cells → Cells → List Cells → List Cells
matches on vars left [] = []
matches on vars left (right ∷ rights) =
    if passes on vars (left ++ right) then (left ++ right) ∷ matches on vars left rights else matches on vars left rights

-- a left join keeps a left row without a match, with NULLs behind it
abbrev pub padded : JoinKind → ℕ → Cells → List Cells → List Cells
padded Left width left [] = (left ++ replicate width Null) ∷ []
padded Left width left (row ∷ rows) = row ∷ rows
padded Inner width left rows = rows

-- Join: through the left rows in turn, and for each through the right rows in turn
abbrev pub join_rows : JoinKind → ℕ → Expr → Cells → List Cells → List Cells → List Cells
join_rows kind width on vars [] rights = []
join_rows kind width on vars (left ∷ lefts) rights = padded kind width left (matches on vars left rights) ++ join_rows kind width on vars lefts rights

-- two rows are the same where the order says so
abbrev pub same_row : Cells → Cells → Bool
same_row a b = is_eq (row_cmp a b)

-- Distinct: the first of the rows that are the same
abbrev pub distinct_after : List Cells → List Cells → List Cells
distinct_after seen [] = []
distinct_after seen (row ∷ rows) = if list_any (same_row row) seen then distinct_after seen rows else row ∷ distinct_after (seen ++ row ∷ []) rows

abbrev pub distinct_rows : List Cells → List Cells
distinct_rows rows = distinct_after [] rows

-- a row cut to columns
abbrev pub cut : List ℕ → Cells → Cells
cut [] row = []
cut (at ∷ ats) row = cell row at ∷ cut ats row

abbrev pub cut_rows : List ℕ → List Cells → List Cells
cut_rows ats [] = []
cut_rows ats (row ∷ rows) = cut ats row ∷ cut_rows ats rows
