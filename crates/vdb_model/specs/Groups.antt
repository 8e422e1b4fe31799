-- Group: one row per list of key values that occurs, the keys and then the aggregates.
use Rattle.std.specs.Prelude.{ℕ, if◌then◌else◌, List, [], ◌∷◌, ◌++◌, length, ℤ, pos, ◌+ℤ◌}
use Rattle.std.specs.List.{filter}
use Rattle.std.specs.Ordering.{is_lt}
use Rattle.vdb_base.specs.declared.value.Value.{Value}
use Rattle.vdb_base.specs.declared.value.Value.TheVariants.{Null, Bool as Truth, Num, Str}
use Rattle.vdb_base.specs.Order.{value_cmp}
use Rattle.vdb_model.specs.declared.expr.Expr.{Expr}
use Rattle.vdb_model.specs.declared.rel.Agg.{Agg}
use Rattle.vdb_model.specs.declared.rel.Agg.TheVariants.{CountStar, Count, Sum, Min, Max}
use Rattle.vdb_model.specs.Logic.{is_null}
use Rattle.vdb_model.specs.Number.{number}
use Rattle.vdb_model.specs.Meaning.{value}
use Rattle.vdb_model.specs.Rows.{Cells, same_row, cut, cut_rows, distinct_rows}

-- the values of an expression over rows that aren't NULL
abbrev pub known : Expr → Cells → List Cells → List Value
known e vars [] = []
known e vars (row ∷ rows) = let v = value e row vars in if is_null v then known e vars rows else v ∷ known e vars rows

-- the sum of the numbers among the values, of any size
abbrev pub total : List Value → ℤ
total [] = pos 0
total (Num n ∷ vs) = n +ℤ total vs
total (Null ∷ vs) = total vs
total (Truth b ∷ vs) = total vs
total (Str s ∷ vs) = total vs

abbrev pub sum_of : List Value → Value
sum_of [] = Null
sum_of (v ∷ vs) = number (total (v ∷ vs))

abbrev pub lesser : Value → Value → Value
lesser a b = if is_lt (value_cmp b a) then b else a

abbrev pub greater : Value → Value → Value
greater a b = if is_lt (value_cmp a b) then b else a

-- the least of a value and more
abbrev pub least : Value → List Value → Value
least a [] = a
least a (v ∷ vs) = least (lesser a v) vs

abbrev pub greatest : Value → List Value → Value
greatest a [] = a
greatest a (v ∷ vs) = greatest (greater a v) vs

abbrev pub min_of : List Value → Value
min_of [] = Null
min_of (v ∷ vs) = least v vs

abbrev pub max_of : List Value → Value
max_of [] = Null
max_of (v ∷ vs) = greatest v vs

-- COUNT(*) counts rows, COUNT values that aren't NULL; the others are NULL where there is no such value
abbrev pub aggregate : Agg → Cells → List Cells → Value
aggregate CountStar vars rows = number (pos (length rows))
aggregate (Count e) vars rows = number (pos (length (known e vars rows)))
aggregate (Sum e) vars rows = sum_of (known e vars rows)
aggregate (Min e) vars rows = min_of (known e vars rows)
aggregate (Max e) vars rows = max_of (known e vars rows)

abbrev pub aggregates : List Agg → Cells → List Cells → Cells
aggregates [] vars rows = []
aggregates (agg ∷ aggs) vars rows = aggregate agg vars rows ∷ aggregates aggs vars rows

-- the lists of key values that occur, each once; without keys the empty one, also where there is no row
abbrev pub key_lists : List ℕ → List Cells → List Cells
key_lists [] rows = [] ∷ []
key_lists (key ∷ keys) rows = distinct_rows (cut_rows (key ∷ keys) rows)

-- the rows whose keys have these values
abbrev pub members : List ℕ → Cells → List Cells → List Cells
members keys group rows = filter (λ row. same_row (cut keys row) group) rows

abbrev pub rows_by_group : List ℕ → List Agg → Cells → List Cells → List Cells → List Cells
rows_by_group keys aggs vars rows [] = []
rows_by_group keys aggs vars rows (group ∷ groups) = (group ++ aggregates aggs vars (members keys group rows)) ∷ rows_by_group keys aggs vars rows groups

abbrev pub group_rows : List ℕ → List Agg → Cells → List Cells → List Cells
group_rows keys aggs vars rows = rows_by_group keys aggs vars rows (key_lists keys rows)
