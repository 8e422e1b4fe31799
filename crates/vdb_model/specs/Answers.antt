-- What a source may answer to a source query.
use Rattle.std.specs.Prelude.{◌≡◌, ℕ, ◌+◌, ◌==◌, Bool, true, false, ◌&&◌, if◌then◌else◌, List, [], ◌∷◌, ◌++◌, length, pos}
use Rattle.std.specs.List.{filter}
use Rattle.vdb_model.specs.declared.expr.Expr.{Expr}
use Rattle.vdb_model.specs.declared.rel.Key.{Key}
use Rattle.vdb_model.specs.declared.table.TableDef.{TableDef}
use Rattle.vdb_model.specs.declared.source.SourceQuery.{SourceQuery}
use Rattle.vdb_model.specs.Number.{number}
use Rattle.vdb_model.specs.Rows.{Cells, passes, cut_rows, distinct_rows}
use Rattle.vdb_model.specs.World.{table_rows}
use Rattle.vdb_model.specs.Arranged.{Arranged}

abbrev pub before : Cells → List Cells → List Cells
before row [] = []
before row (tail ∷ tails) = (row ++ tail) ∷ before row tails

abbrev pub crossed : List Cells → List Cells → List Cells
crossed [] tails = []
crossed (row ∷ rows) tails = before row tails ++ crossed rows tails

-- all combinations of rows, one of each list
abbrev pub combos : List (List Cells) → List Cells
combos [] = [] ∷ []
combos (rows ∷ more) = crossed rows (combos more)

abbrev pub passes_all : List Expr → Cells → Bool
passes_all [] row = true
passes_all (e ∷ es) row = passes e [] row && passes_all es row

abbrev pub rows_of_each : List TableDef → List (List Cells) → List ℕ → List (List Cells)
rows_of_each defs tables [] = []
rows_of_each defs tables (t ∷ ts) = table_rows defs tables t ∷ rows_of_each defs tables ts

-- the combinations of rows of the query's tables that pass every filter
abbrev pub passing : List TableDef → List (List Cells) → SourceQuery → List Cells
passing defs tables q = filter (passes_all q.filter) (combos (rows_of_each defs tables q.tables))

abbrev pub once : Bool → List Cells → List Cells
once true rows = distinct_rows rows
once false rows = rows

-- these cut to the columns, equal rows once where that is asked
abbrev pub asked_bag : List TableDef → List (List Cells) → SourceQuery → List Cells
asked_bag defs tables q = once q.distinct (cut_rows q.columns (passing defs tables q))

-- where a column stands among the columns that are asked
abbrev pub place_of : List ℕ → ℕ → ℕ
place_of [] column = 0
place_of (c ∷ cs) column = if c == column then 0 else 1 + place_of cs column

-- the keys, by the places of their columns among those that are asked
abbrev pub placed : List ℕ → List Key → List Key
placed columns [] = []
placed columns (key ∷ keys) = record { column = place_of columns key.column; desc = key.desc } ∷ placed columns keys

abbrev pub counted : List Cells → List Cells
counted rows = (number (pos (length rows)) ∷ []) ∷ []

-- the bag in the asked order, as far as the limit goes, or its number of rows
abbrev pub AnsweredBy : Bool → List TableDef → List (List Cells) → SourceQuery → List Cells → Type 0
AnsweredBy true defs tables q out = out ≡ counted (passing defs tables q)
AnsweredBy false defs tables q out = Arranged (placed q.columns q.order) 0 q.limit (asked_bag defs tables q) out

-- what a source whose tables have these rows may answer
abbrev pub Answered : List TableDef → List (List Cells) → SourceQuery → List Cells → Type 0
Answered defs tables q out = AnsweredBy q.count defs tables q out
