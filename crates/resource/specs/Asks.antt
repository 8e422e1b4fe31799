-- What a query needs of a resource, and what holds of its rows whether contents are told or not.
use Rattle.std.specs.Prelude.{◌≡◌, ℕ, Bool, true, false, ◌&&◌, List, [], ◌∷◌, length, Some, IfSome, slice_index_or}
use Rattle.vdb_base.specs.declared.value.Ty.{Ty}
use Rattle.vdb_base.specs.declared.value.Ty.TheVariants.{Boolean, Long}
use Rattle.vdb_base.specs.Fits.{fit_of}
use Rattle.vdb_model.specs.declared.source.SourceQuery.{SourceQuery}
use Rattle.vdb_model.specs.declared.table.TableDef.{TableDef}
use Rattle.vdb_model.specs.Rows.{Cells}
use Rattle.vdb_model.specs.World.{is_yes}
use Rattle.vdb_model.specs.Answers.{Answered}
use Rattle.vdb_model.specs.Can.{can}
use Rattle.vdb_model.specs.Asking.{query_types, is_typed, is_bound}
use Rattle.resource.specs.Told.{Told, work, is_open}

-- no branch, or one that takes changes; and the query is typed over the attached definitions, within the capabilities, and
-- meets the access patterns
pub record Allows (told : Told) (q : SourceQuery) : Type 0 where
  pub may_ask : is_open told.state ≡ true
  pub defs : List TableDef
  pub attached : told.defs ≡ Some defs
  pub typed : is_typed defs q ≡ true
  pub within : can told.caps defs q ≡ true
  pub bound : is_bound defs q ≡ true

abbrev pub types_at : List Ty → List ℕ → List Ty
types_at types [] = []
types_at types (at ∷ ats) = slice_index_or types at Boolean ∷ types_at types ats

-- the types of the columns of an answer
abbrev pub answer_types : Bool → List TableDef → SourceQuery → List Ty
answer_types true defs q = Long ∷ []
answer_types false defs q = types_at (query_types defs q.tables) q.columns

abbrev pub cells_fit : List Ty → Cells → Bool
cells_fit [] [] = true
cells_fit [] (v ∷ vs) = false
cells_fit (t ∷ ts) [] = false
cells_fit (t ∷ ts) (v ∷ vs) = is_yes (fit_of v t) && cells_fit ts vs

abbrev pub all_rows_fit : List Ty → List Cells → Bool
all_rows_fit types [] = true
all_rows_fit types (row ∷ rows) = cells_fit types row && all_rows_fit types rows

-- one cell per asked column, which fits it; for a count one row of one number
pub record FitRows (told : Told) (q : SourceQuery) (rows : List Cells) : Type 0 where
  pub cells : IfSome told.defs (λ defs. all_rows_fit (answer_types q.count defs q) rows ≡ true)
  pub one : q.count ≡ true → length rows ≡ 1

-- where contents are told, the rows are an answer to the query over the tables as seen now
abbrev pub AnswersQuery : Told → SourceQuery → List Cells → Type 0
AnswersQuery told q rows = IfSome told.defs (λ defs. IfSome (work told) (λ tables. Answered defs tables q rows))
