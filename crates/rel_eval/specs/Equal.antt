-- Columns of the two sides of a join that have to be equal for its condition to be TRUE.
use Rattle.std.specs.Prelude.{◌≡◌, ℕ, false, true, List, ◌++◌, length}
use Rattle.std.specs.List.{list_any, list_all}
use Rattle.vdb_model.specs.declared.expr.CmpOp.TheVariants.{Eq}
use Rattle.vdb_model.specs.declared.expr.Expr.{Expr}
use Rattle.vdb_model.specs.Logic.{is_null, is_true, compared}
use Rattle.vdb_model.specs.Meaning.{value, values}
use Rattle.vdb_model.specs.Rows.{Cells, cut, passes}

-- the columns of the left row equal those of the right one, and none is NULL
abbrev pub AreEqual : List ℕ → List ℕ → Cells → Cells → Type 0
AreEqual lefts rights left right = (cut rights right ≡ cut lefts left) × (list_any is_null (cut lefts left) ≡ false)

-- so it is for left rows of the width wherever the condition is TRUE
abbrev pub IsForced : Expr → ℕ → List ℕ → List ℕ → Type 0
IsForced e width lefts rights = (left right vars : Cells) → length left ≡ width → passes e vars (left ++ right) ≡ true → AreEqual lefts rights left right

-- wherever all the conditions are TRUE
abbrev pub AreForced : List Expr → ℕ → List ℕ → List ℕ → Type 0
AreForced es width lefts rights = (left right vars : Cells) → length left ≡ width → list_all is_true (values es (left ++ right) vars) ≡ true → AreEqual lefts rights left right

-- wherever the two are equal
abbrev pub IsForcedBy : Expr → Expr → ℕ → List ℕ → List ℕ → Type 0
IsForcedBy a b width lefts rights =
    (left right vars : Cells) → length left ≡ width → is_true (compared Eq (value a (left ++ right) vars) (value b (left ++ right) vars)) ≡ true → AreEqual lefts rights left right
