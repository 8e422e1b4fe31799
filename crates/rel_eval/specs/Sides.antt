-- The right side of a join.
use Rattle.std.specs.Prelude.{◌≡◌, if◌then◌else◌, List, []}
use Rattle.std.specs.List.{list_any}
use Rattle.vdb_model.specs.declared.expr.Expr.{Expr}
use Rattle.vdb_model.specs.Groups.{members}
use Rattle.vdb_model.specs.Logic.{is_null}
use Rattle.vdb_model.specs.Rows.{Cells, cut}
use Rattle.rel_eval.specs.declared.joining.Side.{Side}
use Rattle.rel_eval.specs.Equal.{IsForced}
use Rattle.rel_eval.specs.Indexed.{under}
use Rattle.rel_eval.specs.Lent.{lent}

-- it has the right rows, also by the columns that the condition needs to be equal
pub record Serves (on : Expr) (rights : List Cells) (side : Side) : Type 0 where
  pub rows : lent side.rows.items ≡ rights
  pub forced : IsForced on side.width side.equal.now.lefts side.equal.now.rights
  pub indexed : (key : Cells) → under side.index key ≡ members side.equal.now.rights key rights

-- the right rows that the index has for a left row
abbrev pub candidates : Side → Cells → List Cells
candidates side left = if list_any is_null (cut side.equal.now.lefts left) then [] else under side.index (cut side.equal.now.lefts left)
