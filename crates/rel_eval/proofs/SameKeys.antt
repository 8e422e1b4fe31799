-- Keys that are compared, and fed, cell by cell.
use Rattle.std.proofs.Common.{◌≡◌, ◌∙◌, ◌≢◌, ℕ, suc, Bool, true, false, ◌&&◌, List, [], ◌∷◌, refl, sym, ap, length, fold}
use Rattle.std.specs.Hash.{fed_then}
use Rattle.std.specs.declared.cmp.Ordering.{Ordering}
use Rattle.std.specs.declared.cmp.Ordering.TheVariants.{Less, Equal, Greater}
use Rattle.std.specs.Ordering.{is_eq, ordering_then}
use Rattle.vdb_base.specs.Order.{value_cmp, row_cmp}
use Rattle.vdb_base.specs.declared.value.Value.{Value}
use Rattle.vdb_model.specs.Rows.{Cells, cut, same_row}
use Rattle.vdb_model.proofs.SameDistinct.{equal_rows}
use Rattle.rel_eval.specs.Fed.{fed_cells, fed_value}

both_equal : (o p : Ordering) → is_eq (ordering_then o p) ≡ (is_eq o && is_eq p)
both_equal Less p = refl
both_equal Equal p = refl
both_equal Greater p = refl

pub same_step : (x y : Value) (xs ys : Cells) → same_row (x ∷ xs) (y ∷ ys) ≡ (is_eq (value_cmp x y) && same_row xs ys)
same_step x y xs ys = both_equal (value_cmp x y) (row_cmp xs ys)

cut_length : (columns : List ℕ) (row : Cells) → length (cut columns row) ≡ length columns
cut_length [] row = refl
cut_length (column ∷ columns) row = ap suc (cut_length columns row)

pub other_length : (lefts rights : List ℕ) (left right : Cells) → length lefts ≢ length rights → same_row (cut lefts left) (cut rights right) ≡ false
other_length lefts rights left right other = at (same_row (cut lefts left) (cut rights right)) refl
  where
    at : (b : Bool) → same_row (cut lefts left) (cut rights right) ≡ b → b ≡ false
    at false e = refl
    at true e = absurd (other (sym (cut_length lefts left) ∙ ap length (equal_rows (cut lefts left) (cut rights right) e) ∙ cut_length rights right))

pub fed_step : {S : Type 0} (write : S → List ℕ → S) (s t : S) (v : Value) (vs : Cells) → t ≡ fold write s (fed_value v) → fold write t (fed_cells vs) ≡ fold write s (fed_cells (v ∷ vs))
fed_step write s t v vs e = fed_then write s t (fold write t (fed_cells vs)) (fed_value v) (fed_cells vs) e refl
