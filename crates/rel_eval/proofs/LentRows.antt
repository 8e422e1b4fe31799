-- Lists of rows that are lent.
use Rattle.std.proofs.Common.{◌≡◌, ◌∙◌, ℕ, zero, suc, List, [], ◌∷◌, ◌++◌, refl, ap, map, length, take, drop, min, arith, subst, IsPermutation, IsSorted, IsSortedBy}
use Rattle.std.specs.declared.cmp.Ordering.{Ordering}
use Rattle.std.specs.Ordering.{is_lt}
use denote.Ref.{Bor}
use Rattle.vdb_model.specs.Rows.{Cells}
use Rattle.rel_eval.specs.Lent.{lent}
use Rattle.rel_eval.proofs.ShownRows.{shown_same, shown_sorted}

pub lent_is_map : (rows : List (Bor Cells)) → map (λ row. row.now) rows ≡ lent rows
lent_is_map [] = refl
lent_is_map (row ∷ rows) = ap (λ z. row.now ∷ z) (lent_is_map rows)

-- a count that is at most the length
pub drop_at_most : (k n : ℕ) (rows : List (Bor Cells)) → k ≡ min n (length rows) → lent (drop k rows) ≡ drop n (lent rows)
drop_at_most zero zero rows e = refl
drop_at_most (suc k) zero rows e = absurd (omega (arith, e))
drop_at_most zero (suc n) [] e = refl
drop_at_most (suc k) (suc n) [] e = refl
drop_at_most zero (suc n) (row ∷ rows) e = absurd (omega (arith, e))
drop_at_most (suc k) (suc n) (row ∷ rows) e = drop_at_most k n rows (omega (arith, e))

pub take_at_most : (k n : ℕ) (rows : List (Bor Cells)) → k ≡ min n (length rows) → lent (take k rows) ≡ take n (lent rows)
take_at_most zero zero rows e = refl
take_at_most (suc k) zero rows e = absurd (omega (arith, e))
take_at_most zero (suc n) [] e = refl
take_at_most (suc k) (suc n) [] e = refl
take_at_most zero (suc n) (row ∷ rows) e = absurd (omega (arith, e))
take_at_most (suc k) (suc n) (row ∷ rows) e = ap (λ z. row.now ∷ z) (take_at_most k n rows (omega (arith, e)))

pub lent_push : (rows : List (Bor Cells)) (row : Bor Cells) → lent (rows ++ row ∷ []) ≡ lent rows ++ row.now ∷ []
lent_push [] row = refl
lent_push (r ∷ rows) row = ap (λ z. r.now ∷ z) (lent_push rows row)

pub lent_length : (rows : List (Bor Cells)) → length (lent rows) ≡ length rows
lent_length [] = refl
lent_length (row ∷ rows) = ap suc (lent_length rows)

pub lent_same : (rows : List Cells) (before after : List (Bor Cells)) → lent before ≡ rows → IsPermutation before after → IsPermutation rows (lent after)
lent_same rows before after e h = subst (IsPermutation rows) (lent_is_map after) (shown_same (λ (row : Bor Cells). row.now) rows before after (lent_is_map before ∙ e) h)

pub lent_sorted : (R : Cells → Cells → Ordering) (rows : List (Bor Cells)) → IsSortedBy (λ (a b : Bor Cells). is_lt (R a.now b.now)) rows → IsSorted R (lent rows)
lent_sorted R rows h = subst (IsSorted R) (lent_is_map rows) (shown_sorted (λ (row : Bor Cells). row.now) R rows h)

pub ruleset lent_rules = (drop_at_most, take_at_most)
