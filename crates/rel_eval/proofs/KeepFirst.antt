-- One step of keeping the first of the rows that are the same.
use Rattle.std.proofs.Common.{◌≡◌, ◌∙◌, Bool, true, false, ◌||◌, List, [], ◌∷◌, ◌++◌, refl, sym, ap, subst, append_assoc}
use Rattle.std.specs.List.{list_any}
use Rattle.std.specs.declared.cmp.Ordering.{Ordering}
use Rattle.std.specs.declared.cmp.Ordering.TheVariants.{Less, Equal, Greater}
use Rattle.std.specs.Ordering.{is_eq, ordering_reverse}
use Rattle.vdb_base.specs.Total.{row_total}
use Rattle.vdb_base.specs.Order.{row_cmp}
use Rattle.vdb_model.specs.Rows.{Cells, distinct_after, same_row}
use Rattle.vdb_model.proofs.SameDistinct.{equal_rows}

pub keep_new : (kept rest all : List Cells) (row : Cells) → list_any (same_row row) kept ≡ false → kept ++ distinct_after kept (row ∷ rest) ≡ all
    → (kept ++ row ∷ []) ++ distinct_after (kept ++ row ∷ []) rest ≡ all
keep_new kept rest all row new e = append_assoc kept (row ∷ []) (distinct_after (kept ++ row ∷ []) rest) ∙ (rw new at e)

pub drop_old : (kept rest all : List Cells) (row : Cells) → list_any (same_row row) kept ≡ true → kept ++ distinct_after kept (row ∷ rest) ≡ all
    → kept ++ distinct_after kept rest ≡ all
drop_old kept rest all row old e = rw old at e

flipped : (o : Ordering) → is_eq (ordering_reverse o) ≡ is_eq o
flipped Less = refl
flipped Equal = refl
flipped Greater = refl

pub same_row-sym : (a b : Cells) → same_row a b ≡ same_row b a
same_row-sym a b = ap is_eq (row_total.antisymm a b) ∙ flipped (row_cmp b a)

or_false : (b : Bool) → (b || false) ≡ b
or_false true = refl
or_false false = refl

pub seen_push : (q row : Cells) (kept : List Cells) → list_any (same_row q) (kept ++ row ∷ []) ≡ (same_row row q || list_any (same_row q) kept)
seen_push q row [] = ap (λ b. b || false) (same_row-sym q row)
seen_push q row (k ∷ kept) = ap (λ b. same_row q k || b) (seen_push q row kept) ∙ swap_or (same_row q k) (same_row row q) (list_any (same_row q) kept)
  where
    swap_or : (a b c : Bool) → (a || (b || c)) ≡ (b || (a || c))
    swap_or true true c = refl
    swap_or true false c = refl
    swap_or false true c = refl
    swap_or false false c = refl

seen_at : (q row : Cells) (kept : List Cells) (b : Bool) → same_row row q ≡ b → list_any (same_row row) kept ≡ true → (b || list_any (same_row q) kept) ≡ list_any (same_row q) kept
seen_at q row kept true e old = sym (subst (λ z. list_any (same_row z) kept ≡ true) (equal_rows row q e) old)
seen_at q row kept false e old = refl

-- a row that was seen is no news
pub seen_old : (q row : Cells) (kept : List Cells) → list_any (same_row row) kept ≡ true → (same_row row q || list_any (same_row q) kept) ≡ list_any (same_row q) kept
seen_old q row kept old = seen_at q row kept (same_row row q) refl old
