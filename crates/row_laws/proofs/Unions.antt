-- Union, and the tables and views that relations name, where each has the same rows.
use Rattle.std.proofs.Common.{◌≡◌, List, [], ◌∷◌, ℕ, zero, suc, refl, slice_index_or}
use Rattle.std.proofs.lemmas.List.Sorted.{IsPermutation-refl, IsPermutation-append}
use Rattle.vdb_model.specs.declared.bag.Bag.{Bag}
use Rattle.vdb_model.specs.Relations.{no_bag, first_width, union_rows}
use Rattle.vdb_model.proofs.SameRows.{Same}
use Rattle.row_laws.specs.AnyOrder.{SameBag, SameBags}

pub same_itself : (a : Bag) → SameBag a a
same_itself a = record { width = refl; rows = IsPermutation-refl a.rows }

pub same_at : (xs ys : List Bag) → SameBags xs ys → (i : ℕ) → SameBag (slice_index_or xs i no_bag) (slice_index_or ys i no_bag)
same_at [] [] h i = same_itself no_bag
same_at [] (y ∷ ys) h i = absurd h
same_at (x ∷ xs) [] h i = absurd h
same_at (x ∷ xs) (y ∷ ys) h zero = h.0
same_at (x ∷ xs) (y ∷ ys) h (suc i) = same_at xs ys h.1 i

pub same_width : (xs ys : List Bag) → SameBags xs ys → first_width xs ≡ first_width ys
same_width [] [] h = refl
same_width [] (y ∷ ys) h = absurd h
same_width (x ∷ xs) [] h = absurd h
same_width (x ∷ xs) (y ∷ ys) h = h.0.width

pub same_union : (xs ys : List Bag) → SameBags xs ys → Same (union_rows xs) (union_rows ys)
same_union [] [] h = IsPermutation-refl []
same_union [] (y ∷ ys) h = absurd h
same_union (x ∷ xs) [] h = absurd h
same_union (x ∷ xs) (y ∷ ys) h = IsPermutation-append x.rows y.rows (union_rows xs) (union_rows ys) h.0.rows (same_union xs ys h.1)
