-- Lists of rows with ranks.
use Rattle.std.proofs.Common.{◌≡◌, ◌∙◌, List, [], ◌∷◌, ◌++◌, refl, ap, map, subst, IsPermutation, IsSorted, IsSortedBy}
use Rattle.std.specs.declared.cmp.Ordering.{Ordering}
use Rattle.std.specs.Ordering.{is_lt}
use Rattle.vdb_model.specs.Rows.{Cells}
use Rattle.rel_eval.specs.declared.ranking.Ranked.{Ranked}
use Rattle.rel_eval.specs.RankedRows.{rows_in}
use Rattle.rel_eval.proofs.ShownRows.{shown_same, shown_sorted}

rows_in_is_map : (rs : List Ranked) → map (λ (r : Ranked). r.row.now) rs ≡ rows_in rs
rows_in_is_map [] = refl
rows_in_is_map (r ∷ rs) = ap (λ z. r.row.now ∷ z) (rows_in_is_map rs)

pub rows_in_push : (rs : List Ranked) (r : Ranked) → rows_in (rs ++ r ∷ []) ≡ rows_in rs ++ r.row.now ∷ []
rows_in_push [] r = refl
rows_in_push (s ∷ rs) r = ap (λ z. s.row.now ∷ z) (rows_in_push rs r)

pub rows_in_same : (rows : List Cells) (before after : List Ranked) → rows_in before ≡ rows → IsPermutation before after → IsPermutation rows (rows_in after)
rows_in_same rows before after e h = subst (IsPermutation rows) (rows_in_is_map after) (shown_same (λ (r : Ranked). r.row.now) rows before after (rows_in_is_map before ∙ e) h)

pub rows_in_sorted : (R : Cells → Cells → Ordering) (rs : List Ranked) → IsSortedBy (λ (a b : Ranked). is_lt (R a.row.now b.row.now)) rs → IsSorted R (rows_in rs)
rows_in_sorted R rs h = subst (IsSorted R) (rows_in_is_map rs) (shown_sorted (λ (r : Ranked). r.row.now) R rs h)
