-- The rows of a join by the right rows that can match.
use Rattle.std.proofs.Common.{◌≡◌, ◌∙◌, ℕ, Bool, true, false, true≢false, List, [], ◌∷◌, ◌++◌, if◌then◌else◌, refl, sym, ap, length}
use Rattle.std.specs.List.{list_any}
use Rattle.vdb_model.specs.declared.expr.Expr.{Expr}
use Rattle.vdb_model.specs.Groups.{members}
use Rattle.vdb_model.specs.Logic.{is_null}
use Rattle.vdb_model.specs.Rows.{Cells, cut, passes, same_row, matches}
use Rattle.vdb_base.specs.Total.{row_total}
use Rattle.std.specs.declared.cmp.Ordering.{Ordering}
use Rattle.std.specs.declared.cmp.Ordering.TheVariants.{Less, Equal, Greater}
use Rattle.std.specs.Ordering.{is_eq, ordering_reverse}
use Rattle.vdb_base.specs.Order.{row_cmp}
use Rattle.rel_eval.specs.Indexed.{under}
use Rattle.rel_eval.specs.Sides.{Serves, candidates}
use Rattle.rel_eval.specs.declared.joining.Side.{Side}

same_itself : (row : Cells) → same_row row row ≡ true
same_itself row = at (row_cmp row row) (row_total.antisymm row row)
  where
    at : (o : Ordering) → o ≡ ordering_reverse o → is_eq o ≡ true
    at Less e = cc
    at Equal e = refl
    at Greater e = cc

module _ (on : Expr) (vars left : Cells) where
  -- no row passes
  none_matches : (rights : List Cells) → ((right : Cells) → passes on vars (left ++ right) ≡ true → ⊥) → matches on vars left rights ≡ []
  none_matches [] h = refl
  none_matches (right ∷ rights) h = at (passes on vars (left ++ right)) refl (none_matches rights h)
    where
      at : (b : Bool) → passes on vars (left ++ right) ≡ b → matches on vars left rights ≡ [] → (if b then (left ++ right) ∷ matches on vars left rights else matches on vars left rights) ≡ []
      at true e ih = absurd (h right e)
      at false e ih = ih

  -- the rows that pass are among those with the key
  among_members : (columns : List ℕ) (key : Cells) (rights : List Cells) → ((right : Cells) → passes on vars (left ++ right) ≡ true → cut columns right ≡ key)
      → matches on vars left (members columns key rights) ≡ matches on vars left rights
  among_members columns key [] h = refl
  among_members columns key (right ∷ rights) h = at (same_row (cut columns right) key) (passes on vars (left ++ right)) refl refl (among_members columns key rights h)
    where
      at : (a b : Bool) → same_row (cut columns right) key ≡ a → passes on vars (left ++ right) ≡ b
          → matches on vars left (members columns key rights) ≡ matches on vars left rights
          → matches on vars left (if a then right ∷ members columns key rights else members columns key rights) ≡ (if b then (left ++ right) ∷ matches on vars left rights else matches on vars left rights)
      at true true e f ih = rw f (ap (λ z. (left ++ right) ∷ z) ih)
      at true false e f ih = rw f ih
      at false true e f ih = absurd (true≢false (sym (ap (λ z. same_row z key) (h right f) ∙ same_itself key) ∙ e))
      at false false e f ih = ih

  pub matched_by_index : (rights : List Cells) (side : Side) → Serves on rights side → length left ≡ side.width → matches on vars left (candidates side left) ≡ matches on vars left rights
  matched_by_index rights side s w = at (list_any is_null (cut side.equal.now.lefts left)) refl
    where
      at : (b : Bool) → list_any is_null (cut side.equal.now.lefts left) ≡ b
          → matches on vars left (if b then [] else under side.index (cut side.equal.now.lefts left)) ≡ matches on vars left rights
      at true e = sym (none_matches rights (λ right p. true≢false (sym e ∙ (s.forced left right vars w p).1)))
      at false e = ap (matches on vars left) (s.indexed (cut side.equal.now.lefts left)) ∙ among_members side.equal.now.rights (cut side.equal.now.lefts left) rights (λ right p. (s.forced left right vars w p).0)
