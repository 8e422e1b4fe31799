-- The equations of `names_first`, one for each kind of relation.
use Rattle.std.proofs.Common.{◌≡◌, ◌∙◌, Bool, true, ◌&&◌, List, [], ◌∷◌, ℕ, map, ap, sym, refl, nat_lt}
use Rattle.vdb_model.specs.declared.expr.Expr.{Expr}
use Rattle.vdb_model.specs.declared.rel.JoinKind.{JoinKind}
use Rattle.vdb_model.specs.declared.rel.Agg.{Agg}
use Rattle.vdb_model.specs.declared.rel.Rel.{Rel}
use Rattle.vdb_model.specs.declared.rel.Rel.TheVariants.{One, Table, View, Where, Select, Join, Group, Distinct, Union, rolls-One, rolls-Table, rolls-View, rolls-Where, rolls-Select, rolls-Join, rolls-Group, rolls-Distinct, rolls-Union}
use Rattle.vdb_model.specs.declared.rel.Rel.TheOpen.{Rel-F}
use Rattle.vdb_model.specs.declared.rel.Rel.TheFolds.{fold-roll-Rel}
use Rattle.vdb_model.specs.Closed.{all_true}
use Rattle.vdb_model.specs.Stacked.{named_step, names_first}
use Rattle.view_stack.specs.Parts.{named_each}

module _ (count : ℕ) where
  each_named : (rs : List Rel) → map (names_first count) rs ≡ named_each count rs
  each_named [] = refl
  each_named (r ∷ rs) = ap (λ (xs : List Bool). names_first count r ∷ xs) (each_named rs)

  pub named-One : names_first count One ≡ true
  unfolding names_first
  named-One = ap (names_first count) (sym rolls-One) ∙ fold-roll-Rel Bool (named_step count) Rel-F.One

  pub named-Table : (t : ℕ) → names_first count (Table t) ≡ true
  unfolding names_first
  named-Table t = ap (names_first count) (sym (rolls-Table t)) ∙ fold-roll-Rel Bool (named_step count) (Rel-F.Table t)

  pub named-View : (v : ℕ) → names_first count (View v) ≡ nat_lt v count
  unfolding names_first
  named-View v = ap (names_first count) (sym (rolls-View v)) ∙ fold-roll-Rel Bool (named_step count) (Rel-F.View v)

  pub named-Where : (r : Rel) (e : Expr) → names_first count (Where r e) ≡ names_first count r
  unfolding names_first
  named-Where r e = ap (names_first count) (sym (rolls-Where r e)) ∙ fold-roll-Rel Bool (named_step count) (Rel-F.Where r e)

  pub named-Select : (r : Rel) (es : List Expr) → names_first count (Select r es) ≡ names_first count r
  unfolding names_first
  named-Select r es = ap (names_first count) (sym (rolls-Select r es)) ∙ fold-roll-Rel Bool (named_step count) (Rel-F.Select r es)

  pub named-Join : (kind : JoinKind) (l : Rel) (r : Rel) (on : Expr) → names_first count (Join kind l r on) ≡ (names_first count l && names_first count r)
  unfolding names_first
  named-Join kind l r on = ap (names_first count) (sym (rolls-Join kind l r on)) ∙ fold-roll-Rel Bool (named_step count) (Rel-F.Join kind l r on)

  pub named-Group : (r : Rel) (keys : List ℕ) (aggs : List Agg) → names_first count (Group r keys aggs) ≡ names_first count r
  unfolding names_first
  named-Group r keys aggs = ap (names_first count) (sym (rolls-Group r keys aggs)) ∙ fold-roll-Rel Bool (named_step count) (Rel-F.Group r keys aggs)

  pub named-Distinct : (r : Rel) → names_first count (Distinct r) ≡ names_first count r
  unfolding names_first
  named-Distinct r = ap (names_first count) (sym (rolls-Distinct r)) ∙ fold-roll-Rel Bool (named_step count) (Rel-F.Distinct r)

  pub named-Union : (rs : List Rel) → names_first count (Union rs) ≡ all_true (named_each count rs)
  unfolding names_first
  named-Union rs = ap (names_first count) (sym (rolls-Union rs)) ∙ fold-roll-Rel Bool (named_step count) (Rel-F.Union rs) ∙ ap (all_true) (each_named rs)

pub ruleset named_of_kinds = (named-One, named-Table, named-View, named-Where, named-Select, named-Join, named-Group, named-Distinct, named-Union)
