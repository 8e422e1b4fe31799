-- The equations of `expanded_over`, one for each kind of relation.
use Rattle.std.proofs.Common.{◌≡◌, ◌∙◌, List, [], ◌∷◌, ℕ, map, ap, sym, refl, slice_index_or}
use Rattle.vdb_model.specs.declared.expr.Expr.{Expr}
use Rattle.vdb_model.specs.declared.rel.JoinKind.{JoinKind}
use Rattle.vdb_model.specs.declared.rel.Agg.{Agg}
use Rattle.vdb_model.specs.declared.rel.Rel.{Rel}
use Rattle.vdb_model.specs.declared.rel.Rel.TheVariants.{One, Table, View, Where, Select, Join, Group, Distinct, Union, rolls-One, rolls-Table, rolls-View, rolls-Where, rolls-Select, rolls-Join, rolls-Group, rolls-Distinct, rolls-Union}
use Rattle.vdb_model.specs.declared.rel.Rel.TheOpen.{Rel-F}
use Rattle.vdb_model.specs.declared.rel.Rel.TheFolds.{fold-roll-Rel}
use Rattle.vdb_model.specs.Expanded.{expanded_step, expanded_over}
use Rattle.view_stack.specs.Parts.{expanded_each}

module _ (views : List Rel) where
  each_tree : (rs : List Rel) → map (expanded_over views) rs ≡ expanded_each views rs
  each_tree [] = refl
  each_tree (r ∷ rs) = ap (λ (xs : List Rel). expanded_over views r ∷ xs) (each_tree rs)

  pub tree-One : expanded_over views One ≡ One
  unfolding expanded_over
  tree-One = ap (expanded_over views) (sym rolls-One) ∙ fold-roll-Rel Rel (expanded_step views) Rel-F.One

  pub tree-Table : (t : ℕ) → expanded_over views (Table t) ≡ Table t
  unfolding expanded_over
  tree-Table t = ap (expanded_over views) (sym (rolls-Table t)) ∙ fold-roll-Rel Rel (expanded_step views) (Rel-F.Table t)

  pub tree-View : (v : ℕ) → expanded_over views (View v) ≡ slice_index_or views v (View v)
  unfolding expanded_over
  tree-View v = ap (expanded_over views) (sym (rolls-View v)) ∙ fold-roll-Rel Rel (expanded_step views) (Rel-F.View v)

  pub tree-Where : (r : Rel) (e : Expr) → expanded_over views (Where r e) ≡ Where (expanded_over views r) e
  unfolding expanded_over
  tree-Where r e = ap (expanded_over views) (sym (rolls-Where r e)) ∙ fold-roll-Rel Rel (expanded_step views) (Rel-F.Where r e)

  pub tree-Select : (r : Rel) (es : List Expr) → expanded_over views (Select r es) ≡ Select (expanded_over views r) es
  unfolding expanded_over
  tree-Select r es = ap (expanded_over views) (sym (rolls-Select r es)) ∙ fold-roll-Rel Rel (expanded_step views) (Rel-F.Select r es)

  pub tree-Join : (kind : JoinKind) (l : Rel) (r : Rel) (on : Expr) → expanded_over views (Join kind l r on) ≡ Join kind (expanded_over views l) (expanded_over views r) on
  unfolding expanded_over
  tree-Join kind l r on = ap (expanded_over views) (sym (rolls-Join kind l r on)) ∙ fold-roll-Rel Rel (expanded_step views) (Rel-F.Join kind l r on)

  pub tree-Group : (r : Rel) (keys : List ℕ) (aggs : List Agg) → expanded_over views (Group r keys aggs) ≡ Group (expanded_over views r) keys aggs
  unfolding expanded_over
  tree-Group r keys aggs = ap (expanded_over views) (sym (rolls-Group r keys aggs)) ∙ fold-roll-Rel Rel (expanded_step views) (Rel-F.Group r keys aggs)

  pub tree-Distinct : (r : Rel) → expanded_over views (Distinct r) ≡ Distinct (expanded_over views r)
  unfolding expanded_over
  tree-Distinct r = ap (expanded_over views) (sym (rolls-Distinct r)) ∙ fold-roll-Rel Rel (expanded_step views) (Rel-F.Distinct r)

  pub tree-Union : (rs : List Rel) → expanded_over views (Union rs) ≡ Union (expanded_each views rs)
  unfolding expanded_over
  tree-Union rs = ap (expanded_over views) (sym (rolls-Union rs)) ∙ fold-roll-Rel Rel (expanded_step views) (Rel-F.Union rs) ∙ ap (Union) (each_tree rs)

pub ruleset tree_of_kinds = (tree-One, tree-Table, tree-View, tree-Where, tree-Select, tree-Join, tree-Group, tree-Distinct, tree-Union)
