-- The equations of `nodes_of` and `depth_of`, one for each kind of relation.
use Rattle.std.proofs.Common.{◌≡◌, ◌∙◌, ◌+◌, max, List, [], ◌∷◌, ℕ, map, ap, sym, refl, slice_get}
use Rattle.vdb_model.specs.declared.expr.Expr.{Expr}
use Rattle.vdb_model.specs.declared.rel.JoinKind.{JoinKind}
use Rattle.vdb_model.specs.declared.rel.Agg.{Agg}
use Rattle.vdb_model.specs.declared.rel.Rel.{Rel}
use Rattle.vdb_model.specs.declared.rel.Rel.TheVariants.{One, Table, View, Where, Select, Join, Group, Distinct, Union, rolls-One, rolls-Table, rolls-View, rolls-Where, rolls-Select, rolls-Join, rolls-Group, rolls-Distinct, rolls-Union}
use Rattle.vdb_model.specs.declared.rel.Rel.TheOpen.{Rel-F}
use Rattle.vdb_model.specs.declared.rel.Rel.TheFolds.{fold-roll-Rel}
use Rattle.vdb_model.specs.declared.catalog.ViewDef.{ViewDef}
use Rattle.vdb_model.specs.Sizes.{together, greatest, kept_nodes, kept_depth, nodes_step, nodes_of, depth_step, depth_of}
use Rattle.view_stack.specs.Parts.{nodes_each, depth_each}

module _ (views : List ViewDef) where
  each_nodes : (rs : List Rel) → map (nodes_of views) rs ≡ nodes_each views rs
  each_nodes [] = refl
  each_nodes (r ∷ rs) = ap (λ (xs : List ℕ). nodes_of views r ∷ xs) (each_nodes rs)

  pub nodes-One : nodes_of views One ≡ 1
  unfolding nodes_of
  nodes-One = ap (nodes_of views) (sym rolls-One) ∙ fold-roll-Rel ℕ (nodes_step views) Rel-F.One

  pub nodes-Table : (t : ℕ) → nodes_of views (Table t) ≡ 1
  unfolding nodes_of
  nodes-Table t = ap (nodes_of views) (sym (rolls-Table t)) ∙ fold-roll-Rel ℕ (nodes_step views) (Rel-F.Table t)

  pub nodes-View : (v : ℕ) → nodes_of views (View v) ≡ kept_nodes (slice_get views v)
  unfolding nodes_of
  nodes-View v = ap (nodes_of views) (sym (rolls-View v)) ∙ fold-roll-Rel ℕ (nodes_step views) (Rel-F.View v)

  pub nodes-Where : (r : Rel) (e : Expr) → nodes_of views (Where r e) ≡ nodes_of views r + 1
  unfolding nodes_of
  nodes-Where r e = ap (nodes_of views) (sym (rolls-Where r e)) ∙ fold-roll-Rel ℕ (nodes_step views) (Rel-F.Where r e)

  pub nodes-Select : (r : Rel) (es : List Expr) → nodes_of views (Select r es) ≡ nodes_of views r + 1
  unfolding nodes_of
  nodes-Select r es = ap (nodes_of views) (sym (rolls-Select r es)) ∙ fold-roll-Rel ℕ (nodes_step views) (Rel-F.Select r es)

  pub nodes-Join : (kind : JoinKind) (l : Rel) (r : Rel) (on : Expr) → nodes_of views (Join kind l r on) ≡ nodes_of views l + nodes_of views r + 1
  unfolding nodes_of
  nodes-Join kind l r on = ap (nodes_of views) (sym (rolls-Join kind l r on)) ∙ fold-roll-Rel ℕ (nodes_step views) (Rel-F.Join kind l r on)

  pub nodes-Group : (r : Rel) (keys : List ℕ) (aggs : List Agg) → nodes_of views (Group r keys aggs) ≡ nodes_of views r + 1
  unfolding nodes_of
  nodes-Group r keys aggs = ap (nodes_of views) (sym (rolls-Group r keys aggs)) ∙ fold-roll-Rel ℕ (nodes_step views) (Rel-F.Group r keys aggs)

  pub nodes-Distinct : (r : Rel) → nodes_of views (Distinct r) ≡ nodes_of views r + 1
  unfolding nodes_of
  nodes-Distinct r = ap (nodes_of views) (sym (rolls-Distinct r)) ∙ fold-roll-Rel ℕ (nodes_step views) (Rel-F.Distinct r)

  pub nodes-Union : (rs : List Rel) → nodes_of views (Union rs) ≡ together (nodes_each views rs) + 1
  unfolding nodes_of
  nodes-Union rs = ap (nodes_of views) (sym (rolls-Union rs)) ∙ fold-roll-Rel ℕ (nodes_step views) (Rel-F.Union rs) ∙ ap (λ (ns : List ℕ). together ns + 1) (each_nodes rs)

  each_depth : (rs : List Rel) → map (depth_of views) rs ≡ depth_each views rs
  each_depth [] = refl
  each_depth (r ∷ rs) = ap (λ (xs : List ℕ). depth_of views r ∷ xs) (each_depth rs)

  pub depth-One : depth_of views One ≡ 1
  unfolding depth_of
  depth-One = ap (depth_of views) (sym rolls-One) ∙ fold-roll-Rel ℕ (depth_step views) Rel-F.One

  pub depth-Table : (t : ℕ) → depth_of views (Table t) ≡ 1
  unfolding depth_of
  depth-Table t = ap (depth_of views) (sym (rolls-Table t)) ∙ fold-roll-Rel ℕ (depth_step views) (Rel-F.Table t)

  pub depth-View : (v : ℕ) → depth_of views (View v) ≡ kept_depth (slice_get views v)
  unfolding depth_of
  depth-View v = ap (depth_of views) (sym (rolls-View v)) ∙ fold-roll-Rel ℕ (depth_step views) (Rel-F.View v)

  pub depth-Where : (r : Rel) (e : Expr) → depth_of views (Where r e) ≡ depth_of views r + 1
  unfolding depth_of
  depth-Where r e = ap (depth_of views) (sym (rolls-Where r e)) ∙ fold-roll-Rel ℕ (depth_step views) (Rel-F.Where r e)

  pub depth-Select : (r : Rel) (es : List Expr) → depth_of views (Select r es) ≡ depth_of views r + 1
  unfolding depth_of
  depth-Select r es = ap (depth_of views) (sym (rolls-Select r es)) ∙ fold-roll-Rel ℕ (depth_step views) (Rel-F.Select r es)

  pub depth-Join : (kind : JoinKind) (l : Rel) (r : Rel) (on : Expr) → depth_of views (Join kind l r on) ≡ max (depth_of views l) (depth_of views r) + 1
  unfolding depth_of
  depth-Join kind l r on = ap (depth_of views) (sym (rolls-Join kind l r on)) ∙ fold-roll-Rel ℕ (depth_step views) (Rel-F.Join kind l r on)

  pub depth-Group : (r : Rel) (keys : List ℕ) (aggs : List Agg) → depth_of views (Group r keys aggs) ≡ depth_of views r + 1
  unfolding depth_of
  depth-Group r keys aggs = ap (depth_of views) (sym (rolls-Group r keys aggs)) ∙ fold-roll-Rel ℕ (depth_step views) (Rel-F.Group r keys aggs)

  pub depth-Distinct : (r : Rel) → depth_of views (Distinct r) ≡ depth_of views r + 1
  unfolding depth_of
  depth-Distinct r = ap (depth_of views) (sym (rolls-Distinct r)) ∙ fold-roll-Rel ℕ (depth_step views) (Rel-F.Distinct r)

  pub depth-Union : (rs : List Rel) → depth_of views (Union rs) ≡ greatest (depth_each views rs) + 1
  unfolding depth_of
  depth-Union rs = ap (depth_of views) (sym (rolls-Union rs)) ∙ fold-roll-Rel ℕ (depth_step views) (Rel-F.Union rs) ∙ ap (λ (ns : List ℕ). greatest ns + 1) (each_depth rs)

pub ruleset nodes_of_kinds = (nodes-One, nodes-Table, nodes-View, nodes-Where, nodes-Select, nodes-Join, nodes-Group, nodes-Distinct, nodes-Union)

pub ruleset depth_of_kinds = (depth-One, depth-Table, depth-View, depth-Where, depth-Select, depth-Join, depth-Group, depth-Distinct, depth-Union)
