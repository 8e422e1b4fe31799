-- The equations of `bag_of`, one for each kind of relation.
use Rattle.std.proofs.Common.{◌≡◌, ◌∙◌, ◌+◌, List, [], ◌∷◌, ℕ, length, map, ap, sym, refl, slice_index_or}
use Rattle.vdb_model.specs.declared.expr.Expr.{Expr}
use Rattle.vdb_model.specs.declared.rel.JoinKind.{JoinKind}
use Rattle.vdb_model.specs.declared.bag.Bag.{Bag}
use Rattle.vdb_model.specs.declared.rel.Rel.{Rel}
use Rattle.vdb_model.specs.declared.rel.Rel.TheVariants.{One, Table, View, Where, Select, Join, Group, Distinct, Union, rolls-One, rolls-Table, rolls-View, rolls-Where, rolls-Select, rolls-Join, rolls-Group, rolls-Distinct, rolls-Union}
use Rattle.vdb_model.specs.declared.rel.Rel.TheOpen.{Rel-F}
use Rattle.vdb_model.specs.declared.rel.Rel.TheFolds.{fold-roll-Rel}
use Rattle.vdb_model.specs.declared.rel.Agg.{Agg}
use Rattle.vdb_model.specs.Rows.{Cells, where_rows, select_rows, join_rows, distinct_rows}
use Rattle.vdb_model.specs.Groups.{group_rows}
use Rattle.vdb_model.specs.Relations.{no_bag, first_width, union_rows, bag_step, bag_of, bags_of}

module _ (tables views : List Bag) (vars : Cells) where
  abbrev pub bag : Rel → Bag
  bag r = bag_of tables views vars r

  bags_same : (rs : List Rel) → map bag rs ≡ bags_of tables views vars rs
  bags_same [] = refl
  bags_same (r ∷ rs) = ap (λ bags. bag r ∷ bags) (bags_same rs)

  pub bag-One : bag_of tables views vars One ≡ record { width = 0; rows = [] ∷ [] }
  unfolding bag_of
  bag-One = ap bag (sym (rolls-One)) ∙ fold-roll-Rel Bag (bag_step tables views vars) Rel-F.One

  pub bag-Table : (t : ℕ) → bag_of tables views vars (Table t) ≡ slice_index_or tables t no_bag
  unfolding bag_of
  bag-Table t = ap bag (sym (rolls-Table t)) ∙ fold-roll-Rel Bag (bag_step tables views vars) (Rel-F.Table t)

  pub bag-View : (v : ℕ) → bag_of tables views vars (View v) ≡ slice_index_or views v no_bag
  unfolding bag_of
  bag-View v = ap bag (sym (rolls-View v)) ∙ fold-roll-Rel Bag (bag_step tables views vars) (Rel-F.View v)

  pub bag-Where : (r : Rel) (condition : Expr) → bag_of tables views vars (Where r condition) ≡ record { width = (bag r).width; rows = where_rows condition vars (bag r).rows }
  unfolding bag_of
  bag-Where r condition = ap bag (sym (rolls-Where r condition)) ∙ fold-roll-Rel Bag (bag_step tables views vars) (Rel-F.Where r condition)

  pub bag-Select : (r : Rel) (es : List Expr) → bag_of tables views vars (Select r es) ≡ record { width = length es; rows = select_rows es vars (bag r).rows }
  unfolding bag_of
  bag-Select r es = ap bag (sym (rolls-Select r es)) ∙ fold-roll-Rel Bag (bag_step tables views vars) (Rel-F.Select r es)

  pub bag-Join : (kind : JoinKind) (l r : Rel) (on : Expr) → bag_of tables views vars (Join kind l r on) ≡ record { width = (bag l).width + (bag r).width; rows = join_rows kind (bag r).width on vars (bag l).rows (bag r).rows }
  unfolding bag_of
  bag-Join kind l r on = ap bag (sym (rolls-Join kind l r on)) ∙ fold-roll-Rel Bag (bag_step tables views vars) (Rel-F.Join kind l r on)

  pub bag-Group : (r : Rel) (keys : List ℕ) (aggs : List Agg) → bag_of tables views vars (Group r keys aggs) ≡ record { width = length keys + length aggs; rows = group_rows keys aggs vars (bag r).rows }
  unfolding bag_of
  bag-Group r keys aggs = ap bag (sym (rolls-Group r keys aggs)) ∙ fold-roll-Rel Bag (bag_step tables views vars) (Rel-F.Group r keys aggs)

  pub bag-Distinct : (r : Rel) → bag_of tables views vars (Distinct r) ≡ record { width = (bag r).width; rows = distinct_rows (bag r).rows }
  unfolding bag_of
  bag-Distinct r = ap bag (sym (rolls-Distinct r)) ∙ fold-roll-Rel Bag (bag_step tables views vars) (Rel-F.Distinct r)

  pub bag-Union : (rs : List Rel) → bag_of tables views vars (Union rs) ≡ record { width = first_width (bags_of tables views vars rs); rows = union_rows (bags_of tables views vars rs) }
  unfolding bag_of
  bag-Union rs = ap bag (sym (rolls-Union rs)) ∙ fold-roll-Rel Bag (bag_step tables views vars) (Rel-F.Union rs) ∙ ap (λ (bags : List Bag). record { width = first_width bags; rows = union_rows bags }) (bags_same rs)

pub ruleset bag_of_kinds = (bag-One, bag-Table, bag-View, bag-Where, bag-Select, bag-Join, bag-Group, bag-Distinct, bag-Union)
