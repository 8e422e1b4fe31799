-- Induction over relations, one case for each kind.
use Rattle.std.proofs.Common.{List, [], ◌∷◌, ℕ, map, sym, subst}
use Rattle.std.specs.List.{AllByRecursion}
use Rattle.vdb_model.specs.declared.expr.Expr.{Expr}
use Rattle.vdb_model.specs.declared.rel.JoinKind.{JoinKind}
use Rattle.vdb_model.specs.declared.rel.Agg.{Agg}
use Rattle.vdb_model.specs.declared.rel.Rel.{Rel}
use Rattle.vdb_model.specs.declared.rel.Rel.TheVariants.{One, Table, View, Where, Select, Join, Group, Distinct, Union, rolls-One, rolls-Table, rolls-View, rolls-Where, rolls-Select, rolls-Join, rolls-Group, rolls-Distinct, rolls-Union}
use Rattle.vdb_model.specs.declared.rel.Rel.TheOpen.{Rel-F}
use Rattle.vdb_model.specs.declared.rel.Rel.TheFolds.{ind-Rel, map-Rel}
use Rattle.vdb_model.specs.declared.rel.Rel.TheViews.{roll-Rel}

module _ (P : Rel → Type 0) where
  pub record RelCases : Type 0 where
    pub onOne : P One
    pub onTable : (t : ℕ) → P (Table t)
    pub onView : (v : ℕ) → P (View v)
    pub onWhere : (r : Rel) (e : Expr) → P r → P (Where r e)
    pub onSelect : (r : Rel) (es : List Expr) → P r → P (Select r es)
    pub onJoin : (kind : JoinKind) (l : Rel) (r : Rel) (on : Expr) → P l → P r → P (Join kind l r on)
    pub onGroup : (r : Rel) (keys : List ℕ) (aggs : List Agg) → P r → P (Group r keys aggs)
    pub onDistinct : (r : Rel) → P r → P (Distinct r)
    pub onUnion : (rs : List Rel) → AllByRecursion P rs → P (Union rs)

  abbrev Known : Type 0
  Known = (r : Rel) × P r

  known : (rs : List Known) → AllByRecursion P (map (λ r. r.0) rs)
  known [] = tt
  known (r ∷ rs) = (r.1, known rs)

  module _ (c : RelCases) where
    layer : (y : Rel-F Known) → P (roll-Rel (map-Rel Known Rel (λ r. r.0) y))
    layer Rel-F.One = subst P (sym rolls-One) c.onOne
    layer (Rel-F.Table t) = subst P (sym (rolls-Table t)) (c.onTable t)
    layer (Rel-F.View v) = subst P (sym (rolls-View v)) (c.onView v)
    layer (Rel-F.Where r e) = subst P (sym (rolls-Where r.0 e)) (c.onWhere r.0 e r.1)
    layer (Rel-F.Select r es) = subst P (sym (rolls-Select r.0 es)) (c.onSelect r.0 es r.1)
    layer (Rel-F.Join kind l r on) = subst P (sym (rolls-Join kind l.0 r.0 on)) (c.onJoin kind l.0 r.0 on l.1 r.1)
    layer (Rel-F.Group r keys aggs) = subst P (sym (rolls-Group r.0 keys aggs)) (c.onGroup r.0 keys aggs r.1)
    layer (Rel-F.Distinct r) = subst P (sym (rolls-Distinct r.0)) (c.onDistinct r.0 r.1)
    layer (Rel-F.Union rs) = subst P (sym (rolls-Union (map (λ r. r.0) rs))) (c.onUnion (map (λ r. r.0) rs) (known rs))

    pub rel_by_kinds : (r : Rel) → P r
    rel_by_kinds = ind-Rel P (λ x y is. subst (λ z. P (roll-Rel z)) is (layer y))
