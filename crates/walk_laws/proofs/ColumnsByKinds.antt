-- The equations of `columns_of`, one for each kind of relation.
use Rattle.std.proofs.Common.{◌≡◌, ◌∙◌, ℕ, ◌+◌, ◌&&◌, List, [], length, map, take, drop, ap, sym}
use Rattle.std.specs.Prelude.{◌==◌, slice_index_or}
use Rattle.vdb_base.specs.declared.value.Ty.{Ty}
use Rattle.vdb_base.specs.declared.value.Ty.TheVariants.{Boolean}
use Rattle.vdb_model.specs.declared.expr.Expr.{Expr}
use Rattle.vdb_model.specs.declared.rel.Agg.{Agg}
use Rattle.vdb_model.specs.declared.rel.JoinKind.{JoinKind}
use Rattle.vdb_model.specs.declared.rel.Rel.{Rel}
use Rattle.vdb_model.specs.declared.rel.Rel.TheFolds.{fold-roll-Rel}
use Rattle.vdb_model.specs.declared.rel.Rel.TheOpen.{Rel-F}
use Rattle.vdb_model.specs.declared.rel.Rel.TheVariants.{One, Table, View, Where, Select, Join, Group, Distinct, Union, rolls-One, rolls-Table, rolls-View, rolls-Where, rolls-Select, rolls-Join, rolls-Group, rolls-Distinct, rolls-Union}
use Rattle.vdb_model.specs.Columns.{Columns, some_types, declared, declared_each, all_have, group_has, parts_have, first_width, no_columns, columns_step, columns_of}
use Rattle.vdb_model.specs.Typed.{has_type}

abbrev pub where_columns : List Ty → Columns → Expr → Columns
where_columns vars r condition = record { width = r.width; have = λ ts. r.have ts && has_type ts vars condition Boolean }

abbrev pub select_columns : List Ty → Columns → List Expr → Columns
select_columns vars r es = record { width = length es; have = λ ts. some_types r.width (λ cols. r.have cols && all_have cols vars es ts) }

abbrev pub join_columns : List Ty → Columns → Columns → Expr → Columns
join_columns vars l r on = record { width = l.width + r.width; have = λ ts. l.have (take l.width ts) && r.have (drop l.width ts) && has_type ts vars on Boolean }

abbrev pub group_columns : List Ty → Columns → List ℕ → List Agg → Columns
group_columns vars r keys aggs = record { width = length keys + length aggs; have = λ ts. some_types r.width (λ cols. r.have cols && group_has keys aggs cols vars ts) }

abbrev pub union_columns : List Columns → Columns
union_columns rs = record { width = first_width rs; have = λ ts. first_width rs == length ts && parts_have rs ts }

module _ (tables views : List (List Ty)) (vars : List Ty) where
  pub columns-One : columns_of tables views vars One ≡ declared []
  unfolding columns_of
  columns-One = ap (columns_of tables views vars) (sym rolls-One) ∙ fold-roll-Rel Columns (columns_step tables views vars) Rel-F.One

  pub columns-Table : (n : ℕ) → columns_of tables views vars (Table n) ≡ slice_index_or (declared_each tables) n no_columns
  unfolding columns_of
  columns-Table n = ap (columns_of tables views vars) (sym (rolls-Table n)) ∙ fold-roll-Rel Columns (columns_step tables views vars) (Rel-F.Table n)

  pub columns-View : (n : ℕ) → columns_of tables views vars (View n) ≡ slice_index_or (declared_each views) n no_columns
  unfolding columns_of
  columns-View n = ap (columns_of tables views vars) (sym (rolls-View n)) ∙ fold-roll-Rel Columns (columns_step tables views vars) (Rel-F.View n)

  pub columns-Where : (r : Rel) (e : Expr) → columns_of tables views vars (Where r e) ≡ where_columns vars (columns_of tables views vars r) e
  unfolding columns_of
  columns-Where r e = ap (columns_of tables views vars) (sym (rolls-Where r e)) ∙ fold-roll-Rel Columns (columns_step tables views vars) (Rel-F.Where r e)

  pub columns-Select : (r : Rel) (es : List Expr) → columns_of tables views vars (Select r es) ≡ select_columns vars (columns_of tables views vars r) es
  unfolding columns_of
  columns-Select r es = ap (columns_of tables views vars) (sym (rolls-Select r es)) ∙ fold-roll-Rel Columns (columns_step tables views vars) (Rel-F.Select r es)

  pub columns-Join : (kind : JoinKind) (l r : Rel) (on : Expr) → columns_of tables views vars (Join kind l r on) ≡ join_columns vars (columns_of tables views vars l) (columns_of tables views vars r) on
  unfolding columns_of
  columns-Join kind l r on = ap (columns_of tables views vars) (sym (rolls-Join kind l r on)) ∙ fold-roll-Rel Columns (columns_step tables views vars) (Rel-F.Join kind l r on)

  pub columns-Group : (r : Rel) (keys : List ℕ) (aggs : List Agg) → columns_of tables views vars (Group r keys aggs) ≡ group_columns vars (columns_of tables views vars r) keys aggs
  unfolding columns_of
  columns-Group r keys aggs = ap (columns_of tables views vars) (sym (rolls-Group r keys aggs)) ∙ fold-roll-Rel Columns (columns_step tables views vars) (Rel-F.Group r keys aggs)

  pub columns-Distinct : (r : Rel) → columns_of tables views vars (Distinct r) ≡ columns_of tables views vars r
  unfolding columns_of
  columns-Distinct r = ap (columns_of tables views vars) (sym (rolls-Distinct r)) ∙ fold-roll-Rel Columns (columns_step tables views vars) (Rel-F.Distinct r)

  pub columns-Union : (rs : List Rel) → columns_of tables views vars (Union rs) ≡ union_columns (map (columns_of tables views vars) rs)
  unfolding columns_of
  columns-Union rs = ap (columns_of tables views vars) (sym (rolls-Union rs)) ∙ fold-roll-Rel Columns (columns_step tables views vars) (Rel-F.Union rs)
