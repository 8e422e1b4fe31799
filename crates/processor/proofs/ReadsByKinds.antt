-- The equations of `reads`, one for each kind of relation.
use Rattle.std.proofs.Common.{◌≡◌, ◌∙◌, Bool, false, ◌||◌, ◌==◌, List, [], ◌∷◌, ℕ, map, ap, sym, refl}
use Rattle.vdb_model.specs.declared.expr.Expr.{Expr}
use Rattle.vdb_model.specs.declared.rel.JoinKind.{JoinKind}
use Rattle.vdb_model.specs.declared.rel.Agg.{Agg}
use Rattle.vdb_model.specs.declared.rel.Rel.{Rel}
use Rattle.vdb_model.specs.declared.rel.Rel.TheVariants.{One, Table, View, Where, Select, Join, Group, Distinct, Union, rolls-One, rolls-Table, rolls-View, rolls-Where, rolls-Select, rolls-Join, rolls-Group, rolls-Distinct, rolls-Union}
use Rattle.vdb_model.specs.declared.rel.Rel.TheOpen.{Rel-F}
use Rattle.vdb_model.specs.declared.rel.Rel.TheFolds.{fold-roll-Rel}
use Rattle.processor.specs.Reads.{any_true, reads_step, reads, reads_each}

module _ (table : ℕ) where
  each_reads : (rs : List Rel) → map (reads table) rs ≡ reads_each table rs
  each_reads [] = refl
  each_reads (r ∷ rs) = ap (λ (xs : List Bool). reads table r ∷ xs) (each_reads rs)

  pub reads-One : reads table One ≡ false
  unfolding reads
  reads-One = ap (reads table) (sym rolls-One) ∙ fold-roll-Rel Bool (reads_step table) Rel-F.One

  pub reads-Table : (t : ℕ) → reads table (Table t) ≡ (t == table)
  unfolding reads
  reads-Table t = ap (reads table) (sym (rolls-Table t)) ∙ fold-roll-Rel Bool (reads_step table) (Rel-F.Table t)

  pub reads-View : (v : ℕ) → reads table (View v) ≡ false
  unfolding reads
  reads-View v = ap (reads table) (sym (rolls-View v)) ∙ fold-roll-Rel Bool (reads_step table) (Rel-F.View v)

  pub reads-Where : (r : Rel) (e : Expr) → reads table (Where r e) ≡ reads table r
  unfolding reads
  reads-Where r e = ap (reads table) (sym (rolls-Where r e)) ∙ fold-roll-Rel Bool (reads_step table) (Rel-F.Where r e)

  pub reads-Select : (r : Rel) (es : List Expr) → reads table (Select r es) ≡ reads table r
  unfolding reads
  reads-Select r es = ap (reads table) (sym (rolls-Select r es)) ∙ fold-roll-Rel Bool (reads_step table) (Rel-F.Select r es)

  pub reads-Join : (kind : JoinKind) (l : Rel) (r : Rel) (on : Expr) → reads table (Join kind l r on) ≡ (reads table l || reads table r)
  unfolding reads
  reads-Join kind l r on = ap (reads table) (sym (rolls-Join kind l r on)) ∙ fold-roll-Rel Bool (reads_step table) (Rel-F.Join kind l r on)

  pub reads-Group : (r : Rel) (keys : List ℕ) (aggs : List Agg) → reads table (Group r keys aggs) ≡ reads table r
  unfolding reads
  reads-Group r keys aggs = ap (reads table) (sym (rolls-Group r keys aggs)) ∙ fold-roll-Rel Bool (reads_step table) (Rel-F.Group r keys aggs)

  pub reads-Distinct : (r : Rel) → reads table (Distinct r) ≡ reads table r
  unfolding reads
  reads-Distinct r = ap (reads table) (sym (rolls-Distinct r)) ∙ fold-roll-Rel Bool (reads_step table) (Rel-F.Distinct r)

  pub reads-Union : (rs : List Rel) → reads table (Union rs) ≡ any_true (reads_each table rs)
  unfolding reads
  reads-Union rs = ap (reads table) (sym (rolls-Union rs)) ∙ fold-roll-Rel Bool (reads_step table) (Rel-F.Union rs) ∙ ap (any_true) (each_reads rs)

pub ruleset reads_of_kinds = (reads-One, reads-Table, reads-View, reads-Where, reads-Select, reads-Join, reads-Group, reads-Distinct, reads-Union)
