-- The equations of `chain_below`, one for each kind of relation.
use Rattle.std.proofs.Common.{◌≡◌, ◌∙◌, max, List, [], ◌∷◌, ℕ, map, ap, sym, refl, slice_index_or}
use Rattle.vdb_model.specs.declared.expr.Expr.{Expr}
use Rattle.vdb_model.specs.declared.rel.JoinKind.{JoinKind}
use Rattle.vdb_model.specs.declared.rel.Agg.{Agg}
use Rattle.vdb_model.specs.declared.rel.Rel.{Rel}
use Rattle.vdb_model.specs.declared.rel.Rel.TheVariants.{One, Table, View, Where, Select, Join, Group, Distinct, Union, rolls-One, rolls-Table, rolls-View, rolls-Where, rolls-Select, rolls-Join, rolls-Group, rolls-Distinct, rolls-Union}
use Rattle.vdb_model.specs.declared.rel.Rel.TheOpen.{Rel-F}
use Rattle.vdb_model.specs.declared.rel.Rel.TheFolds.{fold-roll-Rel}
use Rattle.vdb_model.specs.Chains.{chain_step, chain_below}
use Rattle.vdb_model.specs.Sizes.{greatest}
use Rattle.metadata.specs.Parts.{chains_each}

module _ (chains : List ℕ) where
  each_chain : (rs : List Rel) → map (chain_below chains) rs ≡ chains_each chains rs
  each_chain [] = refl
  each_chain (r ∷ rs) = ap (λ (xs : List ℕ). chain_below chains r ∷ xs) (each_chain rs)

  pub chain-One : chain_below chains One ≡ 0
  unfolding chain_below
  chain-One = ap (chain_below chains) (sym rolls-One) ∙ fold-roll-Rel ℕ (chain_step chains) Rel-F.One

  pub chain-Table : (t : ℕ) → chain_below chains (Table t) ≡ 0
  unfolding chain_below
  chain-Table t = ap (chain_below chains) (sym (rolls-Table t)) ∙ fold-roll-Rel ℕ (chain_step chains) (Rel-F.Table t)

  pub chain-View : (v : ℕ) → chain_below chains (View v) ≡ slice_index_or chains v 0
  unfolding chain_below
  chain-View v = ap (chain_below chains) (sym (rolls-View v)) ∙ fold-roll-Rel ℕ (chain_step chains) (Rel-F.View v)

  pub chain-Where : (r : Rel) (e : Expr) → chain_below chains (Where r e) ≡ chain_below chains r
  unfolding chain_below
  chain-Where r e = ap (chain_below chains) (sym (rolls-Where r e)) ∙ fold-roll-Rel ℕ (chain_step chains) (Rel-F.Where r e)

  pub chain-Select : (r : Rel) (es : List Expr) → chain_below chains (Select r es) ≡ chain_below chains r
  unfolding chain_below
  chain-Select r es = ap (chain_below chains) (sym (rolls-Select r es)) ∙ fold-roll-Rel ℕ (chain_step chains) (Rel-F.Select r es)

  pub chain-Join : (kind : JoinKind) (l : Rel) (r : Rel) (on : Expr) → chain_below chains (Join kind l r on) ≡ max (chain_below chains l) (chain_below chains r)
  unfolding chain_below
  chain-Join kind l r on = ap (chain_below chains) (sym (rolls-Join kind l r on)) ∙ fold-roll-Rel ℕ (chain_step chains) (Rel-F.Join kind l r on)

  pub chain-Group : (r : Rel) (keys : List ℕ) (aggs : List Agg) → chain_below chains (Group r keys aggs) ≡ chain_below chains r
  unfolding chain_below
  chain-Group r keys aggs = ap (chain_below chains) (sym (rolls-Group r keys aggs)) ∙ fold-roll-Rel ℕ (chain_step chains) (Rel-F.Group r keys aggs)

  pub chain-Distinct : (r : Rel) → chain_below chains (Distinct r) ≡ chain_below chains r
  unfolding chain_below
  chain-Distinct r = ap (chain_below chains) (sym (rolls-Distinct r)) ∙ fold-roll-Rel ℕ (chain_step chains) (Rel-F.Distinct r)

  pub chain-Union : (rs : List Rel) → chain_below chains (Union rs) ≡ greatest (chains_each chains rs)
  unfolding chain_below
  chain-Union rs = ap (chain_below chains) (sym (rolls-Union rs)) ∙ fold-roll-Rel ℕ (chain_step chains) (Rel-F.Union rs) ∙ ap greatest (each_chain rs)

pub ruleset chain_of_kinds = (chain-One, chain-Table, chain-View, chain-Where, chain-Select, chain-Join, chain-Group, chain-Distinct, chain-Union)
