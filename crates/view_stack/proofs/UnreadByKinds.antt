-- The equations of `reads_no_variable`, one for each kind of relation.
use Rattle.std.proofs.Common.{◌≡◌, ◌∙◌, Bool, true, ◌&&◌, List, [], ◌∷◌, ℕ, map, ap, sym, refl}
use Rattle.vdb_model.specs.declared.expr.Expr.{Expr}
use Rattle.vdb_model.specs.declared.rel.JoinKind.{JoinKind}
use Rattle.vdb_model.specs.declared.rel.Agg.{Agg}
use Rattle.vdb_model.specs.declared.rel.Rel.{Rel}
use Rattle.vdb_model.specs.declared.rel.Rel.TheVariants.{One, Table, View, Where, Select, Join, Group, Distinct, Union, rolls-One, rolls-Table, rolls-View, rolls-Where, rolls-Select, rolls-Join, rolls-Group, rolls-Distinct, rolls-Union}
use Rattle.vdb_model.specs.declared.rel.Rel.TheOpen.{Rel-F}
use Rattle.vdb_model.specs.declared.rel.Rel.TheFolds.{fold-roll-Rel}
use Rattle.vdb_model.specs.Closed.{all_true, is_closed, are_closed, are_closed_aggs, no_variable_step, reads_no_variable}

-- of each part
abbrev pub unread_each : List Rel → List Bool
unread_each [] = []
unread_each (r ∷ rs) = reads_no_variable r ∷ unread_each rs

each_unread : (rs : List Rel) → map (reads_no_variable) rs ≡ unread_each rs
each_unread [] = refl
each_unread (r ∷ rs) = ap (λ (xs : List Bool). reads_no_variable r ∷ xs) (each_unread rs)

pub unread-One : reads_no_variable One ≡ true
unfolding reads_no_variable
unread-One = ap (reads_no_variable) (sym rolls-One) ∙ fold-roll-Rel Bool no_variable_step Rel-F.One

pub unread-Table : (t : ℕ) → reads_no_variable (Table t) ≡ true
unfolding reads_no_variable
unread-Table t = ap (reads_no_variable) (sym (rolls-Table t)) ∙ fold-roll-Rel Bool no_variable_step (Rel-F.Table t)

pub unread-View : (v : ℕ) → reads_no_variable (View v) ≡ true
unfolding reads_no_variable
unread-View v = ap (reads_no_variable) (sym (rolls-View v)) ∙ fold-roll-Rel Bool no_variable_step (Rel-F.View v)

pub unread-Where : (r : Rel) (e : Expr) → reads_no_variable (Where r e) ≡ (reads_no_variable r && is_closed e)
unfolding reads_no_variable
unread-Where r e = ap (reads_no_variable) (sym (rolls-Where r e)) ∙ fold-roll-Rel Bool no_variable_step (Rel-F.Where r e)

pub unread-Select : (r : Rel) (es : List Expr) → reads_no_variable (Select r es) ≡ (reads_no_variable r && are_closed es)
unfolding reads_no_variable
unread-Select r es = ap (reads_no_variable) (sym (rolls-Select r es)) ∙ fold-roll-Rel Bool no_variable_step (Rel-F.Select r es)

pub unread-Join : (kind : JoinKind) (l : Rel) (r : Rel) (on : Expr) → reads_no_variable (Join kind l r on) ≡ (reads_no_variable l && reads_no_variable r && is_closed on)
unfolding reads_no_variable
unread-Join kind l r on = ap (reads_no_variable) (sym (rolls-Join kind l r on)) ∙ fold-roll-Rel Bool no_variable_step (Rel-F.Join kind l r on)

pub unread-Group : (r : Rel) (keys : List ℕ) (aggs : List Agg) → reads_no_variable (Group r keys aggs) ≡ (reads_no_variable r && are_closed_aggs aggs)
unfolding reads_no_variable
unread-Group r keys aggs = ap (reads_no_variable) (sym (rolls-Group r keys aggs)) ∙ fold-roll-Rel Bool no_variable_step (Rel-F.Group r keys aggs)

pub unread-Distinct : (r : Rel) → reads_no_variable (Distinct r) ≡ reads_no_variable r
unfolding reads_no_variable
unread-Distinct r = ap (reads_no_variable) (sym (rolls-Distinct r)) ∙ fold-roll-Rel Bool no_variable_step (Rel-F.Distinct r)

pub unread-Union : (rs : List Rel) → reads_no_variable (Union rs) ≡ all_true (unread_each rs)
unfolding reads_no_variable
unread-Union rs = ap (reads_no_variable) (sym (rolls-Union rs)) ∙ fold-roll-Rel Bool no_variable_step (Rel-F.Union rs) ∙ ap (all_true) (each_unread rs)

pub ruleset unread_of_kinds = (unread-One, unread-Table, unread-View, unread-Where, unread-Select, unread-Join, unread-Group, unread-Distinct, unread-Union)
