-- Expressions and relations that read no variable.
use Rattle.std.specs.Prelude.{Bool, true, false, ◌&&◌, List, [], ◌∷◌}
use Rattle.vdb_model.specs.declared.expr.Expr.{Expr}
use Rattle.vdb_model.specs.declared.expr.Expr.TheOpen.{Expr-F, Arm-F}
use Rattle.vdb_model.specs.declared.expr.Expr.TheFolds.{fold-Expr}
use Rattle.vdb_model.specs.declared.rel.Agg.{Agg}
use Rattle.vdb_model.specs.declared.rel.Agg.TheVariants.{CountStar, Count, Sum, Min, Max}
use Rattle.vdb_model.specs.declared.rel.Rel.{Rel}
use Rattle.vdb_model.specs.declared.rel.Rel.TheOpen.{Rel-F}
use Rattle.vdb_model.specs.declared.rel.Rel.TheFolds.{fold-Rel}

abbrev pub all_true : List Bool → Bool
all_true [] = true
all_true (b ∷ bs) = b && all_true bs

-- one layer of an expression, by whether its parts read none
abbrev pub closed_step : Expr-F Bool Bool → Bool
closed_step (Expr-F.Col at) = true
closed_step (Expr-F.Var at) = false
closed_step (Expr-F.Const v) = true
closed_step (Expr-F.Not e) = e
closed_step (Expr-F.And es) = all_true es
closed_step (Expr-F.Or es) = all_true es
closed_step (Expr-F.Cmp op a b) = a && b
closed_step (Expr-F.IsNull e) = e
closed_step (Expr-F.In e es) = e && all_true es
closed_step (Expr-F.Like e pattern) = e
closed_step (Expr-F.Arith op a b) = a && b
closed_step (Expr-F.Neg e) = e
closed_step (Expr-F.Concat es) = all_true es
closed_step (Expr-F.Case arms last) = all_true arms && last
closed_step (Expr-F.Coalesce es) = all_true es

abbrev pub closed_arm : Arm-F Bool Bool → Bool
closed_arm arm = arm.when && arm.gives

-- the expression reads no variable
unfoldable pub is_closed : Expr → Bool
is_closed = fold-Expr Bool Bool closed_step closed_arm

abbrev pub are_closed : List Expr → Bool
are_closed [] = true
are_closed (e ∷ es) = is_closed e && are_closed es

abbrev pub is_closed_agg : Agg → Bool
is_closed_agg CountStar = true
is_closed_agg (Count e) = is_closed e
is_closed_agg (Sum e) = is_closed e
is_closed_agg (Min e) = is_closed e
is_closed_agg (Max e) = is_closed e

abbrev pub are_closed_aggs : List Agg → Bool
are_closed_aggs [] = true
are_closed_aggs (agg ∷ aggs) = is_closed_agg agg && are_closed_aggs aggs

-- one layer of a relation, by whether its parts read none
abbrev pub no_variable_step : Rel-F Bool → Bool
no_variable_step Rel-F.One = true
no_variable_step (Rel-F.Table t) = true
no_variable_step (Rel-F.View v) = true
no_variable_step (Rel-F.Where r condition) = r && is_closed condition
no_variable_step (Rel-F.Select r es) = r && are_closed es
no_variable_step (Rel-F.Join kind l r on) = l && r && is_closed on
no_variable_step (Rel-F.Group r keys aggs) = r && are_closed_aggs aggs
no_variable_step (Rel-F.Distinct r) = r
no_variable_step (Rel-F.Union rs) = all_true rs

-- the relation reads no variable; views never do
unfoldable pub reads_no_variable : Rel → Bool
reads_no_variable = fold-Rel Bool no_variable_step
