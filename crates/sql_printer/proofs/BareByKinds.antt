-- What each kind of tree is without its places, by what its parts are.
use Rattle.std.proofs.Common.{◌≡◌, ◌∙◌, Bool, List, [], ◌∷◌, Option, Some, None, ℕ, map, ap, sym, refl}
use Rattle.std.specs.Option.{option_map}
use Rattle.sql_reader.specs.declared.tree.expr.Aggregate.{Aggregate as AnAggregate}
use Rattle.sql_reader.specs.declared.tree.expr.Arm.{Arm}
use Rattle.sql_reader.specs.declared.tree.expr.Comparison.{Comparison}
use Rattle.sql_reader.specs.declared.tree.expr.Expr.{Expr}
use Rattle.sql_reader.specs.declared.tree.expr.Expr.TheVariants.{Literal, Column, Parens, Negate, Chain, Not, Compare, IsNull, In, Like, Between, CountAll, Aggregate, Coalesce, Case, rolls-Literal, rolls-Column, rolls-Parens, rolls-Negate, rolls-Chain, rolls-Not, rolls-Compare, rolls-IsNull, rolls-In, rolls-Like, rolls-Between, rolls-CountAll, rolls-Aggregate, rolls-Coalesce, rolls-Case}
use Rattle.sql_reader.specs.declared.tree.expr.Expr.TheOpen.{Expr-F}
use Rattle.sql_reader.specs.declared.tree.expr.Expr.TheFolds.{fold-Link, fold-Arm, fold-roll-Expr, fold_out-Link, fold_out-Arm}
use Rattle.sql_reader.specs.declared.tree.expr.Link.{Link}
use Rattle.sql_reader.specs.declared.tree.expr.Literal.{Literal as ALiteral}
use Rattle.sql_reader.specs.declared.tree.name.ColumnName.{ColumnName}
use Rattle.sql_reader.specs.declared.tree.name.Name.{Name}
use Rattle.sql_reader.specs.declared.tree.name.RelationName.{RelationName}
use Rattle.sql_reader.specs.declared.tree.query.JoinKind.{JoinKind}
use Rattle.sql_reader.specs.declared.tree.query.Select.{Select as ASelect}
use Rattle.sql_reader.specs.declared.tree.query.SetQuery.{SetQuery}
use Rattle.sql_reader.specs.declared.tree.query.SetQuery.TheVariants.{Select, Union, rolls-Select, rolls-Union}
use Rattle.sql_reader.specs.declared.tree.query.SetQuery.TheOpen.{SetQuery-F, TableRef-F}
use Rattle.sql_reader.specs.declared.tree.query.SetQuery.TheFolds.{fold-Select, fold-TableRef, fold-roll-SetQuery, fold-roll-TableRef, fold_out-Select}
use Rattle.sql_reader.specs.declared.tree.query.TableRef.{TableRef}
use Rattle.sql_reader.specs.declared.tree.query.TableRef.TheVariants.{Named, Derived, Joined, rolls-Named, rolls-Derived, rolls-Joined}
use Rattle.sql_printer.specs.Bare.{bare_name, bare_relation, bare_column, bare_literal, bare_step, bare_link, bare_arm, bare_expr, bare_item, bare_kind, bare_set_step, bare_select, bare_table, bare_set}

unfoldable pub bare_of_link : Link → Link
bare_of_link = fold-Link Expr Arm Link bare_step bare_arm bare_link

unfoldable pub bare_of_arm : Arm → Arm
bare_of_arm = fold-Arm Expr Arm Link bare_step bare_arm bare_link

unfoldable pub bare_of_select : ASelect → ASelect
bare_of_select = fold-Select SetQuery TableRef ASelect bare_set_step bare_table bare_select

unfoldable pub bare_of_table : TableRef → TableRef
bare_of_table = fold-TableRef SetQuery TableRef ASelect bare_set_step bare_table bare_select

abbrev pub link_bare : Link → Link
link_bare l = record { operator = l.operator; operand = bare_expr l.operand; at = 0 }

abbrev pub arm_bare : Arm → Arm
arm_bare a = record { condition = bare_expr a.condition; value = bare_expr a.value }

abbrev pub select_bare : ASelect → ASelect
select_bare s = record { distinct = s.distinct; items = map bare_item s.items; from = map bare_of_table s.from; condition = option_map bare_expr s.condition; group = map bare_column s.group; having = option_map bare_expr s.having; at = 0 }

pub bare-link : (l : Link) → bare_of_link l ≡ link_bare l
unfolding bare_expr bare_of_link bare_of_arm
bare-link l = fold_out-Link Expr Arm Link bare_step bare_arm bare_link l

pub bare-arm : (a : Arm) → bare_of_arm a ≡ arm_bare a
unfolding bare_expr bare_of_link bare_of_arm
bare-arm a = fold_out-Arm Expr Arm Link bare_step bare_arm bare_link a

pub bare-Literal : (l : ALiteral) → bare_expr (Literal l) ≡ Literal (bare_literal l)
unfolding bare_expr bare_of_link bare_of_arm
bare-Literal l =
    ap (λ x. bare_expr x) (sym (rolls-Literal l)) ∙ fold-roll-Expr Expr Arm Link bare_step bare_arm bare_link (Expr-F.Literal l)

pub bare-Column : (c : ColumnName) → bare_expr (Column c) ≡ Column (bare_column c)
unfolding bare_expr bare_of_link bare_of_arm
bare-Column c =
    ap (λ x. bare_expr x) (sym (rolls-Column c)) ∙ fold-roll-Expr Expr Arm Link bare_step bare_arm bare_link (Expr-F.Column c)

pub bare-Parens : (e : Expr) (at : ℕ) → bare_expr (Parens e at) ≡ Parens (bare_expr e) 0
unfolding bare_expr bare_of_link bare_of_arm
bare-Parens e at =
    ap (λ x. bare_expr x) (sym (rolls-Parens e at)) ∙ fold-roll-Expr Expr Arm Link bare_step bare_arm bare_link (Expr-F.Parens e at)

pub bare-Negate : (e : Expr) (at : ℕ) → bare_expr (Negate e at) ≡ Negate (bare_expr e) 0
unfolding bare_expr bare_of_link bare_of_arm
bare-Negate e at =
    ap (λ x. bare_expr x) (sym (rolls-Negate e at)) ∙ fold-roll-Expr Expr Arm Link bare_step bare_arm bare_link (Expr-F.Negate e at)

pub bare-Chain : (e : Expr) (ls : List Link) → bare_expr (Chain e ls) ≡ Chain (bare_expr e) (map bare_of_link ls)
unfolding bare_expr bare_of_link bare_of_arm
bare-Chain e ls =
    ap (λ x. bare_expr x) (sym (rolls-Chain e ls)) ∙ fold-roll-Expr Expr Arm Link bare_step bare_arm bare_link (Expr-F.Chain e ls)

pub bare-Not : (e : Expr) (at : ℕ) → bare_expr (Not e at) ≡ Not (bare_expr e) 0
unfolding bare_expr bare_of_link bare_of_arm
bare-Not e at =
    ap (λ x. bare_expr x) (sym (rolls-Not e at)) ∙ fold-roll-Expr Expr Arm Link bare_step bare_arm bare_link (Expr-F.Not e at)

pub bare-Compare : (c : Comparison) (a b : Expr) (at : ℕ) → bare_expr (Compare c a b at) ≡ Compare c (bare_expr a) (bare_expr b) 0
unfolding bare_expr bare_of_link bare_of_arm
bare-Compare c a b at =
    ap (λ x. bare_expr x) (sym (rolls-Compare c a b at)) ∙ fold-roll-Expr Expr Arm Link bare_step bare_arm bare_link (Expr-F.Compare c a b at)

pub bare-IsNull : (e : Expr) (negated : Bool) → bare_expr (IsNull e negated) ≡ IsNull (bare_expr e) negated
unfolding bare_expr bare_of_link bare_of_arm
bare-IsNull e negated =
    ap (λ x. bare_expr x) (sym (rolls-IsNull e negated)) ∙ fold-roll-Expr Expr Arm Link bare_step bare_arm bare_link (Expr-F.IsNull e negated)

pub bare-In : (e : Expr) (negated : Bool) (es : List Expr) (at : ℕ) → bare_expr (In e negated es at) ≡ In (bare_expr e) negated (map bare_expr es) 0
unfolding bare_expr bare_of_link bare_of_arm
bare-In e negated es at =
    ap (λ x. bare_expr x) (sym (rolls-In e negated es at)) ∙ fold-roll-Expr Expr Arm Link bare_step bare_arm bare_link (Expr-F.In e negated es at)

pub bare-Like : (e : Expr) (negated : Bool) (l : ALiteral) (at : ℕ) → bare_expr (Like e negated l at) ≡ Like (bare_expr e) negated (bare_literal l) 0
unfolding bare_expr bare_of_link bare_of_arm
bare-Like e negated l at =
    ap (λ x. bare_expr x) (sym (rolls-Like e negated l at)) ∙ fold-roll-Expr Expr Arm Link bare_step bare_arm bare_link (Expr-F.Like e negated l at)

pub bare-Between : (e : Expr) (negated : Bool) (a b : Expr) (at : ℕ) → bare_expr (Between e negated a b at) ≡ Between (bare_expr e) negated (bare_expr a) (bare_expr b) 0
unfolding bare_expr bare_of_link bare_of_arm
bare-Between e negated a b at =
    ap (λ x. bare_expr x) (sym (rolls-Between e negated a b at)) ∙ fold-roll-Expr Expr Arm Link bare_step bare_arm bare_link (Expr-F.Between e negated a b at)

pub bare-CountAll : (at : ℕ) → bare_expr (CountAll at) ≡ CountAll 0
unfolding bare_expr bare_of_link bare_of_arm
bare-CountAll at =
    ap (λ x. bare_expr x) (sym (rolls-CountAll at)) ∙ fold-roll-Expr Expr Arm Link bare_step bare_arm bare_link (Expr-F.CountAll at)

pub bare-Aggregate : (a : AnAggregate) (e : Expr) (at : ℕ) → bare_expr (Aggregate a e at) ≡ Aggregate a (bare_expr e) 0
unfolding bare_expr bare_of_link bare_of_arm
bare-Aggregate a e at =
    ap (λ x. bare_expr x) (sym (rolls-Aggregate a e at)) ∙ fold-roll-Expr Expr Arm Link bare_step bare_arm bare_link (Expr-F.Aggregate a e at)

pub bare-Coalesce : (es : List Expr) (at : ℕ) → bare_expr (Coalesce es at) ≡ Coalesce (map bare_expr es) 0
unfolding bare_expr bare_of_link bare_of_arm
bare-Coalesce es at =
    ap (λ x. bare_expr x) (sym (rolls-Coalesce es at)) ∙ fold-roll-Expr Expr Arm Link bare_step bare_arm bare_link (Expr-F.Coalesce es at)

pub bare-Case-none : (ls : List Arm) (at : ℕ) → bare_expr (Case ls None at) ≡ Case (map bare_of_arm ls) None 0
unfolding bare_expr bare_of_link bare_of_arm
bare-Case-none ls at =
    ap (λ x. bare_expr x) (sym (rolls-Case ls None at)) ∙ fold-roll-Expr Expr Arm Link bare_step bare_arm bare_link (Expr-F.Case ls None at)

pub bare-Case-some : (ls : List Arm) (e : Expr) (at : ℕ) → bare_expr (Case ls (Some e) at) ≡ Case (map bare_of_arm ls) (Some (bare_expr e)) 0
unfolding bare_expr bare_of_link bare_of_arm
bare-Case-some ls e at =
    ap (λ x. bare_expr x) (sym (rolls-Case ls (Some e) at)) ∙ fold-roll-Expr Expr Arm Link bare_step bare_arm bare_link (Expr-F.Case ls (Some e) at)

pub bare-select : (s : ASelect) → bare_of_select s ≡ select_bare s
unfolding bare_set bare_of_select bare_of_table
bare-select s = fold_out-Select SetQuery TableRef ASelect bare_set_step bare_table bare_select s

pub bare-Select : (s : ASelect) → bare_set (Select s) ≡ Select (bare_of_select s)
unfolding bare_set bare_of_select bare_of_table
bare-Select s =
    ap (λ x. bare_set x) (sym (rolls-Select s)) ∙ fold-roll-SetQuery SetQuery TableRef ASelect bare_set_step bare_table bare_select (SetQuery-F.Select s)

pub bare-Union : (l : SetQuery) (every : Bool) (r : ASelect) → bare_set (Union l every r) ≡ Union (bare_set l) every (bare_of_select r)
unfolding bare_set bare_of_select bare_of_table
bare-Union l every r =
    ap (λ x. bare_set x) (sym (rolls-Union l every r)) ∙ fold-roll-SetQuery SetQuery TableRef ASelect bare_set_step bare_table bare_select (SetQuery-F.Union l every r)

pub bare-Named : (r : RelationName) (a : Option Name) → bare_of_table (Named r a) ≡ Named (bare_relation r) (option_map bare_name a)
unfolding bare_set bare_of_select bare_of_table
bare-Named r a =
    ap (λ x. bare_of_table x) (sym (rolls-Named r a)) ∙ fold-roll-TableRef SetQuery TableRef ASelect bare_set_step bare_table bare_select (TableRef-F.Named r a)

pub bare-Derived : (q : SetQuery) (n : Name) → bare_of_table (Derived q n) ≡ Derived (bare_set q) (bare_name n)
unfolding bare_set bare_of_select bare_of_table
bare-Derived q n =
    ap (λ x. bare_of_table x) (sym (rolls-Derived q n)) ∙ fold-roll-TableRef SetQuery TableRef ASelect bare_set_step bare_table bare_select (TableRef-F.Derived q n)

pub bare-Joined : (l r : TableRef) (k : JoinKind) → bare_of_table (Joined l r k) ≡ Joined (bare_of_table l) (bare_of_table r) (bare_kind k)
unfolding bare_set bare_of_select bare_of_table
bare-Joined l r k =
    ap (λ x. bare_of_table x) (sym (rolls-Joined l r k)) ∙ fold-roll-TableRef SetQuery TableRef ASelect bare_set_step bare_table bare_select (TableRef-F.Joined l r k)
