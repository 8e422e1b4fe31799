-- Parts that wait and are the same but for places: each action of a query leaves such parts, where what it reads is the same.
--
use Rattle.std.proofs.Common.{◌≡◌, ◌∙◌, ℕ, Bool, List, [], ◌∷◌, ◌++◌, Option, Some, None, map, ap, sym, refl}
use Rattle.std.specs.Option.{option_map}
use Rattle.sql_reader.specs.declared.build.Action.{Action}
use Rattle.sql_reader.specs.declared.build.Action.TheVariants as act
use Rattle.sql_reader.specs.declared.build.TokenAction.{TokenAction}
use Rattle.sql_reader.specs.declared.build.TokenAction.TheVariants as token
use Rattle.sql_reader.specs.declared.build.ExprAction.{ExprAction}
use Rattle.sql_reader.specs.declared.build.ExprAction.TheVariants as action
use Rattle.sql_reader.specs.declared.build.QueryAction.{QueryAction}
use Rattle.sql_reader.specs.declared.build.QueryAction.TheVariants as query
use Rattle.sql_reader.specs.declared.build.StatementAction.TheVariants as statement_action
use Rattle.sql_reader.specs.declared.tree.expr.Aggregate.{Aggregate}
use Rattle.sql_reader.specs.declared.tree.expr.Arm.{Arm}
use Rattle.sql_reader.specs.declared.tree.expr.Comparison.{Comparison}
use Rattle.sql_reader.specs.declared.tree.expr.Expr.{Expr}
use Rattle.sql_reader.specs.declared.tree.expr.Expr.TheVariants as expr
use Rattle.sql_reader.specs.declared.tree.expr.Link.{Link}
use Rattle.sql_reader.specs.declared.tree.expr.Literal.{Literal}
use Rattle.sql_reader.specs.declared.tree.expr.Operator.{Operator}
use Rattle.sql_reader.specs.declared.tree.name.ColumnName.{ColumnName}
use Rattle.sql_reader.specs.declared.tree.name.ColumnName.TheVariants as column
use Rattle.sql_reader.specs.declared.tree.name.Name.{Name}
use Rattle.sql_reader.specs.declared.tree.name.RelationName.{RelationName}
use Rattle.sql_reader.specs.declared.tree.query.JoinKind.{JoinKind}
use Rattle.sql_reader.specs.declared.tree.query.JoinKind.TheVariants.{Inner, Left, Cross}
use Rattle.sql_reader.specs.declared.tree.query.KeyTarget.TheVariants as target
use Rattle.sql_reader.specs.declared.tree.query.Query.{Query}
use Rattle.sql_reader.specs.declared.tree.query.Select.{Select}
use Rattle.sql_reader.specs.declared.tree.query.SelectItem.{SelectItem}
use Rattle.sql_reader.specs.declared.tree.query.SelectItem.TheVariants as item
use Rattle.sql_reader.specs.declared.tree.query.SetQuery.{SetQuery}
use Rattle.sql_reader.specs.declared.tree.query.TableRef.{TableRef}
use Rattle.sql_reader.specs.declared.tree.query.TableRef.TheVariants.{Joined}
use Rattle.sql_reader.specs.declared.tree.statement.Statement.{Statement}
use Rattle.sql_reader.specs.declared.tree.statement.Statement.TheVariants as statement
use Rattle.sql_reader.specs.Build.{act_on}
use Rattle.sql_reader.specs.BuildTokens.{token_on, relation, relation_of}
use Rattle.sql_reader.specs.BuildExprs.{expr_on, constant, parens, negate, not_expr, add_link, chain, compare, is_null, add, in_list, like, between, aggregate, coalesce, add_arm, case, case_else}
use Rattle.sql_reader.specs.BuildQueries as query_specs
use Rattle.sql_reader.specs.BuildQueries.{query_on, bare_select, distinct, add_item, all_of, plain_item, named_item, from, where_true, group_by, having_true, one_select, union, table, table_as, derived, joined_tables, key_name, key_number, limit, offset}
use Rattle.sql_reader.specs.BuildStatements.{run}
use Rattle.sql_reader.specs.Source.{Source, place_at, name_at, literal_at, negative_at}
use Rattle.sql_reader.specs.Waiting.{Waiting, rest, joined, joined3}
use Rattle.sql_printer.specs.Bare.{bare_name, bare_relation, bare_column, bare_literal, bare_expr, bare_item, bare_kind, bare_set, bare_key, bare}
use Rattle.sql_printer.proofs.BareByKinds.{bare_of_link, bare_of_arm, bare_of_select, bare_of_table, link_bare, arm_bare, select_bare, bare-link, bare-arm, bare-Literal, bare-Column, bare-Parens, bare-Negate, bare-Chain, bare-Not, bare-Compare, bare-IsNull, bare-In, bare-Like, bare-Between, bare-CountAll, bare-Aggregate, bare-Coalesce, bare-Case-none, bare-Case-some, bare-select, bare-Select, bare-Union, bare-Named, bare-Derived, bare-Joined}
use Rattle.sql_printer.proofs.SameParts.{map_append, same_rest, same_on, same_joined, same_joined3, same_made, same_made_of_two, same_made_of_three, same_put, same_put_two, same_with, same_made2, same_put2}

-- parts without places

abbrev pub no_place : ℕ → ℕ
no_place at = 0

abbrev pub bare_list : List Expr → List Expr
bare_list es = map bare_expr es

abbrev pub bare_links : List Link → List Link
bare_links ls = map bare_of_link ls

abbrev pub bare_arms : List Arm → List Arm
bare_arms ls = map bare_of_arm ls

-- the query that a statement is
abbrev pub query_of : Statement → Option Query
query_of (statement.Query q) = Some (bare q)
query_of _ = None

-- the same but for places
pub record SameBut (w v : Waiting) : Type 0 where
  pub places : map no_place w.places ≡ map no_place v.places
  pub names : map bare_name w.names ≡ map bare_name v.names
  pub literals : map bare_literal w.literals ≡ map bare_literal v.literals
  pub columns : map bare_column w.columns ≡ map bare_column v.columns
  pub relations : map bare_relation w.relations ≡ map bare_relation v.relations
  pub exprs : map bare_expr w.exprs ≡ map bare_expr v.exprs
  pub lists : map bare_list w.lists ≡ map bare_list v.lists
  pub links : map bare_links w.links ≡ map bare_links v.links
  pub arms : map bare_arms w.arms ≡ map bare_arms v.arms
  pub selects : map bare_of_select w.selects ≡ map bare_of_select v.selects
  pub sets : map bare_set w.sets ≡ map bare_set v.sets
  pub tables : map bare_of_table w.tables ≡ map bare_of_table v.tables
  pub queries : map bare w.queries ≡ map bare v.queries
  pub statements : map query_of w.statements ≡ map query_of v.statements

-- what an action reads is the same
abbrev pub ReadsToken : Source → Source → ℕ → ℕ → TokenAction → Type 0
ReadsToken s t n m token.Name = bare_name (name_at s n) ≡ bare_name (name_at t m)
ReadsToken s t n m token.Literal = bare_literal (literal_at s n) ≡ bare_literal (literal_at t m)
ReadsToken s t n m token.Negative = bare_literal (negative_at s n) ≡ bare_literal (negative_at t m)
ReadsToken s t n m _ = Unit {0}

abbrev pub ReadsSame : Source → Source → ℕ → ℕ → Action → Type 0
ReadsSame s t n m act.Nothing = Unit {0}
ReadsSame s t n m (act.Token a) = ReadsToken s t n m a
ReadsSame s t n m (act.Expr a) = Unit {0}
ReadsSame s t n m (act.Query a) = Unit {0}
ReadsSame s t n m (act.Statement statement_action.Query) = Unit {0}
ReadsSame s t n m (act.Statement _) = ⊥

same_push : {A : Type 0} {x y : A} {xs ys : List A} → x ≡ y → xs ≡ ys → x ∷ xs ≡ y ∷ ys
same_push p q = cc

same_snoc : {A B : Type 0} (f : A → B) (xs ys : List A) (x y : A) → map f xs ≡ map f ys → f x ≡ f y → map f (xs ++ x ∷ []) ≡ map f (ys ++ y ∷ [])
same_snoc f xs ys x y p q = let a = map_append f xs (x ∷ []) in let b = map_append f ys (y ∷ []) in cc

-- names

is_Plain : (x y : Name) → bare_name x ≡ bare_name y → bare_column (column.Plain x) ≡ bare_column (column.Plain y)
is_Plain x y p = ap column.Plain p

is_Of : (x x' y y' : Name) → bare_name x ≡ bare_name x' → bare_name y ≡ bare_name y' → bare_column (column.Of x y) ≡ bare_column (column.Of x' y')
is_Of x x' y y' p q = cc

is_InSchema : (w w' x x' y y' : Name) → bare_name w ≡ bare_name w' → bare_name x ≡ bare_name x' → bare_name y ≡ bare_name y' → bare_column (column.InSchema w x y) ≡ bare_column (column.InSchema w' x' y')
is_InSchema w w' x x' y y' p q r = cc

is_relation : (x y : Name) → bare_name x ≡ bare_name y → bare_relation (relation x) ≡ bare_relation (relation y)
is_relation x y p = ap (λ (n : Name). let r : RelationName = record { schema = None; name = n } in r) p

is_relation_of : (x x' y y' : Name) → bare_name x ≡ bare_name x' → bare_name y ≡ bare_name y' → bare_relation (relation_of x y) ≡ bare_relation (relation_of x' y')
is_relation_of x x' y y' p q =
    ap (λ (n : Name). let r : RelationName = record { schema = Some n; name = bare_name y } in r) p ∙
    ap (λ (n : Name). let r : RelationName = record { schema = Some (bare_name x'); name = n } in r) q

-- expressions

is_constant : (x y : Literal) → bare_literal x ≡ bare_literal y → bare_expr (constant x) ≡ bare_expr (constant y)
is_constant x y p = let a = bare-Literal x in let b = bare-Literal y in cc

is_Column : (x y : ColumnName) → bare_column x ≡ bare_column y → bare_expr (expr.Column x) ≡ bare_expr (expr.Column y)
is_Column x y p = let a = bare-Column x in let b = bare-Column y in cc

is_parens : (x x' : ℕ) (e e' : Expr) → no_place x ≡ no_place x' → bare_expr e ≡ bare_expr e' → bare_expr (parens x e) ≡ bare_expr (parens x' e')
is_parens x x' e e' p q = let a = bare-Parens e x in let b = bare-Parens e' x' in cc

is_negate : (x x' : ℕ) (e e' : Expr) → no_place x ≡ no_place x' → bare_expr e ≡ bare_expr e' → bare_expr (negate x e) ≡ bare_expr (negate x' e')
is_negate x x' e e' p q = let a = bare-Negate e x in let b = bare-Negate e' x' in cc

is_not_expr : (x x' : ℕ) (e e' : Expr) → no_place x ≡ no_place x' → bare_expr e ≡ bare_expr e' → bare_expr (not_expr x e) ≡ bare_expr (not_expr x' e')
is_not_expr x x' e e' p q = let a = bare-Not e x in let b = bare-Not e' x' in cc

is_add_link : (op : Operator) (x x' : ℕ) (e e' : Expr) (ls ls' : List Link) → no_place x ≡ no_place x' → bare_expr e ≡ bare_expr e' → bare_links ls ≡ bare_links ls'
    → bare_links (add_link op x e ls) ≡ bare_links (add_link op x' e' ls')
is_add_link op x x' e e' ls ls' p q r =
    let k : Link = record { operator = op; operand = e; at = x } in
    let l : Link = record { operator = op; operand = e'; at = x' } in
    same_snoc bare_of_link ls ls' k l r
    (bare-link k ∙ ap (λ (u : Expr). let i : Link = record { operator = op; operand = u; at = 0 } in i) q ∙ sym (bare-link l))

is_chain : (ls ls' : List Link) (e e' : Expr) → bare_links ls ≡ bare_links ls' → bare_expr e ≡ bare_expr e' → bare_expr (chain ls e) ≡ bare_expr (chain ls' e')
is_chain ls ls' e e' p q = let a = bare-Chain e ls in let b = bare-Chain e' ls' in cc

with_compare : (c : Comparison) (x x' : ℕ) (us vs : List Expr) → no_place x ≡ no_place x' → map bare_expr us ≡ map bare_expr vs → map bare_expr (joined (compare c x) us) ≡ map bare_expr (joined (compare c x') vs)
with_compare c x x' us vs p q = same_joined bare_expr (compare c x) (compare c x') (λ e e' f f' d g. let a = bare-Compare c e f x in let b = bare-Compare c e' f' x' in cc) us vs q

is_is_null : (negated : Bool) (e e' : Expr) → bare_expr e ≡ bare_expr e' → bare_expr (is_null negated e) ≡ bare_expr (is_null negated e')
is_is_null negated e e' p = let a = bare-IsNull e negated in let b = bare-IsNull e' negated in cc

is_add : (e e' : Expr) (es es' : List Expr) → bare_expr e ≡ bare_expr e' → bare_list es ≡ bare_list es' → bare_list (add e es) ≡ bare_list (add e' es')
is_add e e' es es' p q = same_snoc bare_expr es es' e e' q p

is_in_list : (negated : Bool) (x x' : ℕ) (es es' : List Expr) (e e' : Expr) → no_place x ≡ no_place x' → bare_list es ≡ bare_list es' → bare_expr e ≡ bare_expr e'
    → bare_expr (in_list negated x es e) ≡ bare_expr (in_list negated x' es' e')
is_in_list negated x x' es es' e e' p q r = let a = bare-In e negated es x in let b = bare-In e' negated es' x' in cc

is_like : (negated : Bool) (x x' : ℕ) (l l' : Literal) (e e' : Expr) → no_place x ≡ no_place x' → bare_literal l ≡ bare_literal l' → bare_expr e ≡ bare_expr e'
    → bare_expr (like negated x l e) ≡ bare_expr (like negated x' l' e')
is_like negated x x' l l' e e' p q r = let a = bare-Like e negated l x in let b = bare-Like e' negated l' x' in cc

with_between : (negated : Bool) (x x' : ℕ) (us vs : List Expr) → no_place x ≡ no_place x' → map bare_expr us ≡ map bare_expr vs → map bare_expr (joined3 (between negated x) us) ≡ map bare_expr (joined3 (between negated x') vs)
with_between negated x x' us vs p q =
    same_joined3 bare_expr (between negated x) (between negated x') (λ e e' f f' k k' c d g. let a = bare-Between e negated f k x in let b = bare-Between e' negated f' k' x' in cc) us vs q

is_CountAll : (x x' : ℕ) → no_place x ≡ no_place x' → bare_expr (expr.CountAll x) ≡ bare_expr (expr.CountAll x')
is_CountAll x x' p = bare-CountAll x ∙ sym (bare-CountAll x')

is_aggregate : (g : Aggregate) (x x' : ℕ) (e e' : Expr) → no_place x ≡ no_place x' → bare_expr e ≡ bare_expr e' → bare_expr (aggregate g x e) ≡ bare_expr (aggregate g x' e')
is_aggregate g x x' e e' p q = let a = bare-Aggregate g e x in let b = bare-Aggregate g e' x' in cc

is_coalesce : (x x' : ℕ) (es es' : List Expr) → no_place x ≡ no_place x' → bare_list es ≡ bare_list es' → bare_expr (coalesce x es) ≡ bare_expr (coalesce x' es')
is_coalesce x x' es es' p q = let a = bare-Coalesce es x in let b = bare-Coalesce es' x' in cc

is_add_arm : (e e' f f' : Expr) (ls ls' : List Arm) → bare_expr e ≡ bare_expr e' → bare_expr f ≡ bare_expr f' → bare_arms ls ≡ bare_arms ls' → bare_arms (add_arm e f ls) ≡ bare_arms (add_arm e' f' ls')
is_add_arm e e' f f' ls ls' p q r =
    let k : Arm = record { condition = e; value = f } in
    let l : Arm = record { condition = e'; value = f' } in
    same_snoc bare_of_arm ls ls' k l r
    (bare-arm k ∙ ap (λ (u : Expr). let i : Arm = record { condition = u; value = bare_expr f } in i) p ∙ ap (λ (u : Expr). let i : Arm = record { condition = bare_expr e'; value = u } in i) q ∙ sym (bare-arm l))

is_case : (x x' : ℕ) (ls ls' : List Arm) → no_place x ≡ no_place x' → bare_arms ls ≡ bare_arms ls' → bare_expr (case x ls) ≡ bare_expr (case x' ls')
is_case x x' ls ls' p q = let a = bare-Case-none ls x in let b = bare-Case-none ls' x' in cc

is_case_else : (x x' : ℕ) (ls ls' : List Arm) (e e' : Expr) → no_place x ≡ no_place x' → bare_arms ls ≡ bare_arms ls' → bare_expr e ≡ bare_expr e' → bare_expr (case_else x ls e) ≡ bare_expr (case_else x' ls' e')
is_case_else x x' ls ls' e e' p q r = let a = bare-Case-some ls e x in let b = bare-Case-some ls' e' x' in cc

-- selects, by their fields

record Fields (s s' : Select) : Type 0 where
  distinct : s.distinct ≡ s'.distinct
  items : map bare_item s.items ≡ map bare_item s'.items
  from : map bare_of_table s.from ≡ map bare_of_table s'.from
  condition : option_map bare_expr s.condition ≡ option_map bare_expr s'.condition
  group : map bare_column s.group ≡ map bare_column s'.group
  having : option_map bare_expr s.having ≡ option_map bare_expr s'.having

fields : (s s' : Select) → bare_of_select s ≡ bare_of_select s' → Fields s s'
fields s s' p =
    let e : select_bare s ≡ select_bare s' = sym (bare-select s) ∙ p ∙ bare-select s' in
    record {
      distinct = ap (λ (x : Select). x.distinct) e;
      items = ap (λ (x : Select). x.items) e;
      from = ap (λ (x : Select). x.from) e;
      condition = ap (λ (x : Select). x.condition) e;
      group = ap (λ (x : Select). x.group) e;
      having = ap (λ (x : Select). x.having) e;
    }

by_fields : (s s' : Select) → Fields s s' → bare_of_select s ≡ bare_of_select s'
by_fields s s' f =
    let e : select_bare s ≡ select_bare s' = rw (f.distinct, f.items, f.from, f.condition, f.group, f.having) refl in
    bare-select s ∙ e ∙ sym (bare-select s')

is_bare_select : (x y : ℕ) → bare_of_select (bare_select x) ≡ bare_of_select (bare_select y)
is_bare_select x y = by_fields (bare_select x) (bare_select y) (record { distinct = refl; items = refl; from = refl; condition = refl; group = refl; having = refl })

is_distinct : (s s' : Select) → bare_of_select s ≡ bare_of_select s' → bare_of_select (distinct s) ≡ bare_of_select (distinct s')
is_distinct s s' p =
    let f = fields s s' p in
    by_fields (distinct s) (distinct s') (record { distinct = refl; items = f.items; from = f.from; condition = f.condition; group = f.group; having = f.having })

one_item : (i i' : SelectItem) (s s' : Select) → bare_item i ≡ bare_item i' → bare_of_select s ≡ bare_of_select s' → bare_of_select (add_item i s) ≡ bare_of_select (add_item i' s')
one_item i i' s s' q p =
    let f = fields s s' p in
    by_fields (add_item i s) (add_item i' s') (record { distinct = f.distinct; items = same_snoc bare_item s.items s'.items i i' f.items q; from = f.from; condition = f.condition; group = f.group; having = f.having })

is_all : (x x' : ℕ) (s s' : Select) → bare_of_select s ≡ bare_of_select s' → bare_of_select (add_item (item.All x) s) ≡ bare_of_select (add_item (item.All x') s')
is_all x x' s s' p = one_item (item.All x) (item.All x') s s' refl p

is_all_of : (r r' : Name) (s s' : Select) → bare_name r ≡ bare_name r' → bare_of_select s ≡ bare_of_select s' → bare_of_select (all_of r s) ≡ bare_of_select (all_of r' s')
is_all_of r r' s s' q p = one_item (item.AllOf r) (item.AllOf r') s s' (ap item.AllOf q) p

is_plain_item : (e e' : Expr) (s s' : Select) → bare_expr e ≡ bare_expr e' → bare_of_select s ≡ bare_of_select s' → bare_of_select (plain_item e s) ≡ bare_of_select (plain_item e' s')
is_plain_item e e' s s' q p = one_item (item.Expr e None) (item.Expr e' None) s s' (ap (λ x. item.Expr x None) q) p

is_named_item : (r r' : Name) (e e' : Expr) (s s' : Select) → bare_name r ≡ bare_name r' → bare_expr e ≡ bare_expr e' → bare_of_select s ≡ bare_of_select s' → bare_of_select (named_item r e s) ≡ bare_of_select (named_item r' e' s')
is_named_item r r' e e' s s' o q p =
    let i : bare_item (item.Expr e (Some r)) ≡ bare_item (item.Expr e' (Some r')) = cc in
    one_item (item.Expr e (Some r)) (item.Expr e' (Some r')) s s' i p

is_from : (x x' : TableRef) (s s' : Select) → bare_of_table x ≡ bare_of_table x' → bare_of_select s ≡ bare_of_select s' → bare_of_select (from x s) ≡ bare_of_select (from x' s')
is_from x x' s s' q p =
    let f = fields s s' p in
    by_fields (from x s) (from x' s') (record { distinct = f.distinct; items = f.items; from = same_snoc bare_of_table s.from s'.from x x' f.from q; condition = f.condition; group = f.group; having = f.having })

is_where_true : (e e' : Expr) (s s' : Select) → bare_expr e ≡ bare_expr e' → bare_of_select s ≡ bare_of_select s' → bare_of_select (where_true e s) ≡ bare_of_select (where_true e' s')
is_where_true e e' s s' q p =
    let f = fields s s' p in
    by_fields (where_true e s) (where_true e' s') (record { distinct = f.distinct; items = f.items; from = f.from; condition = ap (λ x. Some x) q; group = f.group; having = f.having })

is_group_by : (c c' : ColumnName) (s s' : Select) → bare_column c ≡ bare_column c' → bare_of_select s ≡ bare_of_select s' → bare_of_select (group_by c s) ≡ bare_of_select (group_by c' s')
is_group_by c c' s s' q p =
    let f = fields s s' p in
    by_fields (group_by c s) (group_by c' s') (record { distinct = f.distinct; items = f.items; from = f.from; condition = f.condition; group = same_snoc bare_column s.group s'.group c c' f.group q; having = f.having })

is_having_true : (e e' : Expr) (s s' : Select) → bare_expr e ≡ bare_expr e' → bare_of_select s ≡ bare_of_select s' → bare_of_select (having_true e s) ≡ bare_of_select (having_true e' s')
is_having_true e e' s s' q p =
    let f = fields s s' p in
    by_fields (having_true e s) (having_true e' s') (record { distinct = f.distinct; items = f.items; from = f.from; condition = f.condition; group = f.group; having = ap (λ x. Some x) q })

-- sets, tables and queries

is_one_select : (s s' : Select) → bare_of_select s ≡ bare_of_select s' → bare_set (one_select s) ≡ bare_set (one_select s')
is_one_select s s' p = let a = bare-Select s in let b = bare-Select s' in cc

is_union : (every : Bool) (s s' : Select) (l l' : SetQuery) → bare_of_select s ≡ bare_of_select s' → bare_set l ≡ bare_set l' → bare_set (union every s l) ≡ bare_set (union every s' l')
is_union every s s' l l' p q = let a = bare-Union l every s in let b = bare-Union l' every s' in cc

is_table : (r r' : RelationName) → bare_relation r ≡ bare_relation r' → bare_of_table (table r) ≡ bare_of_table (table r')
is_table r r' p = let a = bare-Named r None in let b = bare-Named r' None in cc

is_table_as : (r r' : RelationName) (n n' : Name) → bare_relation r ≡ bare_relation r' → bare_name n ≡ bare_name n' → bare_of_table (table_as r n) ≡ bare_of_table (table_as r' n')
is_table_as r r' n n' p q = let a = bare-Named r (Some n) in let b = bare-Named r' (Some n') in cc

is_derived : (l l' : SetQuery) (n n' : Name) → bare_set l ≡ bare_set l' → bare_name n ≡ bare_name n' → bare_of_table (derived l n) ≡ bare_of_table (derived l' n')
is_derived l l' n n' p q = let a = bare-Derived l n in let b = bare-Derived l' n' in cc

is_joined_tables : (k : JoinKind) (l l' r r' : TableRef) → bare_of_table l ≡ bare_of_table l' → bare_of_table r ≡ bare_of_table r' → bare_of_table (joined_tables k l r) ≡ bare_of_table (joined_tables k l' r')
is_joined_tables k l l' r r' p q = let a = bare-Joined l r k in let b = bare-Joined l' r' k in cc

with_inner : (e e' : Expr) (us vs : List TableRef) → bare_expr e ≡ bare_expr e' → map bare_of_table us ≡ map bare_of_table vs → map bare_of_table (joined (joined_tables (Inner e)) us) ≡ map bare_of_table (joined (joined_tables (Inner e')) vs)
with_inner e e' us vs p q =
    same_joined bare_of_table (joined_tables (Inner e)) (joined_tables (Inner e')) (λ l l' r r' c d. let a = bare-Joined l r (Inner e) in let b = bare-Joined l' r' (Inner e') in cc) us vs q

with_left : (e e' : Expr) (us vs : List TableRef) → bare_expr e ≡ bare_expr e' → map bare_of_table us ≡ map bare_of_table vs → map bare_of_table (joined (joined_tables (Left e)) us) ≡ map bare_of_table (joined (joined_tables (Left e')) vs)
with_left e e' us vs p q =
    same_joined bare_of_table (joined_tables (Left e)) (joined_tables (Left e')) (λ l l' r r' c d. let a = bare-Joined l r (Left e) in let b = bare-Joined l' r' (Left e') in cc) us vs q

is_query : (l l' : SetQuery) → bare_set l ≡ bare_set l' → bare (query_specs.query l) ≡ bare (query_specs.query l')
is_query l l' p = ap (λ (x : SetQuery). let q : Query = record { set = x; keys = []; limit = None; offset = None } in q) p

record Parts (q q' : Query) : Type 0 where
  set : bare_set q.set ≡ bare_set q'.set
  keys : map bare_key q.keys ≡ map bare_key q'.keys
  limit : option_map bare_literal q.limit ≡ option_map bare_literal q'.limit
  offset : option_map bare_literal q.offset ≡ option_map bare_literal q'.offset

parts : (q q' : Query) → bare q ≡ bare q' → Parts q q'
parts q q' e = record {
  set = ap (λ (x : Query). x.set) e;
  keys = ap (λ (x : Query). x.keys) e;
  limit = ap (λ (x : Query). x.limit) e;
  offset = ap (λ (x : Query). x.offset) e;
}

by_parts : (q q' : Query) → Parts q q' → bare q ≡ bare q'
by_parts q q' p = rw (p.set, p.keys, p.limit, p.offset) refl

is_key_name : (down : Bool) (n n' : Name) (q q' : Query) → bare_name n ≡ bare_name n' → bare q ≡ bare q' → bare (key_name down n q) ≡ bare (key_name down n' q')
is_key_name down n n' q q' r e =
    let p = parts q q' e in
    by_parts (key_name down n q) (key_name down n' q')
    (record { set = p.set; keys = same_snoc bare_key q.keys q'.keys _ _ p.keys (ap (λ (x : Name). bare_key (record { target = target.Name x; descending = down })) r); limit = p.limit; offset = p.offset })

is_key_number : (down : Bool) (n n' : Literal) (q q' : Query) → bare_literal n ≡ bare_literal n' → bare q ≡ bare q' → bare (key_number down n q) ≡ bare (key_number down n' q')
is_key_number down n n' q q' r e =
    let p = parts q q' e in
    by_parts (key_number down n q) (key_number down n' q')
    (record { set = p.set; keys = same_snoc bare_key q.keys q'.keys _ _ p.keys (ap (λ (x : Literal). bare_key (record { target = target.Number x; descending = down })) r); limit = p.limit; offset = p.offset })

is_limit : (n n' : Literal) (q q' : Query) → bare_literal n ≡ bare_literal n' → bare q ≡ bare q' → bare (limit n q) ≡ bare (limit n' q')
is_limit n n' q q' r e = let p = parts q q' e in by_parts (limit n q) (limit n' q') (record { set = p.set; keys = p.keys; limit = ap (λ x. Some x) r; offset = p.offset })

is_offset : (n n' : Literal) (q q' : Query) → bare_literal n ≡ bare_literal n' → bare q ≡ bare q' → bare (offset n q) ≡ bare (offset n' q')
is_offset n n' q q' r e = let p = parts q q' e in by_parts (offset n q) (offset n' q') (record { set = p.set; keys = p.keys; limit = p.limit; offset = ap (λ x. Some x) r })

is_run : (q q' : Query) → bare q ≡ bare q' → query_of (run q) ≡ query_of (run q')
is_run q q' e = ap (λ x. Some x) e

-- actions

token_same : (s t : Source) (n m : ℕ) (a : TokenAction) (w v : Waiting) → ReadsToken s t n m a → SameBut w v → SameBut (token_on s n a w) (token_on t m a v)
token_same s t n m token.Place w v r h = record { places = same_push refl h.places; names = h.names; literals = h.literals; columns = h.columns; relations = h.relations; exprs = h.exprs; lists = h.lists; links = h.links; arms = h.arms; selects = h.selects; sets = h.sets; tables = h.tables; queries = h.queries; statements = h.statements }
token_same s t n m token.Name w v r h = record { places = h.places; names = same_push r h.names; literals = h.literals; columns = h.columns; relations = h.relations; exprs = h.exprs; lists = h.lists; links = h.links; arms = h.arms; selects = h.selects; sets = h.sets; tables = h.tables; queries = h.queries; statements = h.statements }
token_same s t n m token.Literal w v r h = record { places = h.places; names = h.names; literals = same_push r h.literals; columns = h.columns; relations = h.relations; exprs = h.exprs; lists = h.lists; links = h.links; arms = h.arms; selects = h.selects; sets = h.sets; tables = h.tables; queries = h.queries; statements = h.statements }
token_same s t n m token.Negative w v r h = record { places = h.places; names = h.names; literals = same_push r h.literals; columns = h.columns; relations = h.relations; exprs = h.exprs; lists = h.lists; links = h.links; arms = h.arms; selects = h.selects; sets = h.sets; tables = h.tables; queries = h.queries; statements = h.statements }
token_same s t n m token.Plain w v r h = record { places = h.places; names = same_rest bare_name w.names v.names h.names; literals = h.literals; columns = same_made bare_column bare_name column.Plain column.Plain is_Plain w.names v.names w.columns v.columns h.names h.columns; relations = h.relations; exprs = h.exprs; lists = h.lists; links = h.links; arms = h.arms; selects = h.selects; sets = h.sets; tables = h.tables; queries = h.queries; statements = h.statements }
token_same s t n m token.Of w v r h = record { places = h.places; names = same_rest bare_name (rest w.names) (rest v.names) (same_rest bare_name w.names v.names h.names); literals = h.literals; columns = same_made_of_two bare_column bare_name column.Of column.Of is_Of w.names v.names w.columns v.columns h.names h.columns; relations = h.relations; exprs = h.exprs; lists = h.lists; links = h.links; arms = h.arms; selects = h.selects; sets = h.sets; tables = h.tables; queries = h.queries; statements = h.statements }
token_same s t n m token.InSchema w v r h = record { places = h.places; names = same_rest bare_name (rest (rest w.names)) (rest (rest v.names)) (same_rest bare_name (rest w.names) (rest v.names) (same_rest bare_name w.names v.names h.names)); literals = h.literals; columns = same_made_of_three bare_column bare_name column.InSchema column.InSchema is_InSchema w.names v.names w.columns v.columns h.names h.columns; relations = h.relations; exprs = h.exprs; lists = h.lists; links = h.links; arms = h.arms; selects = h.selects; sets = h.sets; tables = h.tables; queries = h.queries; statements = h.statements }
token_same s t n m token.Relation w v r h = record { places = h.places; names = same_rest bare_name w.names v.names h.names; literals = h.literals; columns = h.columns; relations = same_made bare_relation bare_name relation relation is_relation w.names v.names w.relations v.relations h.names h.relations; exprs = h.exprs; lists = h.lists; links = h.links; arms = h.arms; selects = h.selects; sets = h.sets; tables = h.tables; queries = h.queries; statements = h.statements }
token_same s t n m token.RelationOf w v r h = record { places = h.places; names = same_rest bare_name (rest w.names) (rest v.names) (same_rest bare_name w.names v.names h.names); literals = h.literals; columns = h.columns; relations = same_made_of_two bare_relation bare_name relation_of relation_of is_relation_of w.names v.names w.relations v.relations h.names h.relations; exprs = h.exprs; lists = h.lists; links = h.links; arms = h.arms; selects = h.selects; sets = h.sets; tables = h.tables; queries = h.queries; statements = h.statements }

expr_same : (a : ExprAction) (w v : Waiting) → SameBut w v → SameBut (expr_on a w) (expr_on a v)
expr_same action.Constant w v h = record { places = h.places; names = h.names; literals = same_rest bare_literal w.literals v.literals h.literals; columns = h.columns; relations = h.relations; exprs = same_made bare_expr bare_literal constant constant is_constant w.literals v.literals w.exprs v.exprs h.literals h.exprs; lists = h.lists; links = h.links; arms = h.arms; selects = h.selects; sets = h.sets; tables = h.tables; queries = h.queries; statements = h.statements }
expr_same action.Column w v h = record { places = h.places; names = h.names; literals = h.literals; columns = same_rest bare_column w.columns v.columns h.columns; relations = h.relations; exprs = same_made bare_expr bare_column expr.Column expr.Column is_Column w.columns v.columns w.exprs v.exprs h.columns h.exprs; lists = h.lists; links = h.links; arms = h.arms; selects = h.selects; sets = h.sets; tables = h.tables; queries = h.queries; statements = h.statements }
expr_same action.Parens w v h = record { places = same_rest no_place w.places v.places h.places; names = h.names; literals = h.literals; columns = h.columns; relations = h.relations; exprs = same_put bare_expr no_place parens parens is_parens w.places v.places w.exprs v.exprs h.places h.exprs; lists = h.lists; links = h.links; arms = h.arms; selects = h.selects; sets = h.sets; tables = h.tables; queries = h.queries; statements = h.statements }
expr_same action.Negate w v h = record { places = same_rest no_place w.places v.places h.places; names = h.names; literals = h.literals; columns = h.columns; relations = h.relations; exprs = same_put bare_expr no_place negate negate is_negate w.places v.places w.exprs v.exprs h.places h.exprs; lists = h.lists; links = h.links; arms = h.arms; selects = h.selects; sets = h.sets; tables = h.tables; queries = h.queries; statements = h.statements }
expr_same action.Not w v h = record { places = same_rest no_place w.places v.places h.places; names = h.names; literals = h.literals; columns = h.columns; relations = h.relations; exprs = same_put bare_expr no_place not_expr not_expr is_not_expr w.places v.places w.exprs v.exprs h.places h.exprs; lists = h.lists; links = h.links; arms = h.arms; selects = h.selects; sets = h.sets; tables = h.tables; queries = h.queries; statements = h.statements }
expr_same action.Links w v h = record { places = h.places; names = h.names; literals = h.literals; columns = h.columns; relations = h.relations; exprs = h.exprs; lists = h.lists; links = same_push refl h.links; arms = h.arms; selects = h.selects; sets = h.sets; tables = h.tables; queries = h.queries; statements = h.statements }
expr_same (action.Link op) w v h = record { places = same_rest no_place w.places v.places h.places; names = h.names; literals = h.literals; columns = h.columns; relations = h.relations; exprs = same_rest bare_expr w.exprs v.exprs h.exprs; lists = h.lists; links = same_put2 bare_links no_place bare_expr (add_link op) (add_link op) (is_add_link op) w.places v.places w.exprs v.exprs w.links v.links h.places h.exprs h.links; arms = h.arms; selects = h.selects; sets = h.sets; tables = h.tables; queries = h.queries; statements = h.statements }
expr_same action.Chain w v h = record { places = h.places; names = h.names; literals = h.literals; columns = h.columns; relations = h.relations; exprs = same_put bare_expr bare_links chain chain is_chain w.links v.links w.exprs v.exprs h.links h.exprs; lists = h.lists; links = same_rest bare_links w.links v.links h.links; arms = h.arms; selects = h.selects; sets = h.sets; tables = h.tables; queries = h.queries; statements = h.statements }
expr_same (action.Compare c) w v h = record { places = same_rest no_place w.places v.places h.places; names = h.names; literals = h.literals; columns = h.columns; relations = h.relations; exprs = same_with bare_expr no_place (λ at. joined (compare c at)) (λ at. joined (compare c at)) (with_compare c) w.places v.places w.exprs v.exprs h.places h.exprs; lists = h.lists; links = h.links; arms = h.arms; selects = h.selects; sets = h.sets; tables = h.tables; queries = h.queries; statements = h.statements }
expr_same (action.IsNull negated) w v h = record { places = h.places; names = h.names; literals = h.literals; columns = h.columns; relations = h.relations; exprs = same_on bare_expr (is_null negated) (is_null negated) (is_is_null negated) w.exprs v.exprs h.exprs; lists = h.lists; links = h.links; arms = h.arms; selects = h.selects; sets = h.sets; tables = h.tables; queries = h.queries; statements = h.statements }
expr_same action.List w v h = record { places = h.places; names = h.names; literals = h.literals; columns = h.columns; relations = h.relations; exprs = h.exprs; lists = same_push refl h.lists; links = h.links; arms = h.arms; selects = h.selects; sets = h.sets; tables = h.tables; queries = h.queries; statements = h.statements }
expr_same action.Add w v h = record { places = h.places; names = h.names; literals = h.literals; columns = h.columns; relations = h.relations; exprs = same_rest bare_expr w.exprs v.exprs h.exprs; lists = same_put bare_list bare_expr add add is_add w.exprs v.exprs w.lists v.lists h.exprs h.lists; links = h.links; arms = h.arms; selects = h.selects; sets = h.sets; tables = h.tables; queries = h.queries; statements = h.statements }
expr_same (action.In negated) w v h = record { places = same_rest no_place w.places v.places h.places; names = h.names; literals = h.literals; columns = h.columns; relations = h.relations; exprs = same_put2 bare_expr no_place bare_list (in_list negated) (in_list negated) (is_in_list negated) w.places v.places w.lists v.lists w.exprs v.exprs h.places h.lists h.exprs; lists = same_rest bare_list w.lists v.lists h.lists; links = h.links; arms = h.arms; selects = h.selects; sets = h.sets; tables = h.tables; queries = h.queries; statements = h.statements }
expr_same (action.Like negated) w v h = record { places = same_rest no_place w.places v.places h.places; names = h.names; literals = same_rest bare_literal w.literals v.literals h.literals; columns = h.columns; relations = h.relations; exprs = same_put2 bare_expr no_place bare_literal (like negated) (like negated) (is_like negated) w.places v.places w.literals v.literals w.exprs v.exprs h.places h.literals h.exprs; lists = h.lists; links = h.links; arms = h.arms; selects = h.selects; sets = h.sets; tables = h.tables; queries = h.queries; statements = h.statements }
expr_same (action.Between negated) w v h = record { places = same_rest no_place w.places v.places h.places; names = h.names; literals = h.literals; columns = h.columns; relations = h.relations; exprs = same_with bare_expr no_place (λ at. joined3 (between negated at)) (λ at. joined3 (between negated at)) (with_between negated) w.places v.places w.exprs v.exprs h.places h.exprs; lists = h.lists; links = h.links; arms = h.arms; selects = h.selects; sets = h.sets; tables = h.tables; queries = h.queries; statements = h.statements }
expr_same action.CountAll w v h = record { places = same_rest no_place w.places v.places h.places; names = h.names; literals = h.literals; columns = h.columns; relations = h.relations; exprs = same_made bare_expr no_place expr.CountAll expr.CountAll is_CountAll w.places v.places w.exprs v.exprs h.places h.exprs; lists = h.lists; links = h.links; arms = h.arms; selects = h.selects; sets = h.sets; tables = h.tables; queries = h.queries; statements = h.statements }
expr_same (action.Aggregate a) w v h = record { places = same_rest no_place w.places v.places h.places; names = h.names; literals = h.literals; columns = h.columns; relations = h.relations; exprs = same_put bare_expr no_place (aggregate a) (aggregate a) (is_aggregate a) w.places v.places w.exprs v.exprs h.places h.exprs; lists = h.lists; links = h.links; arms = h.arms; selects = h.selects; sets = h.sets; tables = h.tables; queries = h.queries; statements = h.statements }
expr_same action.Coalesce w v h = record { places = same_rest no_place w.places v.places h.places; names = h.names; literals = h.literals; columns = h.columns; relations = h.relations; exprs = same_made2 bare_expr no_place bare_list coalesce coalesce is_coalesce w.places v.places w.lists v.lists w.exprs v.exprs h.places h.lists h.exprs; lists = same_rest bare_list w.lists v.lists h.lists; links = h.links; arms = h.arms; selects = h.selects; sets = h.sets; tables = h.tables; queries = h.queries; statements = h.statements }
expr_same action.Arms w v h = record { places = h.places; names = h.names; literals = h.literals; columns = h.columns; relations = h.relations; exprs = h.exprs; lists = h.lists; links = h.links; arms = same_push refl h.arms; selects = h.selects; sets = h.sets; tables = h.tables; queries = h.queries; statements = h.statements }
expr_same action.Arm w v h = record { places = h.places; names = h.names; literals = h.literals; columns = h.columns; relations = h.relations; exprs = same_rest bare_expr (rest w.exprs) (rest v.exprs) (same_rest bare_expr w.exprs v.exprs h.exprs); lists = h.lists; links = h.links; arms = same_put_two bare_arms bare_expr add_arm add_arm is_add_arm w.exprs v.exprs w.arms v.arms h.exprs h.arms; selects = h.selects; sets = h.sets; tables = h.tables; queries = h.queries; statements = h.statements }
expr_same action.Case w v h = record { places = same_rest no_place w.places v.places h.places; names = h.names; literals = h.literals; columns = h.columns; relations = h.relations; exprs = same_made2 bare_expr no_place bare_arms case case is_case w.places v.places w.arms v.arms w.exprs v.exprs h.places h.arms h.exprs; lists = h.lists; links = h.links; arms = same_rest bare_arms w.arms v.arms h.arms; selects = h.selects; sets = h.sets; tables = h.tables; queries = h.queries; statements = h.statements }
expr_same action.CaseElse w v h = record { places = same_rest no_place w.places v.places h.places; names = h.names; literals = h.literals; columns = h.columns; relations = h.relations; exprs = same_put2 bare_expr no_place bare_arms case_else case_else is_case_else w.places v.places w.arms v.arms w.exprs v.exprs h.places h.arms h.exprs; lists = h.lists; links = h.links; arms = same_rest bare_arms w.arms v.arms h.arms; selects = h.selects; sets = h.sets; tables = h.tables; queries = h.queries; statements = h.statements }

query_same : (s t : Source) (n m : ℕ) (a : QueryAction) (w v : Waiting) → SameBut w v → SameBut (query_on s n a w) (query_on t m a v)
query_same s t n m query.Select w v h = record { places = h.places; names = h.names; literals = h.literals; columns = h.columns; relations = h.relations; exprs = h.exprs; lists = h.lists; links = h.links; arms = h.arms; selects = same_push (is_bare_select (place_at s n) (place_at t m)) h.selects; sets = h.sets; tables = h.tables; queries = h.queries; statements = h.statements }
query_same s t n m query.Distinct w v h = record { places = h.places; names = h.names; literals = h.literals; columns = h.columns; relations = h.relations; exprs = h.exprs; lists = h.lists; links = h.links; arms = h.arms; selects = same_on bare_of_select distinct distinct is_distinct w.selects v.selects h.selects; sets = h.sets; tables = h.tables; queries = h.queries; statements = h.statements }
query_same s t n m query.All w v h = record { places = h.places; names = h.names; literals = h.literals; columns = h.columns; relations = h.relations; exprs = h.exprs; lists = h.lists; links = h.links; arms = h.arms; selects = same_on bare_of_select (add_item (item.All (place_at s n))) (add_item (item.All (place_at t m))) (is_all (place_at s n) (place_at t m)) w.selects v.selects h.selects; sets = h.sets; tables = h.tables; queries = h.queries; statements = h.statements }
query_same s t n m query.AllOf w v h = record { places = h.places; names = same_rest bare_name w.names v.names h.names; literals = h.literals; columns = h.columns; relations = h.relations; exprs = h.exprs; lists = h.lists; links = h.links; arms = h.arms; selects = same_put bare_of_select bare_name all_of all_of is_all_of w.names v.names w.selects v.selects h.names h.selects; sets = h.sets; tables = h.tables; queries = h.queries; statements = h.statements }
query_same s t n m query.Item w v h = record { places = h.places; names = h.names; literals = h.literals; columns = h.columns; relations = h.relations; exprs = same_rest bare_expr w.exprs v.exprs h.exprs; lists = h.lists; links = h.links; arms = h.arms; selects = same_put bare_of_select bare_expr plain_item plain_item is_plain_item w.exprs v.exprs w.selects v.selects h.exprs h.selects; sets = h.sets; tables = h.tables; queries = h.queries; statements = h.statements }
query_same s t n m query.ItemAs w v h = record { places = h.places; names = same_rest bare_name w.names v.names h.names; literals = h.literals; columns = h.columns; relations = h.relations; exprs = same_rest bare_expr w.exprs v.exprs h.exprs; lists = h.lists; links = h.links; arms = h.arms; selects = same_put2 bare_of_select bare_name bare_expr named_item named_item is_named_item w.names v.names w.exprs v.exprs w.selects v.selects h.names h.exprs h.selects; sets = h.sets; tables = h.tables; queries = h.queries; statements = h.statements }
query_same s t n m query.From w v h = record { places = h.places; names = h.names; literals = h.literals; columns = h.columns; relations = h.relations; exprs = h.exprs; lists = h.lists; links = h.links; arms = h.arms; selects = same_put bare_of_select bare_of_table from from is_from w.tables v.tables w.selects v.selects h.tables h.selects; sets = h.sets; tables = same_rest bare_of_table w.tables v.tables h.tables; queries = h.queries; statements = h.statements }
query_same s t n m query.Where w v h = record { places = h.places; names = h.names; literals = h.literals; columns = h.columns; relations = h.relations; exprs = same_rest bare_expr w.exprs v.exprs h.exprs; lists = h.lists; links = h.links; arms = h.arms; selects = same_put bare_of_select bare_expr where_true where_true is_where_true w.exprs v.exprs w.selects v.selects h.exprs h.selects; sets = h.sets; tables = h.tables; queries = h.queries; statements = h.statements }
query_same s t n m query.GroupKey w v h = record { places = h.places; names = h.names; literals = h.literals; columns = same_rest bare_column w.columns v.columns h.columns; relations = h.relations; exprs = h.exprs; lists = h.lists; links = h.links; arms = h.arms; selects = same_put bare_of_select bare_column group_by group_by is_group_by w.columns v.columns w.selects v.selects h.columns h.selects; sets = h.sets; tables = h.tables; queries = h.queries; statements = h.statements }
query_same s t n m query.Having w v h = record { places = h.places; names = h.names; literals = h.literals; columns = h.columns; relations = h.relations; exprs = same_rest bare_expr w.exprs v.exprs h.exprs; lists = h.lists; links = h.links; arms = h.arms; selects = same_put bare_of_select bare_expr having_true having_true is_having_true w.exprs v.exprs w.selects v.selects h.exprs h.selects; sets = h.sets; tables = h.tables; queries = h.queries; statements = h.statements }
query_same s t n m query.Selects w v h = record { places = h.places; names = h.names; literals = h.literals; columns = h.columns; relations = h.relations; exprs = h.exprs; lists = h.lists; links = h.links; arms = h.arms; selects = same_rest bare_of_select w.selects v.selects h.selects; sets = same_made bare_set bare_of_select one_select one_select is_one_select w.selects v.selects w.sets v.sets h.selects h.sets; tables = h.tables; queries = h.queries; statements = h.statements }
query_same s t n m (query.Union all) w v h = record { places = h.places; names = h.names; literals = h.literals; columns = h.columns; relations = h.relations; exprs = h.exprs; lists = h.lists; links = h.links; arms = h.arms; selects = same_rest bare_of_select w.selects v.selects h.selects; sets = same_put bare_set bare_of_select (union all) (union all) (is_union all) w.selects v.selects w.sets v.sets h.selects h.sets; tables = h.tables; queries = h.queries; statements = h.statements }
query_same s t n m query.Table w v h = record { places = h.places; names = h.names; literals = h.literals; columns = h.columns; relations = same_rest bare_relation w.relations v.relations h.relations; exprs = h.exprs; lists = h.lists; links = h.links; arms = h.arms; selects = h.selects; sets = h.sets; tables = same_made bare_of_table bare_relation table table is_table w.relations v.relations w.tables v.tables h.relations h.tables; queries = h.queries; statements = h.statements }
query_same s t n m query.TableAs w v h = record { places = h.places; names = same_rest bare_name w.names v.names h.names; literals = h.literals; columns = h.columns; relations = same_rest bare_relation w.relations v.relations h.relations; exprs = h.exprs; lists = h.lists; links = h.links; arms = h.arms; selects = h.selects; sets = h.sets; tables = same_made2 bare_of_table bare_relation bare_name table_as table_as is_table_as w.relations v.relations w.names v.names w.tables v.tables h.relations h.names h.tables; queries = h.queries; statements = h.statements }
query_same s t n m query.Derived w v h = record { places = h.places; names = same_rest bare_name w.names v.names h.names; literals = h.literals; columns = h.columns; relations = h.relations; exprs = h.exprs; lists = h.lists; links = h.links; arms = h.arms; selects = h.selects; sets = same_rest bare_set w.sets v.sets h.sets; tables = same_made2 bare_of_table bare_set bare_name derived derived is_derived w.sets v.sets w.names v.names w.tables v.tables h.sets h.names h.tables; queries = h.queries; statements = h.statements }
query_same s t n m query.Inner w v h = record { places = h.places; names = h.names; literals = h.literals; columns = h.columns; relations = h.relations; exprs = same_rest bare_expr w.exprs v.exprs h.exprs; lists = h.lists; links = h.links; arms = h.arms; selects = h.selects; sets = h.sets; tables = same_with bare_of_table bare_expr (λ e. joined (joined_tables (Inner e))) (λ e. joined (joined_tables (Inner e))) with_inner w.exprs v.exprs w.tables v.tables h.exprs h.tables; queries = h.queries; statements = h.statements }
query_same s t n m query.Left w v h = record { places = h.places; names = h.names; literals = h.literals; columns = h.columns; relations = h.relations; exprs = same_rest bare_expr w.exprs v.exprs h.exprs; lists = h.lists; links = h.links; arms = h.arms; selects = h.selects; sets = h.sets; tables = same_with bare_of_table bare_expr (λ e. joined (joined_tables (Left e))) (λ e. joined (joined_tables (Left e))) with_left w.exprs v.exprs w.tables v.tables h.exprs h.tables; queries = h.queries; statements = h.statements }
query_same s t n m query.Cross w v h = record { places = h.places; names = h.names; literals = h.literals; columns = h.columns; relations = h.relations; exprs = h.exprs; lists = h.lists; links = h.links; arms = h.arms; selects = h.selects; sets = h.sets; tables = same_joined bare_of_table (joined_tables Cross) (joined_tables Cross) (is_joined_tables Cross) w.tables v.tables h.tables; queries = h.queries; statements = h.statements }
query_same s t n m query.Query w v h = record { places = h.places; names = h.names; literals = h.literals; columns = h.columns; relations = h.relations; exprs = h.exprs; lists = h.lists; links = h.links; arms = h.arms; selects = h.selects; sets = same_rest bare_set w.sets v.sets h.sets; tables = h.tables; queries = same_made bare bare_set query_specs.query query_specs.query is_query w.sets v.sets w.queries v.queries h.sets h.queries; statements = h.statements }
query_same s t n m (query.KeyName descending) w v h = record { places = h.places; names = same_rest bare_name w.names v.names h.names; literals = h.literals; columns = h.columns; relations = h.relations; exprs = h.exprs; lists = h.lists; links = h.links; arms = h.arms; selects = h.selects; sets = h.sets; tables = h.tables; queries = same_put bare bare_name (key_name descending) (key_name descending) (is_key_name descending) w.names v.names w.queries v.queries h.names h.queries; statements = h.statements }
query_same s t n m (query.KeyNumber descending) w v h = record { places = h.places; names = h.names; literals = same_rest bare_literal w.literals v.literals h.literals; columns = h.columns; relations = h.relations; exprs = h.exprs; lists = h.lists; links = h.links; arms = h.arms; selects = h.selects; sets = h.sets; tables = h.tables; queries = same_put bare bare_literal (key_number descending) (key_number descending) (is_key_number descending) w.literals v.literals w.queries v.queries h.literals h.queries; statements = h.statements }
query_same s t n m query.Limit w v h = record { places = h.places; names = h.names; literals = same_rest bare_literal w.literals v.literals h.literals; columns = h.columns; relations = h.relations; exprs = h.exprs; lists = h.lists; links = h.links; arms = h.arms; selects = h.selects; sets = h.sets; tables = h.tables; queries = same_put bare bare_literal limit limit is_limit w.literals v.literals w.queries v.queries h.literals h.queries; statements = h.statements }
query_same s t n m query.Offset w v h = record { places = h.places; names = h.names; literals = same_rest bare_literal w.literals v.literals h.literals; columns = h.columns; relations = h.relations; exprs = h.exprs; lists = h.lists; links = h.links; arms = h.arms; selects = h.selects; sets = h.sets; tables = h.tables; queries = same_put bare bare_literal offset offset is_offset w.literals v.literals w.queries v.queries h.literals h.queries; statements = h.statements }

pub act_same : (s t : Source) (n m : ℕ) (a : Action) (w v : Waiting) → ReadsSame s t n m a → SameBut w v → SameBut (act_on s n a w) (act_on t m a v)
act_same s t n m act.Nothing w v r h = h
act_same s t n m (act.Token a) w v r h = token_same s t n m a w v r h
act_same s t n m (act.Expr a) w v r h = expr_same a w v h
act_same s t n m (act.Query a) w v r h = query_same s t n m a w v h
act_same s t n m (act.Statement statement_action.Query) w v r h = record { places = h.places; names = h.names; literals = h.literals; columns = h.columns; relations = h.relations; exprs = h.exprs; lists = h.lists; links = h.links; arms = h.arms; selects = h.selects; sets = h.sets; tables = h.tables; queries = same_rest bare w.queries v.queries h.queries; statements = same_made query_of bare run run is_run w.queries v.queries w.statements v.statements h.queries h.statements }
act_same s t n m (act.Statement _) w v r h = absurd r
