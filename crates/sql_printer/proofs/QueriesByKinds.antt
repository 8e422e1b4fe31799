-- What each kind of query and table says, by what its parts say, and its text after others.
--
use Rattle.std.proofs.Common.{◌≡◌, ◌∙◌, Bool, List, [], ◌∷◌, ◌++◌, Option, Some, None, ℕ, map, ap, sym, refl, append-nil}
use Rattle.sql_reader.specs.declared.tree.expr.Expr.{Expr}
use Rattle.sql_reader.specs.declared.tree.expr.Literal.{Literal as ALiteral}
use Rattle.sql_reader.specs.declared.tree.name.Name.{Name}
use Rattle.sql_reader.specs.declared.tree.name.RelationName.{RelationName}
use Rattle.sql_reader.specs.declared.tree.query.JoinKind.{JoinKind}
use Rattle.sql_reader.specs.declared.tree.query.JoinKind.TheVariants.{Inner, Left}
use Rattle.sql_reader.specs.declared.tree.query.Key.{Key}
use Rattle.sql_reader.specs.declared.tree.query.Query.{Query}
use Rattle.sql_reader.specs.declared.tree.query.Select.{Select as ASelect}
use Rattle.sql_reader.specs.declared.tree.query.SelectItem.TheVariants.{AllOf, Expr as AnExpr}
use Rattle.sql_reader.specs.declared.tree.query.SetQuery.{SetQuery}
use Rattle.sql_reader.specs.declared.tree.query.SetQuery.TheVariants.{Select, Union, rolls-Select, rolls-Union}
use Rattle.sql_reader.specs.declared.tree.query.SetQuery.TheOpen.{SetQuery-F, TableRef-F}
use Rattle.sql_reader.specs.declared.tree.query.SetQuery.TheFolds.{fold-roll-SetQuery, fold-roll-TableRef, fold_out-Select}
use Rattle.sql_reader.specs.declared.tree.query.TableRef.{TableRef}
use Rattle.sql_reader.specs.declared.tree.query.TableRef.TheVariants.{Named, Derived, Joined, rolls-Named, rolls-Derived, rolls-Joined}
use Rattle.sql_reader.specs.Symbols as symbol
use Rattle.sql_printer.specs.Said.{Said, word}
use Rattle.sql_printer.specs.Spelled.{spelled}
use Rattle.sql_printer.specs.Lists.{listed, itself}
use Rattle.sql_printer.specs.Names.{name, relation, column, alias, literal, optional}
use Rattle.sql_printer.specs.Exprs.{expr, in_parens}
use Rattle.sql_printer.specs.Queries.{item_said, condition_said, join_said, on_said, from, group_by, order_by, target_said, key, bound_said, set_step, select_step, table_step, set, select, table, printed}
use Rattle.sql_printer.proofs.Texts.{step, listed_same}

pub select_is : (s : ASelect) → select s ≡ word symbol.SELECT ++ optional s.distinct symbol.DISTINCT ++ listed [] item_said s.items ++ listed from table s.from ++ condition_said symbol.WHERE s.condition ++ listed group_by column s.group ++ condition_said symbol.HAVING s.having
unfolding set select table
select_is s = fold_out-Select (List Said) (List Said) (List Said) set_step table_step select_step s ∙ ap (λ x. word symbol.SELECT ++ optional s.distinct symbol.DISTINCT ++ listed [] item_said s.items ++ x ++ condition_said symbol.WHERE s.condition ++ listed group_by column s.group ++ condition_said symbol.HAVING s.having) (listed_same from table s.from)

pub text-select_is : (o : List ℕ) (s : ASelect) → o ++ spelled (select s) ≡ ((((((o ++ spelled (word symbol.SELECT)) ++ spelled (optional s.distinct symbol.DISTINCT)) ++ spelled (listed [] item_said s.items)) ++ spelled (listed from table s.from)) ++ spelled (condition_said symbol.WHERE s.condition)) ++ spelled (listed group_by column s.group)) ++ spelled (condition_said symbol.HAVING s.having)
text-select_is o s = ap (λ x. o ++ spelled x) (select_is s) ∙ step o (word symbol.SELECT ++ optional s.distinct symbol.DISTINCT ++ listed [] item_said s.items ++ listed from table s.from ++ condition_said symbol.WHERE s.condition ++ listed group_by column s.group) (condition_said symbol.HAVING s.having) ∙ ap (λ x. x ++ spelled (condition_said symbol.HAVING s.having)) (step o (word symbol.SELECT ++ optional s.distinct symbol.DISTINCT ++ listed [] item_said s.items ++ listed from table s.from ++ condition_said symbol.WHERE s.condition) (listed group_by column s.group) ∙ ap (λ x. x ++ spelled (listed group_by column s.group)) (step o (word symbol.SELECT ++ optional s.distinct symbol.DISTINCT ++ listed [] item_said s.items ++ listed from table s.from) (condition_said symbol.WHERE s.condition) ∙ ap (λ x. x ++ spelled (condition_said symbol.WHERE s.condition)) (step o (word symbol.SELECT ++ optional s.distinct symbol.DISTINCT ++ listed [] item_said s.items) (listed from table s.from) ∙ ap (λ x. x ++ spelled (listed from table s.from)) (step o (word symbol.SELECT ++ optional s.distinct symbol.DISTINCT) (listed [] item_said s.items) ∙ ap (λ x. x ++ spelled (listed [] item_said s.items)) (step o (word symbol.SELECT) (optional s.distinct symbol.DISTINCT))))))

pub set-Select : (s : ASelect) → set (Select s) ≡ select s
unfolding set select table
set-Select s =
    ap (λ x. set x) (sym (rolls-Select s)) ∙ fold-roll-SetQuery (List Said) (List Said) (List Said) set_step table_step select_step (SetQuery-F.Select s)

pub text-set-Select : (o : List ℕ) (s : ASelect) → o ++ spelled (set (Select s)) ≡ o ++ spelled (select s)
text-set-Select o s = ap (λ x. o ++ spelled x) (set-Select s)

pub set-Union : (l : SetQuery) (every : Bool) (r : ASelect) → set (Union l every r) ≡ set l ++ word symbol.UNION ++ optional every symbol.ALL ++ select r
unfolding set select table
set-Union l every r =
    ap (λ x. set x) (sym (rolls-Union l every r)) ∙ fold-roll-SetQuery (List Said) (List Said) (List Said) set_step table_step select_step (SetQuery-F.Union l every r)

pub text-set-Union : (o : List ℕ) (l : SetQuery) (every : Bool) (r : ASelect) → o ++ spelled (set (Union l every r)) ≡ (((o ++ spelled (set l)) ++ spelled (word symbol.UNION)) ++ spelled (optional every symbol.ALL)) ++ spelled (select r)
text-set-Union o l every r = ap (λ x. o ++ spelled x) (set-Union l every r) ∙ step o (set l ++ word symbol.UNION ++ optional every symbol.ALL) (select r) ∙ ap (λ x. x ++ spelled (select r)) (step o (set l ++ word symbol.UNION) (optional every symbol.ALL) ∙ ap (λ x. x ++ spelled (optional every symbol.ALL)) (step o (set l) (word symbol.UNION)))

pub table-Named : (r : RelationName) (a : Option Name) → table (Named r a) ≡ relation r ++ alias a
unfolding set select table
table-Named r a =
    ap (λ x. table x) (sym (rolls-Named r a)) ∙ fold-roll-TableRef (List Said) (List Said) (List Said) set_step table_step select_step (TableRef-F.Named r a)

pub text-table-Named : (o : List ℕ) (r : RelationName) (a : Option Name) → o ++ spelled (table (Named r a)) ≡ (o ++ spelled (relation r)) ++ spelled (alias a)
text-table-Named o r a = ap (λ x. o ++ spelled x) (table-Named r a) ∙ step o (relation r) (alias a)

pub table-Derived : (q : SetQuery) (n : Name) → table (Derived q n) ≡ in_parens (set q) ++ name n
unfolding set select table
table-Derived q n =
    ap (λ x. table x) (sym (rolls-Derived q n)) ∙ fold-roll-TableRef (List Said) (List Said) (List Said) set_step table_step select_step (TableRef-F.Derived q n)

pub text-table-Derived : (o : List ℕ) (q : SetQuery) (n : Name) → o ++ spelled (table (Derived q n)) ≡ (((o ++ spelled (word symbol.OPEN)) ++ spelled (set q)) ++ spelled (word symbol.CLOSE)) ++ spelled (name n)
text-table-Derived o q n = ap (λ x. o ++ spelled x) (table-Derived q n) ∙ step o (in_parens (set q)) (name n) ∙ ap (λ x. x ++ spelled (name n)) (step o (word symbol.OPEN ++ set q) (word symbol.CLOSE) ∙ ap (λ x. x ++ spelled (word symbol.CLOSE)) (step o (word symbol.OPEN) (set q)))

pub table-Joined : (l r : TableRef) (k : JoinKind) → table (Joined l r k) ≡ table l ++ join_said k ++ table r ++ on_said k
unfolding set select table
table-Joined l r k =
    ap (λ x. table x) (sym (rolls-Joined l r k)) ∙ fold-roll-TableRef (List Said) (List Said) (List Said) set_step table_step select_step (TableRef-F.Joined l r k)

pub text-table-Joined : (o : List ℕ) (l r : TableRef) (k : JoinKind) → o ++ spelled (table (Joined l r k)) ≡ (((o ++ spelled (table l)) ++ spelled (join_said k)) ++ spelled (table r)) ++ spelled (on_said k)
text-table-Joined o l r k = ap (λ x. o ++ spelled x) (table-Joined l r k) ∙ step o (table l ++ join_said k ++ table r) (on_said k) ∙ ap (λ x. x ++ spelled (on_said k)) (step o (table l ++ join_said k) (table r) ∙ ap (λ x. x ++ spelled (table r)) (step o (table l) (join_said k)))

query_is : (q : Query) → printed q ≡ set q.set ++ listed order_by key q.keys ++ bound_said symbol.LIMIT q.limit ++ bound_said symbol.OFFSET q.offset
query_is q = refl

pub text-query_is : (o : List ℕ) (q : Query) → o ++ spelled (printed q) ≡ (((o ++ spelled (set q.set)) ++ spelled (listed order_by key q.keys)) ++ spelled (bound_said symbol.LIMIT q.limit)) ++ spelled (bound_said symbol.OFFSET q.offset)
text-query_is o q = ap (λ x. o ++ spelled x) (query_is q) ∙ step o (set q.set ++ listed order_by key q.keys ++ bound_said symbol.LIMIT q.limit) (bound_said symbol.OFFSET q.offset) ∙ ap (λ x. x ++ spelled (bound_said symbol.OFFSET q.offset)) (step o (set q.set ++ listed order_by key q.keys) (bound_said symbol.LIMIT q.limit) ∙ ap (λ x. x ++ spelled (bound_said symbol.LIMIT q.limit)) (step o (set q.set) (listed order_by key q.keys)))

pub text-all_of : (o : List ℕ) (r : Name) → o ++ spelled (item_said (AllOf r)) ≡ ((o ++ spelled (name r)) ++ spelled (word symbol.DOT)) ++ spelled (word symbol.TIMES)
text-all_of o r = step o (name r ++ word symbol.DOT) (word symbol.TIMES) ∙ ap (λ x. x ++ spelled (word symbol.TIMES)) (step o (name r) (word symbol.DOT))

pub text-item : (o : List ℕ) (e : Expr) (a : Option Name) → o ++ spelled (item_said (AnExpr e a)) ≡ (o ++ spelled (expr e)) ++ spelled (alias a)
text-item o e a = step o (expr e) (alias a)

pub text-condition : (o : List ℕ) (k : ℕ) (e : Expr) → o ++ spelled (condition_said k (Some e)) ≡ (o ++ spelled (word k)) ++ spelled (expr e)
text-condition o k e = step o (word k) (expr e)

pub text-inner : (o : List ℕ) (e : Expr) → o ++ spelled (on_said (Inner e)) ≡ (o ++ spelled (word symbol.ON)) ++ spelled (expr e)
text-inner o e = step o (word symbol.ON) (expr e)

pub text-left : (o : List ℕ) (e : Expr) → o ++ spelled (on_said (Left e)) ≡ (o ++ spelled (word symbol.ON)) ++ spelled (expr e)
text-left o e = step o (word symbol.ON) (expr e)

pub text-key : (o : List ℕ) (k : Key) → o ++ spelled (key k) ≡ (o ++ spelled (target_said k.target)) ++ spelled (optional k.descending symbol.DESC)
text-key o k = step o (target_said k.target) (optional k.descending symbol.DESC)

pub text-bound : (o : List ℕ) (k : ℕ) (l : ALiteral) → o ++ spelled (bound_said k (Some l)) ≡ (o ++ spelled (word k)) ++ spelled (literal l)
text-bound o k l = step o (word k) (literal l)

pub ruleset queries_by_kinds = (select_is, set-Select, set-Union, table-Named, table-Derived, table-Joined)

pub ruleset query_texts = (text-select_is, text-set-Select, text-set-Union, text-table-Named, text-table-Derived, text-table-Joined, text-query_is, text-all_of, text-item, text-condition, text-inner, text-left, text-key, text-bound)
