-- A statement that is a query was read by its rule.
use Rattle.std.proofs.Common.{◌≡◌, ◌∙◌, ℕ, zero, suc, Bool, true, false, List, [], ◌∷◌, ◌++◌, ◌==◌, Option, Some, None, refl, ap, sym, subst, if◌then◌else◌}
use Rattle.std.specs.Prelude.{not, ◌&&◌}
use Rattle.std.specs.List.{list_all}
use Rattle.std.proofs.lemmas.Bool.{eqb-true, and_parts}
use Rattle.grammar.specs.declared.machine.Event.{Event}
use Rattle.sql_reader.specs.declared.build.Action.{Action}
use Rattle.sql_reader.specs.declared.build.Action.TheVariants as act
use Rattle.sql_reader.specs.declared.build.TokenAction.{TokenAction}
use Rattle.sql_reader.specs.declared.build.TokenAction.TheVariants as token
use Rattle.sql_reader.specs.declared.build.ExprAction.{ExprAction}
use Rattle.sql_reader.specs.declared.build.ExprAction.TheVariants as expr
use Rattle.sql_reader.specs.declared.build.QueryAction.{QueryAction}
use Rattle.sql_reader.specs.declared.build.QueryAction.TheVariants as query
use Rattle.sql_reader.specs.declared.build.StatementAction.{StatementAction}
use Rattle.sql_reader.specs.declared.build.StatementAction.TheVariants as statement
use Rattle.sql_reader.specs.declared.tree.statement.Statement.{Statement}
use Rattle.sql_reader.specs.declared.tree.statement.Statement.TheVariants as tree
use Rattle.sql_reader.specs.Build.{action_of, act_on, build}
use Rattle.sql_reader.specs.BuildTokens.{token_on}
use Rattle.sql_reader.specs.BuildExprs.{expr_on}
use Rattle.sql_reader.specs.BuildQueries.{query_on}
use Rattle.sql_reader.specs.BuildStatements.{statement_on, explain, insert_values, insert_query, update, update_where, delete, delete_where, exec}
use Rattle.sql_reader.specs.Source.{Source, place_at}
use Rattle.sql_reader.specs.Waiting.{Waiting, made, made2, made3}

abbrev pub is_other : Statement → Bool
is_other (tree.Query q) = false
is_other _ = true

abbrev others : List Statement → Bool
others xs = list_all is_other xs

abbrev pub is_query : Action → Bool
is_query (act.Statement statement.Query) = true
is_query _ = false

module _ {A : Type 0} (f : A → Statement) (h : (x : A) → is_other (f x) ≡ true) where
  by_made : (xs : List A) (us : List Statement) → others us ≡ true → others (made f xs us) ≡ true
  by_made [] us e = e
  by_made (x ∷ xs) us e = rw (h x) e

by_made2 : {A B : Type 0} (f : A → B → Statement) → ((x : A) (y : B) → is_other (f x y) ≡ true) → (xs : List A) (ys : List B) (us : List Statement) → others us ≡ true → others (made2 f xs ys us) ≡ true
by_made2 f h [] ys us e = e
by_made2 f h (x ∷ xs) ys us e = by_made (f x) (h x) ys us e

by_made3 : {A B C : Type 0} (f : A → B → C → Statement) → ((x : A) (y : B) (z : C) → is_other (f x y z) ≡ true) → (xs : List A) (ys : List B) (zs : List C) (us : List Statement) → others us ≡ true → others (made3 f xs ys zs us) ≡ true
by_made3 f h [] ys zs us e = e
by_made3 f h (x ∷ xs) ys zs us e = by_made2 (f x) (h x) ys zs us e

token_keeps : (s : Source) (n : ℕ) (a : TokenAction) (w : Waiting) → (token_on s n a w).statements ≡ w.statements
token_keeps s n token.Place w = refl
token_keeps s n token.Name w = refl
token_keeps s n token.Literal w = refl
token_keeps s n token.Negative w = refl
token_keeps s n token.Plain w = refl
token_keeps s n token.Of w = refl
token_keeps s n token.InSchema w = refl
token_keeps s n token.Relation w = refl
token_keeps s n token.RelationOf w = refl

expr_keeps : (a : ExprAction) (w : Waiting) → (expr_on a w).statements ≡ w.statements
expr_keeps expr.Constant w = refl
expr_keeps expr.Column w = refl
expr_keeps expr.Parens w = refl
expr_keeps expr.Negate w = refl
expr_keeps expr.Not w = refl
expr_keeps expr.Links w = refl
expr_keeps (expr.Link op) w = refl
expr_keeps expr.Chain w = refl
expr_keeps (expr.Compare c) w = refl
expr_keeps (expr.IsNull negated) w = refl
expr_keeps expr.List w = refl
expr_keeps expr.Add w = refl
expr_keeps (expr.In negated) w = refl
expr_keeps (expr.Like negated) w = refl
expr_keeps (expr.Between negated) w = refl
expr_keeps expr.CountAll w = refl
expr_keeps (expr.Aggregate g) w = refl
expr_keeps expr.Coalesce w = refl
expr_keeps expr.Arms w = refl
expr_keeps expr.Arm w = refl
expr_keeps expr.Case w = refl
expr_keeps expr.CaseElse w = refl

query_keeps : (s : Source) (n : ℕ) (a : QueryAction) (w : Waiting) → (query_on s n a w).statements ≡ w.statements
query_keeps s n query.Select w = refl
query_keeps s n query.Distinct w = refl
query_keeps s n query.All w = refl
query_keeps s n query.AllOf w = refl
query_keeps s n query.Item w = refl
query_keeps s n query.ItemAs w = refl
query_keeps s n query.From w = refl
query_keeps s n query.Where w = refl
query_keeps s n query.GroupKey w = refl
query_keeps s n query.Having w = refl
query_keeps s n query.Selects w = refl
query_keeps s n (query.Union every) w = refl
query_keeps s n query.Table w = refl
query_keeps s n query.TableAs w = refl
query_keeps s n query.Derived w = refl
query_keeps s n query.Inner w = refl
query_keeps s n query.Left w = refl
query_keeps s n query.Cross w = refl
query_keeps s n query.Query w = refl
query_keeps s n (query.KeyName down) w = refl
query_keeps s n (query.KeyNumber down) w = refl
query_keeps s n query.Limit w = refl
query_keeps s n query.Offset w = refl

statement_keeps : (s : Source) (n : ℕ) (a : StatementAction) (w : Waiting) → is_query (act.Statement a) ≡ false → others w.statements ≡ true → others (statement_on s n a w).statements ≡ true
statement_keeps s n statement.Query w e h = absurd cc
statement_keeps s n statement.Explain w e h = by_made explain (λ x. refl) w.queries w.statements h
statement_keeps s n statement.Names w e h = h
statement_keeps s n statement.AddName w e h = h
statement_keeps s n statement.InsertValues w e h = by_made3 insert_values (λ x y z. refl) w.relations w.name_lists w.lists w.statements h
statement_keeps s n statement.InsertQuery w e h = by_made3 insert_query (λ x y z. refl) w.relations w.name_lists w.sets w.statements h
statement_keeps s n statement.Assignments w e h = h
statement_keeps s n statement.Assign w e h = h
statement_keeps s n statement.Update w e h = by_made2 (update None) (λ x y. refl) w.relations w.assignments w.statements h
statement_keeps s n statement.UpdateWhere w e h = by_made3 update_where (λ x y z. refl) w.exprs w.relations w.assignments w.statements h
statement_keeps s n statement.Delete w e h = by_made (delete None) (λ x. refl) w.relations w.statements h
statement_keeps s n statement.DeleteWhere w e h = by_made2 delete_where (λ x y. refl) w.exprs w.relations w.statements h
statement_keeps s n statement.Exec w e h = by_made2 (exec (place_at s n)) (λ x y. refl) w.relations w.lists w.statements h
statement_keeps s n statement.Start w e h = h
statement_keeps s n statement.Commit w e h = h
statement_keeps s n statement.Rollback w e h = h

keeps : (s : Source) (n : ℕ) (a : Action) (w : Waiting) → is_query a ≡ false → others w.statements ≡ true → others (act_on s n a w).statements ≡ true
keeps s n act.Nothing w e h = h
keeps s n (act.Token a) w e h = rw (token_keeps s n a w) h
keeps s n (act.Expr a) w e h = rw (expr_keeps a w) h
keeps s n (act.Query a) w e h = rw (query_keeps s n a w) h
keeps s n (act.Statement a) w e h = statement_keeps s n a w e h

-- no action of a query statement is among them
abbrev pub NoneIs : List Event → Type 0
NoneIs [] = Unit {0}
NoneIs (e ∷ es) = (is_query (action_of e.action) ≡ false) × NoneIs es

pub none_built : (s : Source) (log : List Event) (w : Waiting) → NoneIs log → others w.statements ≡ true → others (build s log w).statements ≡ true
none_built s [] w y h = h
none_built s (e ∷ es) w y h = none_built s es (act_on s e.at (action_of e.action) w) y.1 (keeps s e.at (action_of e.action) w y.0 h)
