-- The relation of a statement is closed over the catalog, and within the limits of size.
use Rattle.std.proofs.Common.{◌≡◌, ℕ, true, List, [], ◌∷◌, ◌++◌, Option, Some, None, refl, subst}
use Rattle.std.specs.List.{AllByRecursion}
use Rattle.vdb_base.specs.declared.value.Ty.{Ty}
use Rattle.vdb_model.specs.declared.rel.Ranked.{Ranked}
use Rattle.vdb_model.specs.declared.rel.Rel.{Rel}
use Rattle.vdb_model.specs.declared.rel.Rel.TheVariants as rel
use Rattle.vdb_model.specs.declared.reply.Refusal.TheVariants.{Mismatch, TooLarge}
use Rattle.vdb_model.specs.declared.typed.Typed.{Typed}
use Rattle.vdb_model.specs.declared.typed.Typed.TheVariants as typed
use Rattle.vdb_model.specs.Defined.{Defined}
use Rattle.vdb_model.specs.Sizes.{nodes_of, depth_of, is_within_size}
use Rattle.sql_reader.specs.declared.tree.expr.Expr.{Expr}
use Rattle.sql_reader.specs.declared.tree.query.Query.{Query}
use Rattle.sql_reader.specs.declared.tree.statement.Delete.{Delete}
use Rattle.sql_reader.specs.declared.tree.statement.Exec.{Exec}
use Rattle.sql_reader.specs.declared.tree.statement.Insert.{Insert}
use Rattle.sql_reader.specs.declared.tree.statement.InsertSource.{InsertSource}
use Rattle.sql_reader.specs.declared.tree.statement.InsertSource.TheVariants as source
use Rattle.sql_reader.specs.declared.tree.statement.Statement.{Statement}
use Rattle.sql_reader.specs.declared.tree.statement.Statement.TheVariants as statement
use Rattle.sql_reader.specs.declared.tree.statement.Update.{Update}
use Rattle.expr_resolver.specs.declared.known.Known.{Known}
use Rattle.expr_resolver.specs.declared.scope.Names.{Names}
use Rattle.expr_resolver.specs.declared.scope.Over.TheVariants.{Rows}
use Rattle.resolver.specs.declared.targets.Given.{Given}
use Rattle.resolver.specs.Assigning.{listed_columns, of_known, of_columns, unfit_at, unless_unfit, assigned}
use Rattle.expr_resolver.specs.Exprs.{walk}
use Rattle.walk_laws.specs.Closed.{IsClosedOver, QueriesAreClosed, StatementsAreClosed}
use Rattle.expr_resolver.specs.Operators.{exprs_of}
use Rattle.resolver.specs.Queries.{keys_of, count_of, ranked, query_walk}
use Rattle.resolver.specs.Relations.{relation_of, procedure_of}
use Rattle.resolver.specs.Selects.{union_of}
use Rattle.resolver.specs.Statements.{walk_alone, over_rows, walks_alone, first_or, values_rows, insert_rows, insert_walk, target_source, assignments, no_sets, update_walk, delete_walk, exec_walk, statement_walk, sized_rel, within_size, resolved}
use Rattle.walk_laws.proofs.ClosedExprs.{expr_walks}
use Rattle.walk_laws.proofs.ClosedFrom.{gives_alone}
use Rattle.walk_laws.proofs.ClosedKnown.{Shut, exprs_shut}
use Rattle.walk_laws.proofs.ClosedRels.{one_closed, select_closed, relation_there}
use Rattle.walk_laws.proofs.ClosedSelects.{filtered_closed, union_of_closed}
use Rattle.walk_laws.proofs.ClosedSets.{set_closed}
use Rattle.walk_laws.proofs.Gives.{Gives, gives, refuses, gives_any, gives_ok_where, gives_next, all_append}

alone_shut : (names : Names) (e : Expr) → Gives (walk_alone names e) Shut
alone_shut names e = gives_alone (walk names e Rows) (expr_walks names e Rows)

each_alone_shut : (es : List Expr) (made : List Known) → AllByRecursion Shut made → Gives (walks_alone es made) (AllByRecursion Shut)
each_alone_shut [] made all = gives (AllByRecursion Shut) made all
each_alone_shut (e ∷ es) made all =
    gives_next (alone_shut (over_rows []) e)
    (λ k h. each_alone_shut es (made ++ k ∷ []) (all_append Shut made (k ∷ []) all (h, tt)))

gives_fit : {A : Type 0} (P : A → Type 0) (at : Option ℕ) (x : A) → P x → Gives (unless_unfit at x) P
gives_fit P None x h = gives P x h
gives_fit P (Some at) x h = refuses P (Mismatch at)

gives_assigned : {A : Type 0} (P : A → Type 0) (at : ℕ) (ts : List Ty) (values : List Given) (x : A) → P x → Gives (assigned at ts values x) P
gives_assigned P at ts values x h = gives_fit P (unfit_at at ts values) x h

module _ (defined : Defined) where
  abbrev RankedClosed : Ranked → Type 0
  RankedClosed r = IsClosedOver defined r.rel

  pub query_closed : (q : Query) → Gives (query_walk defined q) RankedClosed
  query_closed q =
      gives_next (set_closed defined q.set) (λ s all.
      gives_next (gives_any (keys_of s.columns q.keys [])) (λ keys any.
      gives_next (gives_any (count_of q.limit)) (λ limit any.
      gives_next (gives_any (count_of q.offset)) (λ offset any.
      gives RankedClosed (ranked s keys limit offset) (union_of_closed defined s.parts all)))))

  -- its relation, where it has one
  abbrev SizedClosed : Typed → Type 0
  SizedClosed t = (r : Rel) → sized_rel t ≡ Some r → IsClosedOver defined r

  sized : (t : Typed) (own : Rel) → sized_rel t ≡ Some own → IsClosedOver defined own → SizedClosed t
  sized t own is h r e = subst (IsClosedOver defined) (cc (is, e)) h

  unsized : (t : Typed) → sized_rel t ≡ None → SizedClosed t
  unsized t is r e = absurd (cc (is, e))

  values_closed : (ts : List Ty) (ks : List Known) → AllByRecursion Shut ks → Gives (values_rows ts ks) (IsClosedOver defined)
  values_closed ts ks all =
      gives_assigned (IsClosedOver defined) (first_or 0 ks) ts (of_known ks) (rel.Select rel.One (exprs_of ks)) (select_closed defined rel.One (exprs_of ks) (one_closed defined) (exprs_shut ks all))

  rows_closed : (ts : List Ty) (from : InsertSource) → Gives (insert_rows defined ts from) (IsClosedOver defined)
  rows_closed ts (source.Values es) = gives_next (each_alone_shut es [] tt) (values_closed ts)
  rows_closed ts (source.Query q) =
      gives_next (set_closed defined q)
      (λ s all. gives_assigned (IsClosedOver defined) s.first ts (of_columns s.columns) (union_of s.parts) (union_of_closed defined s.parts all))

  insert_closed : (i : Insert) → Gives (insert_walk defined i) SizedClosed
  insert_closed i =
      gives_next (gives_any (relation_of defined i.target)) (λ r any.
      gives_next (gives_any (listed_columns r.columns i.columns)) (λ columns any.
      gives_next (rows_closed columns.tys i.source) (λ rows h.
      gives SizedClosed (typed.Insert r.target columns.columns rows) (sized (typed.Insert r.target columns.columns rows) rows refl h))))

  update_closed : (u : Update) → Gives (update_walk defined u) SizedClosed
  update_closed u =
      gives_next (relation_there defined u.target) (λ r there.
      gives_next (gives_any (assignments r.columns (over_rows (target_source r).entries) u.assignments no_sets)) (λ sets any.
      gives_next (filtered_closed defined u.condition (target_source r) there) (λ rows h.
      gives SizedClosed (typed.Update r.target sets.columns sets.values rows.rel) (sized (typed.Update r.target sets.columns sets.values rows.rel) rows.rel refl h))))

  delete_closed : (d : Delete) → Gives (delete_walk defined d) SizedClosed
  delete_closed d =
      gives_next (relation_there defined d.target) (λ r there.
      gives_next (filtered_closed defined d.condition (target_source r) there) (λ rows h.
      gives SizedClosed (typed.Delete r.target rows.rel) (sized (typed.Delete r.target rows.rel) rows.rel refl h)))

  exec_closed : (e : Exec) → Gives (exec_walk defined e) SizedClosed
  exec_closed e =
      gives_next (gives_any (procedure_of defined e.procedure)) (λ p any.
      gives_next (gives_any (walks_alone e.arguments [])) (λ ks any.
      gives_assigned SizedClosed (first_or e.close ks) p.1 (of_known ks) (typed.Exec p.0 (exprs_of ks)) (unsized (typed.Exec p.0 (exprs_of ks)) refl)))

  statement_closed : (s : Statement) → Gives (statement_walk defined s) SizedClosed
  statement_closed (statement.Query q) = gives_next (query_closed q) (λ r h. gives SizedClosed (typed.Query r) (sized (typed.Query r) r.rel refl h))
  statement_closed (statement.Explain q) = gives_next (query_closed q) (λ r h. gives SizedClosed (typed.Explain r) (sized (typed.Explain r) r.rel refl h))
  statement_closed (statement.Insert i) = insert_closed i
  statement_closed (statement.Update u) = update_closed u
  statement_closed (statement.Delete d) = delete_closed d
  statement_closed (statement.Exec e) = exec_closed e
  statement_closed statement.Start = gives SizedClosed typed.Start (unsized typed.Start refl)
  statement_closed statement.Commit = gives SizedClosed typed.Commit (unsized typed.Commit refl)
  statement_closed statement.Rollback = gives SizedClosed typed.Rollback (unsized typed.Rollback refl)

  abbrev Whole : Typed → Type 0
  Whole t = (r : Rel) → sized_rel t ≡ Some r → IsClosedOver defined r × (is_within_size (nodes_of defined.views r) (depth_of defined.views r) ≡ true)

  within_closed : (t : Typed) (own : Option Rel) → sized_rel t ≡ own → SizedClosed t → Gives (within_size defined.views own t) Whole
  within_closed t None is h = gives Whole t (λ r e. absurd (cc (is, e)))
  within_closed t (Some own) is h =
      let nodes = nodes_of defined.views own in
      let depth = depth_of defined.views own in
      gives_ok_where Whole (is_within_size nodes depth) t (TooLarge nodes depth) (λ within. λ r e.
      (h r e, subst (λ (r : Rel). is_within_size (nodes_of defined.views r) (depth_of defined.views r) ≡ true) (cc (is, e)) within))

  pub resolved_closed : (s : Statement) → Gives (resolved defined s) Whole
  resolved_closed s = gives_next (statement_closed s) (λ t h. within_closed t (sized_rel t) refl h)

pub queries_are_closed : QueriesAreClosed
queries_are_closed defined q r is = (query_closed defined q).each r is

pub statements_are_closed : StatementsAreClosed
statements_are_closed defined s t is = (resolved_closed defined s).each t is
