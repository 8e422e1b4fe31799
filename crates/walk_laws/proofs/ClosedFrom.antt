-- What FROM gives is closed over the catalog, where each of its parts is.
use Rattle.std.proofs.Common.{ℕ, true, List, [], ◌∷◌, ◌++◌, Option, Some, None, refl}
use Rattle.std.specs.List.{AllByRecursion}
use Rattle.vdb_base.specs.declared.value.Value.TheVariants as value
use Rattle.vdb_model.specs.declared.expr.Expr.TheVariants.{Const}
use Rattle.vdb_model.specs.declared.rel.JoinKind.{JoinKind}
use Rattle.vdb_model.specs.declared.rel.JoinKind.TheVariants.{Inner, Left}
use Rattle.vdb_model.specs.declared.rel.Rel.{Rel}
use Rattle.vdb_model.specs.declared.reply.Refusal.TheVariants.{Ambiguous}
use Rattle.vdb_model.specs.Defined.{Defined}
use Rattle.vdb_model.specs.NameText.{name_text}
use Rattle.view_stack.proofs.ClosedByKinds.{closed-Const}
use Rattle.sql_reader.specs.declared.tree.expr.Expr.{Expr}
use Rattle.sql_reader.specs.declared.tree.name.Name.{Name}
use Rattle.sql_reader.specs.declared.tree.name.RelationName.{RelationName}
use Rattle.sql_reader.specs.declared.tree.query.JoinKind as tree
use Rattle.sql_reader.specs.declared.tree.query.JoinKind.TheVariants as kind
use Rattle.expr_resolver.specs.declared.scope.Entry.{Entry}
use Rattle.expr_resolver.specs.declared.scope.Names.{Names}
use Rattle.expr_resolver.specs.declared.scope.Over.TheVariants.{Rows}
use Rattle.resolver.specs.declared.selected.Column.{Column}
use Rattle.resolver.specs.declared.selected.Source.{Source}
use Rattle.expr_resolver.specs.Exprs.{walk}
use Rattle.resolver.specs.From.{TablePart, alone, condition_over, visible, is_seen, enter, table_entry, entry_text, table_source, settled_columns, derived_source, joined, crossed, joined_on, joined_by, joined_source, source_or_one, beside, tables_from, from}
use Rattle.walk_laws.specs.Closed.{IsClosedOver}
use Rattle.expr_resolver.specs.Operators.{condition}
use Rattle.resolver.specs.Relations.{rel_of}
use Rattle.expr_resolver.specs.Walking.{Walk, one}
use Rattle.walk_laws.proofs.ClosedExprs.{expr_walks}
use Rattle.walk_laws.proofs.ClosedKnown.{Shut, condition_shut}
use Rattle.walk_laws.proofs.ClosedRels.{one_closed, join_closed, relation_there}
use Rattle.walk_laws.proofs.Gives.{Gives, gives, gives_next, gives_unless}
use Rattle.walk_laws.proofs.WalkClosed.{Walks, walks_one}

pub gives_alone : {A : Type 0} {P : A → Type 0} (part : Walk A) → Walks part P → Gives (alone part) P
gives_alone {P = P} part h = gives_next (h.each [] refl) (λ met i. gives P met.0 i.0)

pub condition_closed : (entries : List Entry) (e : Expr) → Gives (condition_over entries e) Shut
condition_closed entries e =
    let names : Names = record { entries = entries; keys = [] } in
    gives_alone (one (walk names e Rows) condition) (walks_one (expr_walks names e Rows) condition_shut)

module _ (defined : Defined) where
  abbrev pub SourceClosed : Source → Type 0
  SourceClosed source = IsClosedOver defined source.rel

  abbrev pub TableClosed : TablePart → Type 0
  TableClosed table = (seen : List (List ℕ)) → Gives (table seen) SourceClosed

  enter_closed : (seen : List (List ℕ)) (name : List ℕ) (entry : Entry) (rel : Rel) → IsClosedOver defined rel → Gives (enter seen name entry rel) SourceClosed
  enter_closed seen name entry rel h = gives_unless SourceClosed (is_seen entry.name seen) (Ambiguous name) _ (gives SourceClosed _ h)

  pub named_closed : (r : RelationName) (alias : Option Name) → TableClosed (table_source defined r alias)
  named_closed r alias seen =
      gives_next (relation_there defined r)
      (λ relation there. enter_closed seen (entry_text alias r) (table_entry alias relation) (rel_of relation.target) there)

  pub derived_closed : (rel : Rel) (columns : List Column) (alias : Name) → IsClosedOver defined rel → TableClosed (derived_source rel columns alias)
  derived_closed rel columns alias h seen = enter_closed seen (name_text alias.text) (record { name = alias.text; schema = None; columns = settled_columns columns }) rel h

  crossed_closed : (left right : Source) → SourceClosed left → SourceClosed right → SourceClosed (crossed left right)
  crossed_closed left right h k = join_closed defined Inner left.rel right.rel (Const (value.Bool true)) h k (closed-Const (value.Bool true))

  on_closed : (kind : JoinKind) (left right : Source) (on : Expr) → SourceClosed left → SourceClosed right → Gives (joined_on kind left right on) SourceClosed
  on_closed kind left right on h k =
      gives_next (condition_closed (left.entries ++ right.entries) on)
      (λ c shut. gives SourceClosed (joined kind left right c.expr) (join_closed defined kind left.rel right.rel c.expr h k shut))

  by_closed : (join : tree.JoinKind) (left right : Source) → SourceClosed left → SourceClosed right → Gives (joined_by join left right) SourceClosed
  by_closed (kind.Inner on) left right h k = on_closed Inner left right on h k
  by_closed (kind.Left on) left right h k = on_closed Left left right on h k
  by_closed kind.Cross left right h k = gives SourceClosed (crossed left right) (crossed_closed left right h k)

  pub joined_closed : (left right : TablePart) (join : tree.JoinKind) → TableClosed left → TableClosed right → TableClosed (joined_source left right join)
  joined_closed left right join h k seen =
      gives_next (h seen) (λ l i. gives_next (k (seen ++ visible l.entries)) (λ r j. by_closed join l r i j))

  abbrev BeforeClosed : Option Source → Type 0
  BeforeClosed None = Unit {0}
  BeforeClosed (Some source) = SourceClosed source

  or_one_closed : (before : Option Source) → BeforeClosed before → SourceClosed (source_or_one before)
  or_one_closed None h = one_closed defined
  or_one_closed (Some source) h = h

  beside_closed : (before : Option Source) (table : TablePart) → BeforeClosed before → TableClosed table → Gives (beside before table) SourceClosed
  beside_closed None table h k = k []
  beside_closed (Some source) table h k =
      gives_next (k (visible source.entries))
      (λ right i. gives SourceClosed (crossed source right) (crossed_closed source right h i))

  tables_closed : (before : Option Source) (tables : List TablePart) → BeforeClosed before → AllByRecursion TableClosed tables → Gives (tables_from before tables) SourceClosed
  tables_closed before [] h all = gives SourceClosed (source_or_one before) (or_one_closed before h)
  tables_closed before (table ∷ tables) h all =
      gives_next (beside_closed before table h all.0) (λ source i. tables_closed (Some source) tables i all.1)

  pub from_closed : (tables : List TablePart) → AllByRecursion TableClosed tables → Gives (from tables) SourceClosed
  from_closed tables all = tables_closed None tables tt all
