-- What FROM gives has the types of its entries' columns, where each of its parts has.
use Rattle.std.proofs.Common.{◌≡◌, ℕ, true, List, [], ◌∷◌, ◌++◌, Option, Some, None, refl, sym, subst, append-nil}
use Rattle.std.specs.List.{AllByRecursion}
use Rattle.vdb_base.specs.declared.value.Ty.{Ty}
use Rattle.vdb_base.specs.declared.value.Ty.TheVariants.{Boolean}
use Rattle.vdb_base.specs.declared.value.Value.TheVariants as value
use Rattle.vdb_model.specs.declared.expr.Expr as model
use Rattle.vdb_model.specs.declared.expr.Expr.TheVariants.{Const}
use Rattle.vdb_model.specs.declared.rel.JoinKind.{JoinKind}
use Rattle.vdb_model.specs.declared.rel.JoinKind.TheVariants.{Inner, Left}
use Rattle.vdb_model.specs.declared.rel.Rel.{Rel}
use Rattle.vdb_model.specs.declared.rel.Rel.TheVariants as rel
use Rattle.vdb_model.specs.declared.reply.Refusal.TheVariants.{Ambiguous}
use Rattle.vdb_model.specs.Defined.{Defined}
use Rattle.vdb_model.specs.NameText.{name_text}
use Rattle.vdb_model.specs.Typed.{has_type}
use Rattle.vdb_model.specs.WellFormed.{are_placed, variable_types}
use Rattle.sql_reader.specs.declared.tree.expr.Expr.{Expr}
use Rattle.sql_reader.specs.declared.tree.name.Name.{Name}
use Rattle.sql_reader.specs.declared.tree.name.RelationName.{RelationName}
use Rattle.sql_reader.specs.declared.tree.query.JoinKind as tree
use Rattle.sql_reader.specs.declared.tree.query.JoinKind.TheVariants as kind
use Rattle.resolver.specs.declared.relation.Relation.{Relation}
use Rattle.expr_resolver.specs.declared.scope.Entry.{Entry}
use Rattle.expr_resolver.specs.declared.scope.Names.{Names}
use Rattle.expr_resolver.specs.declared.scope.Over.TheVariants.{Rows}
use Rattle.resolver.specs.declared.selected.Column.{Column}
use Rattle.resolver.specs.declared.selected.Source.{Source}
use Rattle.expr_resolver.specs.Exprs.{walk}
use Rattle.resolver.specs.From.{TablePart, alone, condition_over, visible, is_seen, enter, table_entry, entry_text, table_source, settled_columns, derived_source, joined, crossed, joined_on, joined_by, joined_source, source_or_one, beside, tables_from, from}
use Rattle.expr_resolver.specs.Operators.{condition}
use Rattle.resolver.specs.Relations.{rel_of}
use Rattle.expr_resolver.specs.Walking.{Walk, one}
use Rattle.walk_laws.proofs.Gives.{Gives, gives, gives_next, gives_unless}
use Rattle.walk_laws.proofs.KnownTypes.{Agrees, agrees_settled}
use Rattle.walk_laws.proofs.Scope.{entry_types, entries_append, Seen}
use Rattle.walk_laws.proofs.TypedExprs.{expr_walks, condition_walks}
use Rattle.walk_laws.proofs.TypedKnown.{IsOf}
use Rattle.walk_laws.proofs.TypedNamed.{named_has, relation_named}
use Rattle.walk_laws.proofs.TypedRels.{HasTypes, one_has, join_has}
use Rattle.walk_laws.proofs.TypesByKinds.{types-Const}
use Rattle.walk_laws.proofs.WalkTyped.{Walks}

pub gives_alone : {A : Type 0} (rows : List Ty) (keys : List ℕ) (P : List Ty → A → Type 0) (part : Walk A) → Walks rows part (Seen rows keys Rows P) → Gives (alone part) (P rows)
gives_alone rows keys P part h = gives_next ((h.from []).each [] refl) (λ met i. gives (P rows) met.0 (i.holds rows refl))

pub condition_typed : (entries : List Entry) (e : Expr) → Gives (condition_over entries e) (IsOf (entry_types entries) Boolean)
condition_typed entries e =
    let names : Names = record { entries = entries; keys = [] } in
    gives_alone (entry_types entries) [] (λ cols. IsOf cols Boolean) (one (walk names e Rows) condition) (condition_walks names Rows (walk names e) (expr_walks names e))

-- these are the types of the columns, where one is known
abbrev pub AllAgree : List Column → List Ty → Type 0
AllAgree [] [] = Unit {0}
AllAgree [] (t ∷ ts) = ⊥
AllAgree (c ∷ cs) [] = ⊥
AllAgree (c ∷ cs) (t ∷ ts) = Agrees c.ty t × AllAgree cs ts

settled_agree : (cs : List Column) → AllAgree cs (variable_types (settled_columns cs))
settled_agree [] = tt
settled_agree (c ∷ cs) = (agrees_settled c.ty, settled_agree cs)

entry_columns : (alias : Option Name) (r : Relation) → (table_entry alias r).columns ≡ r.columns
entry_columns None r = refl
entry_columns (Some alias) r = refl

module _ (defined : Defined) where
  -- the relation has the types of the entries' columns
  abbrev pub SourceTyped : Source → Type 0
  SourceTyped source = HasTypes defined source.rel (entry_types source.entries)

  abbrev pub TableTyped : TablePart → Type 0
  TableTyped table = (seen : List (List ℕ)) → Gives (table seen) SourceTyped

  -- each list of types that agrees with the columns is had
  abbrev pub HasColumns : Rel → List Column → Type 0
  HasColumns r cs = (ts : List Ty) → AllAgree cs ts → HasTypes defined r ts

  enter_typed : (seen : List (List ℕ)) (name : List ℕ) (entry : Entry) (r : Rel) → HasTypes defined r (variable_types entry.columns) → Gives (enter seen name entry r) SourceTyped
  enter_typed seen name entry r h =
      gives_unless SourceTyped (is_seen entry.name seen) (Ambiguous name) _
      (gives SourceTyped _ (subst (λ cs. HasTypes defined r (variable_types cs)) (sym (append-nil entry.columns)) h))

  pub named_typed : are_placed 0 defined.tables ≡ true → (r : RelationName) (alias : Option Name) → TableTyped (table_source defined r alias)
  named_typed placed r alias seen =
      gives_next (relation_named defined r placed)
      (λ relation there. enter_typed seen (entry_text alias r) (table_entry alias relation) (rel_of relation.target)
      (subst (λ cs. HasTypes defined (rel_of relation.target) (variable_types cs)) (sym (entry_columns alias relation)) (named_has defined relation there)))

  pub derived_typed : (r : Rel) (columns : List Column) (alias : Name) → HasColumns r columns → TableTyped (derived_source r columns alias)
  derived_typed r columns alias h seen =
      enter_typed seen (name_text alias.text) (record { name = alias.text; schema = None; columns = settled_columns columns }) r (h (variable_types (settled_columns columns)) (settled_agree columns))

  joined_typed : (k : JoinKind) (left right : Source) (on : model.Expr) → SourceTyped left → SourceTyped right → has_type (entry_types (left.entries ++ right.entries)) [] on Boolean ≡ true → SourceTyped (joined k left right on)
  joined_typed k left right on h i j =
      let both = entries_append left.entries right.entries in
      subst (HasTypes defined (rel.Join k left.rel right.rel on)) (sym both)
      (join_has defined k left.rel right.rel on (entry_types left.entries) (entry_types right.entries) h i (subst (λ ts. has_type ts [] on Boolean ≡ true) both j))

  crossed_typed : (left right : Source) → SourceTyped left → SourceTyped right → SourceTyped (crossed left right)
  crossed_typed left right h k = joined_typed Inner left right (Const (value.Bool true)) h k (types-Const (entry_types (left.entries ++ right.entries)) [] (value.Bool true) Boolean)

  on_typed : (k : JoinKind) (left right : Source) (on : Expr) → SourceTyped left → SourceTyped right → Gives (joined_on k left right on) SourceTyped
  on_typed k left right on h i =
      gives_next (condition_typed (left.entries ++ right.entries) on)
      (λ c is. gives SourceTyped (joined k left right c.expr) (joined_typed k left right c.expr h i is))

  by_typed : (join : tree.JoinKind) (left right : Source) → SourceTyped left → SourceTyped right → Gives (joined_by join left right) SourceTyped
  by_typed (kind.Inner on) left right h k = on_typed Inner left right on h k
  by_typed (kind.Left on) left right h k = on_typed Left left right on h k
  by_typed kind.Cross left right h k = gives SourceTyped (crossed left right) (crossed_typed left right h k)

  pub joined_source_typed : (left right : TablePart) (join : tree.JoinKind) → TableTyped left → TableTyped right → TableTyped (joined_source left right join)
  joined_source_typed left right join h k seen =
      gives_next (h seen) (λ l i. gives_next (k (seen ++ visible l.entries)) (λ r j. by_typed join l r i j))

  abbrev BeforeTyped : Option Source → Type 0
  BeforeTyped None = Unit {0}
  BeforeTyped (Some source) = SourceTyped source

  or_one_typed : (before : Option Source) → BeforeTyped before → SourceTyped (source_or_one before)
  or_one_typed None h = one_has defined
  or_one_typed (Some source) h = h

  beside_typed : (before : Option Source) (table : TablePart) → BeforeTyped before → TableTyped table → Gives (beside before table) SourceTyped
  beside_typed None table h k = k []
  beside_typed (Some source) table h k =
      gives_next (k (visible source.entries))
      (λ right i. gives SourceTyped (crossed source right) (crossed_typed source right h i))

  tables_typed : (before : Option Source) (tables : List TablePart) → BeforeTyped before → AllByRecursion TableTyped tables → Gives (tables_from before tables) SourceTyped
  tables_typed before [] h all = gives SourceTyped (source_or_one before) (or_one_typed before h)
  tables_typed before (table ∷ tables) h all =
      gives_next (beside_typed before table h all.0) (λ source i. tables_typed (Some source) tables i all.1)

  pub from_typed : (tables : List TablePart) → AllByRecursion TableTyped tables → Gives (from tables) SourceTyped
  from_typed tables all = tables_typed None tables tt all
