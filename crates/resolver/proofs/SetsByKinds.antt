-- The equations of `set_walk`, one for each kind of query and of part of a FROM.
use Rattle.std.proofs.Common.{◌≡◌, ◌∙◌, ℕ, Bool, List, [], ◌∷◌, map, ap, sym, refl, Option, Some, None, Result}
use Rattle.vdb_model.specs.declared.reply.Refusal.{Refusal}
use Rattle.vdb_model.specs.Defined.{Defined}
use Rattle.sql_reader.specs.declared.tree.name.Name.{Name}
use Rattle.sql_reader.specs.declared.tree.name.RelationName.{RelationName}
use Rattle.sql_reader.specs.declared.tree.query.JoinKind.{JoinKind}
use Rattle.sql_reader.specs.declared.tree.query.Select.{Select, out-Select}
use Rattle.sql_reader.specs.declared.tree.query.SetQuery.{SetQuery}
use Rattle.sql_reader.specs.declared.tree.query.SetQuery.TheVariants as set
use Rattle.sql_reader.specs.declared.tree.query.SetQuery.TheOpen.{SetQuery-F, TableRef-F, Select-F}
use Rattle.sql_reader.specs.declared.tree.query.SetQuery.TheFolds.{fold-SetQuery, fold-TableRef, fold-Select, fold-roll-SetQuery, fold-roll-TableRef, fold_out-Select}
use Rattle.sql_reader.specs.declared.tree.query.TableRef.{TableRef}
use Rattle.sql_reader.specs.declared.tree.query.TableRef.TheVariants as table
use Rattle.resolver.specs.declared.selected.Selected.{Selected}
use Rattle.resolver.specs.From.{TablePart, table_source, joined_source}
use Rattle.resolver.specs.Selects.{set_step, table_step, select, select_of, set_walk, table_walk, tables_walk, select_walk, derived, united}
use Rattle.expr_resolver.specs.Walking.{next}

module _ (defined : Defined) where
  abbrev table_part : TableRef → TablePart
  table_part = fold-TableRef (Result Selected Refusal) TablePart (Result Selected Refusal) set_step (table_step defined) select

  abbrev select_part : Select → Result Selected Refusal
  select_part = fold-Select (Result Selected Refusal) TablePart (Result Selected Refusal) set_step (table_step defined) select

  tables_same : (ts : List TableRef) → map (table_walk defined) ts ≡ tables_walk defined ts
  tables_same [] = refl
  tables_same (t ∷ ts) = ap (λ z. table_walk defined t ∷ z) (tables_same ts)

  select_same : (s : Select) → select_part s ≡ select_walk defined s
  unfolding table_walk
  select_same s = fold_out-Select (Result Selected Refusal) TablePart (Result Selected Refusal) set_step (table_step defined) select s ∙ ap (λ z. select_of z (out-Select s).condition (out-Select s).group (out-Select s).having (out-Select s).items (out-Select s).distinct) (tables_same (out-Select s).from)

  pub set-Select : (s : Select) → set_walk defined (set.Select s) ≡ select_walk defined s
  unfolding set_walk
  set-Select s = ap (set_walk defined) (sym (set.rolls-Select s)) ∙ fold-roll-SetQuery (Result Selected Refusal) TablePart (Result Selected Refusal) set_step (table_step defined) select (SetQuery-F.Select s) ∙ select_same s

  pub set-Union : (left : SetQuery) (all : Bool) (right : Select) → set_walk defined (set.Union left all right) ≡ next (set_walk defined left) (λ l. next (select_walk defined right) (united all l))
  unfolding set_walk
  set-Union left all right = ap (set_walk defined) (sym (set.rolls-Union left all right)) ∙ fold-roll-SetQuery (Result Selected Refusal) TablePart (Result Selected Refusal) set_step (table_step defined) select (SetQuery-F.Union left all right) ∙ ap (λ z. next (set_walk defined left) (λ l. next z (united all l))) (select_same right)

  pub table-Named : (name : RelationName) (alias : Option Name) (seen : List (List ℕ)) → table_walk defined (table.Named name alias) seen ≡ table_source defined name alias seen
  unfolding table_walk
  table-Named name alias seen = ap (λ p. p seen) (ap (table_walk defined) (sym (table.rolls-Named name alias)) ∙ fold-roll-TableRef (Result Selected Refusal) TablePart (Result Selected Refusal) set_step (table_step defined) select (TableRef-F.Named name alias))

  pub table-Derived : (query : SetQuery) (alias : Name) (seen : List (List ℕ)) → table_walk defined (table.Derived query alias) seen ≡ derived (set_walk defined query) alias seen
  unfolding table_walk set_walk
  table-Derived query alias seen = ap (λ p. p seen) (ap (table_walk defined) (sym (table.rolls-Derived query alias)) ∙ fold-roll-TableRef (Result Selected Refusal) TablePart (Result Selected Refusal) set_step (table_step defined) select (TableRef-F.Derived query alias))

  pub table-Joined : (left right : TableRef) (kind : JoinKind) (seen : List (List ℕ)) → table_walk defined (table.Joined left right kind) seen ≡ joined_source (table_walk defined left) (table_walk defined right) kind seen
  unfolding table_walk
  table-Joined left right kind seen = ap (λ p. p seen) (ap (table_walk defined) (sym (table.rolls-Joined left right kind)) ∙ fold-roll-TableRef (Result Selected Refusal) TablePart (Result Selected Refusal) set_step (table_step defined) select (TableRef-F.Joined left right kind))

pub ruleset sets_of_kinds = (set-Select, set-Union, table-Named, table-Derived, table-Joined)
