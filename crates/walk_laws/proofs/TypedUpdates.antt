-- What the walk of a statement gives is typed over the catalog.
use Rattle.std.proofs.Common.{◌≡◌, ◌∙◌, ℕ, ◌+◌, Bool, true, false, if◌then◌else◌, List, [], ◌∷◌, ◌++◌, length, slice_get, Option, Some, None, Ok, refl, ap, sym, subst, append_assoc, append-nil, length-append}
use Rattle.std.specs.List.{AllByRecursion}
use Rattle.std.specs.Cmp.Derive.{both_true}
use Rattle.vdb_base.specs.declared.value.Ty.{Ty}
use Rattle.vdb_model.specs.declared.catalog.ProcedureDef.{ProcedureDef}
use Rattle.vdb_model.specs.declared.expr.Expr as model
use Rattle.vdb_model.specs.declared.rel.Rel.{Rel}
use Rattle.vdb_model.specs.declared.rel.Rel.TheVariants as rel
use Rattle.vdb_model.specs.declared.reply.Refusal.TheVariants.{Mismatch, TooLarge}
use Rattle.vdb_model.specs.declared.typed.Typed.{Typed}
use Rattle.vdb_model.specs.declared.typed.Typed.TheVariants as typed
use Rattle.vdb_model.specs.declared.typed.VarDef.{VarDef}
use Rattle.vdb_model.specs.Defined.{Defined}
use Rattle.vdb_model.specs.Defs.{all_below}
use Rattle.vdb_model.specs.Sizes.{nodes_of, depth_of, is_within_size}
use Rattle.vdb_model.specs.WellFormed.{are_placed, variable_types}
use Rattle.vdb_model.proofs.Ranges.{and_left, and_right}
use Rattle.sql_reader.specs.declared.tree.expr.Expr.{Expr}
use Rattle.sql_reader.specs.declared.tree.name.RelationName.{RelationName}
use Rattle.sql_reader.specs.declared.tree.statement.Assignment.{Assignment}
use Rattle.sql_reader.specs.declared.tree.statement.Delete.{Delete}
use Rattle.sql_reader.specs.declared.tree.statement.Exec.{Exec}
use Rattle.sql_reader.specs.declared.tree.statement.Insert.{Insert}
use Rattle.sql_reader.specs.declared.tree.statement.InsertSource.{InsertSource}
use Rattle.sql_reader.specs.declared.tree.statement.InsertSource.TheVariants as source
use Rattle.sql_reader.specs.declared.tree.statement.Statement.{Statement}
use Rattle.sql_reader.specs.declared.tree.statement.Statement.TheVariants as statement
use Rattle.sql_reader.specs.declared.tree.statement.Update.{Update}
use Rattle.expr_resolver.specs.declared.known.Known.{Known}
use Rattle.resolver.specs.declared.relation.Relation.{Relation}
use Rattle.expr_resolver.specs.declared.scope.Names.{Names}
use Rattle.expr_resolver.specs.declared.scope.Over.TheVariants.{Rows}
use Rattle.resolver.specs.declared.targets.Sets.{Sets}
use Rattle.resolver.specs.Assigning.{of_known, of_columns, assigned_value}
use Rattle.expr_resolver.specs.Exprs.{walk}
use Rattle.expr_resolver.specs.Operators.{exprs_of}
use Rattle.resolver.specs.Relations.{is_meant, rel_of, types_of, procedures_named, procedure_of, written_relation}
use Rattle.resolver.specs.Selects.{filtered, union_of}
use Rattle.resolver.specs.Statements.{walk_alone, over_rows, walks_alone, first_or, values_rows, insert_rows, insert_walk, target_source, assignment, with_set, assignments, no_sets, update_walk, delete_walk, exec_walk, statement_walk, sized_rel, within_size, resolved}
use Rattle.expr_resolver.specs.Types.{is_assignable}
use Rattle.walk_laws.specs.TypedStatements.{all_take, takes_value, all_take_values, types_at, parameter_types, IsTypedStatement, StatementsAreTyped}
use Rattle.walk_laws.proofs.Gives.{Gives, gives, gives_become, gives_next, gives_where, gives_only, all_append}
use Rattle.walk_laws.proofs.Scope.{IsAt, Behind, behind_none, entry_types, get_middle, place_below}
use Rattle.walk_laws.proofs.TypedExprs.{expr_walks}
use Rattle.walk_laws.proofs.TypedFrom.{SourceTyped, gives_alone}
use Rattle.walk_laws.proofs.TypedKnown.{IsTyped}
use Rattle.walk_laws.proofs.TypedNamed.{IsNamed, named_has, relation_named}
use Rattle.walk_laws.proofs.TypedQueries.{query_typed}
use Rattle.walk_laws.proofs.TypedRels.{HasTypes, one_has, select_has}
use Rattle.walk_laws.proofs.TypedSelects.{below_more, filtered_keeps}
use Rattle.walk_laws.proofs.TypedSets.{set_typed}
use Rattle.walk_laws.proofs.TypedTargets.{types_more, target_found, listed_found, value_taken, gives_assigned, columns_agree, known_have, known_taken}

alone_typed : (names : Names) (e : Expr) → Gives (walk_alone names e) (IsTyped (entry_types names.entries))
alone_typed names e = gives_alone (entry_types names.entries) names.keys IsTyped (walk names e Rows) (expr_walks names e Rows)

each_alone_typed : (es : List Expr) (made : List Known) → AllByRecursion (IsTyped []) made → Gives (walks_alone es made) (AllByRecursion (IsTyped []))
each_alone_typed [] made all = gives (AllByRecursion (IsTyped [])) made all
each_alone_typed (e ∷ es) made all =
    gives_next (alone_typed (over_rows []) e)
    (λ k h. each_alone_typed es (made ++ k ∷ []) (all_append (IsTyped []) made (k ∷ []) all (h, tt)))

-- a procedure is there, with the types of its parameters
module _ (all : List (List Ty)) where
  abbrev IsThere : ℕ × List Ty → Type 0
  IsThere p = slice_get all p.0 ≡ Some p.1

  there_if : (b : Bool) (x : ℕ × List Ty) (xs : List (ℕ × List Ty)) → IsThere x → AllByRecursion IsThere xs → AllByRecursion IsThere (if b then x ∷ xs else xs)
  there_if true x xs h all = (h, all)
  there_if false x xs h all = all

  types_same : (ps : List VarDef) → variable_types ps ≡ types_of ps
  types_same [] = refl
  types_same (p ∷ ps) = ap (λ ts. p.ty ∷ ts) (types_same ps)

  procedures_there : (n : ℕ) (before : List (List Ty)) (r : RelationName) (ds : List ProcedureDef) → all ≡ before ++ parameter_types ds → length before ≡ n → AllByRecursion IsThere (procedures_named n r ds)
  procedures_there n before r [] split count = tt
  procedures_there n before r (d ∷ ds) split count =
      let own = variable_types d.parameters in
      let here : slice_get all n ≡ Some own =
      subst (λ n. slice_get all n ≡ Some own) count (subst (λ l. slice_get l (length before) ≡ Some own) (sym split) (get_middle before own (parameter_types ds))) in
      there_if (is_meant r d.schema d.name) (n, types_of d.parameters) (procedures_named (n + 1) r ds) (here ∙ ap Some (types_same d.parameters))
      (procedures_there (n + 1) (before ++ own ∷ []) r ds (split ∙ sym (append_assoc before (own ∷ []) (parameter_types ds))) (length-append before (own ∷ []) ∙ ap (λ n. n + 1) count))

-- what is assigned so far: columns of the target, and values that they take over its rows
module _ (cols : List Ty) where
  record AreSets (made : Sets) : Type 0 where
    places : all_below (length cols) made.columns ≡ true
    taken : all_take_values cols (types_at cols made.columns) made.values ≡ true

  -- a column of the target, and a value that it takes
  record IsSet (s : ℕ × model.Expr) : Type 0 where
    ty : Ty
    at : IsAt cols (s.0, ty)
    taken : takes_value cols ty s.1 ≡ true

  taken_more : (ts : List Ty) (es : List model.Expr) (t : Ty) (e : model.Expr) → all_take_values cols ts es ≡ true → takes_value cols t e ≡ true → all_take_values cols (ts ++ t ∷ []) (es ++ e ∷ []) ≡ true
  taken_more [] [] t e all h = both_true h refl
  taken_more [] (f ∷ es) t e all h = absurd (cc all)
  taken_more (u ∷ ts) [] t e all h = absurd (cc all)
  taken_more (u ∷ ts) (f ∷ es) t e all h =
      let first = takes_value cols u f in
      both_true (and_left first (all_take_values cols ts es) all) (taken_more ts es t e (and_right first (all_take_values cols ts es) all) h)

  set_more : (made : Sets) (s : ℕ × model.Expr) → AreSets made → IsSet s → AreSets (with_set made s)
  set_more made s h k = record {
    places = below_more (length cols) made.columns s.0 h.places (place_below cols (s.0, k.ty) k.at);
    taken = subst (λ ts. all_take_values cols ts (made.values ++ s.1 ∷ []) ≡ true) (sym (types_more cols made.columns s.0 k.ty k.at)) (taken_more (types_at cols made.columns) made.values k.ty s.1 h.taken k.taken);
  }

  module _ (columns : List VarDef) (names : Names) (own : Behind cols 0 (variable_types columns)) (same : entry_types names.entries ≡ cols) where
    value_assigned : (t : Ty) (k : Known) → IsTyped cols k → Gives (assigned_value t k) (λ j. takes_value cols t j.expr ≡ true)
    value_assigned t k h = gives_where _ (is_assignable t k.ty) (Ok k) (Mismatch k.first) (λ fits. gives _ k (value_taken cols t k.ty k.expr fits h))

    one_set : (seen : List ℕ) (a : Assignment) → Gives (assignment columns names seen a) IsSet
    one_set seen a =
        gives_next (target_found cols columns seen a.column own) (λ column at.
        gives_next (gives_next (subst (λ ts. Gives (walk_alone names a.value) (IsTyped ts)) same (alone_typed names a.value)) (λ k h. value_assigned column.1 k h)) (λ k taken.
        gives IsSet (column.0, k.expr) (record { ty = column.1; at = at; taken = taken })))

    each_set : (more : List Assignment) (made : Sets) → AreSets made → Gives (assignments columns names more made) AreSets
    each_set [] made h = gives AreSets made h
    each_set (a ∷ more) made h = gives_next (one_set made.columns a) (λ s k. each_set more (with_set made s) (set_more made s h k))

module _ (defined : Defined) (placed : are_placed 0 defined.tables ≡ true) where
  -- the rows of an INSERT are of types that the columns take
  record AreGiven (ts : List Ty) (r : Rel) : Type 0 where
    given : List Ty
    has : HasTypes defined r given
    taken : all_take ts given ≡ true

  values_given : (ts : List Ty) (ks : List Known) → AllByRecursion (IsTyped []) ks → Gives (values_rows ts ks) (AreGiven ts)
  values_given ts ks all =
      gives_assigned (AreGiven ts) (first_or 0 ks) ts (of_known ks) (rel.Select rel.One (exprs_of ks))
      (λ t. let h = known_have [] ks t.own all t.agree in
      record { given = t.own; has = select_has defined rel.One (exprs_of ks) [] t.own (one_has defined) h.0 h.1; taken = t.take })

  rows_given : (ts : List Ty) (from : InsertSource) → Gives (insert_rows defined ts from) (AreGiven ts)
  rows_given ts (source.Values es) = gives_next (each_alone_typed es [] tt) (values_given ts)
  rows_given ts (source.Query q) =
      gives_next (set_typed defined placed q)
      (λ s parts. gives_assigned (AreGiven ts) s.first ts (of_columns s.columns) (union_of s.parts)
      (λ t. record { given = t.own; has = parts.has t.own (columns_agree s.columns t.own t.agree); taken = t.take }))

  insert_typed : (i : Insert) → Gives (insert_walk defined i) (IsTypedStatement defined)
  insert_typed i =
      gives_next (relation_named defined i.target placed) (λ r there.
      let own = variable_types r.columns in
      gives_next (listed_found own r.columns i.columns (behind_none own)) (λ columns targets.
      gives_next (rows_given columns.tys i.source) (λ rows g.
      gives (IsTypedStatement defined) (typed.Insert r.target columns.columns rows) (record {
        own = own;
        there = there;
        places = targets.places;
        given = g.given;
        rows = g.has;
        taken = subst (λ ts. all_take ts g.given ≡ true) (sym targets.types) g.taken;
      }))))

  target_entries : (r : Relation) → entry_types (target_source r).entries ≡ variable_types r.columns
  target_entries r = ap variable_types (append-nil r.columns)

  -- the rows of the target
  target_typed : (r : Relation) → IsNamed defined r → SourceTyped defined (target_source r)
  target_typed r there = subst (HasTypes defined (rel_of r.target)) (sym (target_entries r)) (named_has defined r there)

  changed_rows : (r : Relation) (condition : Option Expr) → IsNamed defined r → Gives (filtered condition (target_source r)) (λ rows. HasTypes defined rows.rel (variable_types r.columns))
  changed_rows r condition there =
      gives_become (filtered_keeps defined condition (target_source r) (target_typed r there)) (λ rows h. subst (HasTypes defined rows.rel) (target_entries r) h.1)

  update_typed : (u : Update) → Gives (update_walk defined u) (IsTypedStatement defined)
  update_typed u =
      gives_next (relation_named defined u.target placed) (λ r there.
      let own = variable_types r.columns in
      gives_next (each_set own r.columns (over_rows (target_source r).entries) (behind_none own) (target_entries r) u.assignments no_sets (record { places = refl; taken = refl })) (λ sets h.
      gives_next (changed_rows r u.condition there) (λ rows has.
      gives (IsTypedStatement defined) (typed.Update r.target sets.columns sets.values rows.rel) (record {
        own = own;
        there = there;
        places = h.places;
        taken = h.taken;
        rows = has;
      }))))

  delete_typed : (d : Delete) → Gives (delete_walk defined d) (IsTypedStatement defined)
  delete_typed d =
      gives_next (relation_named defined d.target placed) (λ r there.
      gives_next (changed_rows r d.condition there) (λ rows has.
      gives (IsTypedStatement defined) (typed.Delete r.target rows.rel) (record { own = variable_types r.columns; there = there; rows = has })))

  procedure_there : (r : RelationName) → Gives (procedure_of defined r) (IsThere (parameter_types defined.procedures))
  procedure_there r =
      gives_only (IsThere (parameter_types defined.procedures)) (written_relation r) (procedures_named 0 r defined.procedures)
      (procedures_there (parameter_types defined.procedures) 0 [] r defined.procedures refl refl)

  exec_typed : (e : Exec) → Gives (exec_walk defined e) (IsTypedStatement defined)
  exec_typed e =
      gives_next (procedure_there e.procedure) (λ p there.
      gives_next (each_alone_typed e.arguments [] tt) (λ ks all.
      gives_assigned (IsTypedStatement defined) (first_or e.close ks) p.1 (of_known ks) (typed.Exec p.0 (exprs_of ks))
      (λ t. record { own = p.1; there = there; taken = known_taken [] p.1 t.own ks all t.agree t.take })))

  statement_typed : (s : Statement) → Gives (statement_walk defined s) (IsTypedStatement defined)
  statement_typed (statement.Query q) = gives_next (query_typed defined placed q) (λ r h. gives (IsTypedStatement defined) (typed.Query r) h)
  statement_typed (statement.Explain q) = gives_next (query_typed defined placed q) (λ r h. gives (IsTypedStatement defined) (typed.Explain r) h)
  statement_typed (statement.Insert i) = insert_typed i
  statement_typed (statement.Update u) = update_typed u
  statement_typed (statement.Delete d) = delete_typed d
  statement_typed (statement.Exec e) = exec_typed e
  statement_typed statement.Start = gives (IsTypedStatement defined) typed.Start tt
  statement_typed statement.Commit = gives (IsTypedStatement defined) typed.Commit tt
  statement_typed statement.Rollback = gives (IsTypedStatement defined) typed.Rollback tt

  within_typed : (t : Typed) (own : Option Rel) → IsTypedStatement defined t → Gives (within_size defined.views own t) (IsTypedStatement defined)
  within_typed t None h = gives (IsTypedStatement defined) t h
  within_typed t (Some r) h =
      let nodes = nodes_of defined.views r in
      let depth = depth_of defined.views r in
      gives_where (IsTypedStatement defined) (is_within_size nodes depth) (Ok t) (TooLarge nodes depth) (λ within. gives (IsTypedStatement defined) t h)

  resolved_typed : (s : Statement) → Gives (resolved defined s) (IsTypedStatement defined)
  resolved_typed s = gives_next (statement_typed s) (λ t h. within_typed t (sized_rel t) h)

pub statements_are_typed : StatementsAreTyped
statements_are_typed defined placed s t is = (resolved_typed defined placed s).each t is
