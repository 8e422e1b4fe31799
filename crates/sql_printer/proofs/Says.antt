-- Each action of a query gives parts that say what those that it takes said, and that wait as it leaves them.
use Rattle.std.proofs.Common.{◌≡◌, ◌∙◌, ℕ, zero, suc, Bool, true, false, List, [], ◌∷◌, ◌++◌, ◌+◌, ◌-◌, Option, Some, None, refl, ap, sym, subst, take, drop, append_assoc, append-nil, if◌then◌else◌}
use Rattle.std.specs.Prelude.{slice_index_or, nat_le}
use Rattle.grammar.specs.Derivation.{Among, here, there, has}
use Rattle.sql_tokens.specs.declared.token.Token.{Token}
use Rattle.sql_reader.specs.declared.build.Action.{Action}
use Rattle.sql_reader.specs.declared.build.Action.TheVariants as act
use Rattle.sql_reader.specs.declared.build.TokenAction.{TokenAction}
use Rattle.sql_reader.specs.declared.build.TokenAction.TheVariants as token
use Rattle.sql_reader.specs.declared.build.ExprAction.{ExprAction}
use Rattle.sql_reader.specs.declared.build.ExprAction.TheVariants as action
use Rattle.sql_reader.specs.declared.build.QueryAction.{QueryAction}
use Rattle.sql_reader.specs.declared.build.QueryAction.TheVariants as query
use Rattle.sql_reader.specs.declared.build.StatementAction.{StatementAction}
use Rattle.sql_reader.specs.declared.build.StatementAction.TheVariants as statement
use Rattle.sql_reader.specs.declared.tree.expr.Aggregate.{Aggregate}
use Rattle.sql_reader.specs.declared.tree.expr.Comparison.{Comparison}
use Rattle.sql_reader.specs.declared.tree.expr.Expr.{Expr}
use Rattle.sql_reader.specs.declared.tree.expr.Expr.TheVariants as expr
use Rattle.sql_reader.specs.declared.tree.name.ColumnName.{ColumnName}
use Rattle.sql_reader.specs.declared.tree.query.SelectItem.{SelectItem}
use Rattle.sql_reader.specs.declared.tree.query.Key.{Key}
use Rattle.sql_reader.specs.declared.tree.query.SetQuery.{SetQuery}
use Rattle.sql_reader.specs.declared.tree.query.TableRef.{TableRef}
use Rattle.sql_reader.specs.declared.tree.expr.Operator.{Operator}
use Rattle.sql_reader.specs.declared.tree.name.ColumnName.TheVariants as column
use Rattle.sql_reader.specs.declared.tree.query.JoinKind.TheVariants.{Inner, Left, Cross}
use Rattle.sql_reader.specs.declared.tree.query.KeyTarget.TheVariants as target
use Rattle.sql_reader.specs.declared.tree.query.SelectItem.TheVariants as item
use Rattle.sql_reader.specs.declared.tree.query.SetQuery.TheVariants as set
use Rattle.sql_reader.specs.declared.tree.query.TableRef.TheVariants.{Named, Derived, Joined}
use Rattle.sql_reader.specs.Build.{act_on}
use Rattle.sql_reader.specs.BuildTokens.{token_on, relation as relation_named, relation_of}
use Rattle.sql_reader.specs.BuildExprs.{expr_on}
use Rattle.sql_reader.specs.BuildQueries.{query_on}
use Rattle.sql_reader.specs.BuildStatements.{statement_on}
use Rattle.sql_reader.specs.Source.{Source, last_token, place_at, name_at, literal_at, negative_at, name_of_token, literal_of_token}
use Rattle.sql_reader.specs.Symbols as symbol
use Rattle.sql_reader.specs.Waiting.{Waiting}
use Rattle.sql_printer.specs.Exprs.{expr as expr_said, link, arm, operator_kind, comparison_kind, aggregate_kind}
use Rattle.sql_printer.specs.Lists.{all, more, listed}
use Rattle.sql_printer.specs.Names.{column as column_said, name, literal, optional}
use Rattle.sql_printer.specs.Queries.{item_said, key, table, select, from, group_by, condition_said, printed, order_by, set as set_said}
use Rattle.sql_printer.specs.Said.{Said, Named as NamedSaid, word, one}
use Rattle.sql_printer.proofs.ExprsByKinds.{link_is, arm_is, expr-Literal, expr-Column, expr-Parens, expr-Negate, expr-Chain, expr-Not, expr-Compare, expr-IsNull, expr-In, expr-Like, expr-Between, expr-CountAll, expr-Aggregate, expr-Coalesce, expr-Case-none, expr-Case-some}
use Rattle.sql_printer.proofs.QueriesByKinds.{select_is, set-Select, set-Union, table-Named, table-Derived, table-Joined}
use Rattle.sql_printer.proofs.Held.{Kind, Word, Special, Place, AName, ALiteral, AColumn, ARelation, AnExpr, NoList, AList, Links, Arms, Begun, Distinct, Items, SomeTables, Tables, Condition, SomeGroup, Group, ASelect, ASet, ATable, Unordered, SomeKeys, Keys, Limited, AQuery, AStatement, Part, select_of, query_of, said, Held, waiting, text}
use Rattle.grammar.proofs.Stages.{Signature, moves, takes, gives}
use Rattle.sql_printer.proofs.StageSignatures.{token_stages, expr_stages, query_stages, statement_stages, action_stages}
use Rattle.sql_printer.proofs.TokensSaid.{before, reads_of, IsReady, last_name, last_literal, last_negative}

-- What a builder has after so many tokens, by the kinds of what stands there.
pub record Has (s : Source) (pos : ℕ) (w : Waiting) (ks : List Kind) : Type 0 where
  pub held : Held ks
  pub waits : w ≡ waiting ks held
  pub says : text ks held ≡ before s pos

more_snoc : {A : Type 0} (part : A → List Said) (xs : List A) (y : A) → more part (xs ++ y ∷ []) ≡ more part xs ++ (word symbol.COMMA ++ part y)
more_snoc part [] y = append-nil (word symbol.COMMA ++ part y)
more_snoc part (x ∷ xs) y =
    ap (λ z. (word symbol.COMMA ++ part x) ++ z) (more_snoc part xs y) ∙ sym (append_assoc (word symbol.COMMA ++ part x) (more part xs) (word symbol.COMMA ++ part y))

all_snoc : {A : Type 0} (part : A → List Said) (xs : List A) (y : A) → all part (xs ++ y ∷ []) ≡ all part xs ++ part y
all_snoc part [] y = append-nil (part y)
all_snoc part (x ∷ xs) y = ap (λ z. part x ++ z) (all_snoc part xs y) ∙ sym (append_assoc (part x) (all part xs) (part y))

-- selects, stage by stage

abbrev head : Bool → List Said
head d = word symbol.SELECT ++ optional d symbol.DISTINCT

sel-items : (d : Bool) (at : ℕ) (is : List SelectItem) → select (select_of d at is [] None [] None) ≡ head d ++ listed [] item_said is
sel-items d at is =
    let x = head d ++ listed [] item_said is in
    select_is (select_of d at is [] None [] None) ∙ append-nil (((x ++ []) ++ []) ++ []) ∙ append-nil ((x ++ []) ++ []) ∙ append-nil (x ++ []) ∙ append-nil x

sel-none : (d : Bool) (at : ℕ) → select (select_of d at [] [] None [] None) ≡ head d
sel-none d at = sel-items d at [] ∙ append-nil (head d)

sel-tables : (d : Bool) (at : ℕ) (is : List SelectItem) (ts : List TableRef) → select (select_of d at is ts None [] None) ≡ (head d ++ listed [] item_said is) ++ listed from table ts
sel-tables d at is ts =
    let x = (head d ++ listed [] item_said is) ++ listed from table ts in
    select_is (select_of d at is ts None [] None) ∙ append-nil ((x ++ []) ++ []) ∙ append-nil (x ++ []) ∙ append-nil x

sel-condition : (d : Bool) (at : ℕ) (is : List SelectItem) (ts : List TableRef) (c : Option Expr)
    → select (select_of d at is ts c [] None) ≡ ((head d ++ listed [] item_said is) ++ listed from table ts) ++ condition_said symbol.WHERE c
sel-condition d at is ts c =
    let x = ((head d ++ listed [] item_said is) ++ listed from table ts) ++ condition_said symbol.WHERE c in
    select_is (select_of d at is ts c [] None) ∙ append-nil (x ++ []) ∙ append-nil x

sel-group : (d : Bool) (at : ℕ) (is : List SelectItem) (ts : List TableRef) (c : Option Expr) (g : List ColumnName)
    → select (select_of d at is ts c g None) ≡ (((head d ++ listed [] item_said is) ++ listed from table ts) ++ condition_said symbol.WHERE c) ++ listed group_by column_said g
sel-group d at is ts c g = select_is (select_of d at is ts c g None) ∙ append-nil ((((head d ++ listed [] item_said is) ++ listed from table ts) ++ condition_said symbol.WHERE c) ++ listed group_by column_said g)

-- what is said at the end of what is said

at_end : (T P S Y : List Said) → S ≡ P → T ++ (P ++ (Y ++ [])) ≡ (T ++ S) ++ Y
at_end T P S Y e = rw e (simp (append_assoc, append-nil))

word_at_end : (T P S F Y : List Said) → S ≡ P → T ++ (P ++ (F ++ Y)) ≡ ((T ++ S) ++ F) ++ Y
word_at_end T P S F Y e = rw e (simp append_assoc)

more_at_end : (T P S I M N C Y : List Said) → S ≡ P ++ (I ++ M) → N ≡ M ++ (C ++ Y) → T ++ (P ++ (I ++ N)) ≡ ((T ++ S) ++ C) ++ Y
more_at_end T P S I M N C Y e f = rw (e, f) (simp append_assoc)

begun : (T : List Said) (at : ℕ) → T ++ said Begun at ≡ T ++ word symbol.SELECT
begun T at = ap (λ x. T ++ x) (sel-none false at)

distinct : (T : List Said) (at : ℕ) → T ++ said Distinct (true, at) ≡ (T ++ said Begun at) ++ word symbol.DISTINCT
distinct T at =
    ap (λ x. T ++ x) (sel-none true at) ∙ sym (append_assoc T (word symbol.SELECT) (word symbol.DISTINCT)) ∙ ap (λ x. (T ++ x) ++ word symbol.DISTINCT) (sym (sel-none false at))

first_item : (T : List Said) (d : Bool) (at : ℕ) (y : SelectItem) → T ++ said Items (d, at, (y, [])) ≡ (T ++ said Distinct (d, at)) ++ item_said y
first_item T d at y = ap (λ x. T ++ x) (sel-items d at (y ∷ [])) ∙ at_end T (head d) (said Distinct (d, at)) (item_said y) (sel-none d at)

next_item : (T : List Said) (d : Bool) (at : ℕ) (x : SelectItem) (xs : List SelectItem) (y : SelectItem)
    → T ++ said Items (d, at, (x, xs ++ y ∷ [])) ≡ ((T ++ said Items (d, at, (x, xs))) ++ word symbol.COMMA) ++ item_said y
next_item T d at x xs y =
    ap (λ z. T ++ z) (sel-items d at (x ∷ (xs ++ y ∷ []))) ∙
    more_at_end T (head d) (said Items (d, at, (x, xs))) (item_said x) (more item_said xs) (more item_said (xs ++ y ∷ [])) (word symbol.COMMA) (item_said y) (sel-items d at (x ∷ xs)) (more_snoc item_said xs y)

no_alias : (U : List Said) (e : Expr) → U ++ item_said (item.Expr e None) ≡ U ++ expr_said e
no_alias U e = ap (λ x. U ++ x) (append-nil (expr_said e))

first_table : (T : List Said) (d : Bool) (at : ℕ) (is : List SelectItem) (y : TableRef)
    → T ++ said SomeTables (d, at, is, (y, [])) ≡ ((T ++ select (select_of d at is [] None [] None)) ++ word symbol.FROM) ++ table y
first_table T d at is y =
    let p = head d ++ listed [] item_said is in
    ap (λ z. T ++ z) (sel-tables d at is (y ∷ [])) ∙ ap (λ z. T ++ (p ++ z)) (append-nil (word symbol.FROM ++ table y)) ∙
    word_at_end T p (select (select_of d at is [] None [] None)) (word symbol.FROM) (table y) (sel-items d at is)

next_table : (T : List Said) (d : Bool) (at : ℕ) (is : List SelectItem) (x : TableRef) (xs : List TableRef) (y : TableRef)
    → T ++ said SomeTables (d, at, is, (x, xs ++ y ∷ [])) ≡ ((T ++ said SomeTables (d, at, is, (x, xs))) ++ word symbol.COMMA) ++ table y
next_table T d at is x xs y =
    ap (λ z. T ++ z) (sel-tables d at is (x ∷ (xs ++ y ∷ []))) ∙
    more_at_end T (head d ++ listed [] item_said is) (said SomeTables (d, at, is, (x, xs))) (word symbol.FROM ++ table x) (more table xs) (more table (xs ++ y ∷ [])) (word symbol.COMMA) (table y)
    (sel-tables d at is (x ∷ xs)) (more_snoc table xs y)

a_condition : (T : List Said) (d : Bool) (at : ℕ) (is : List SelectItem) (ts : List TableRef) (e : Expr)
    → T ++ said Condition (d, at, is, ts, Some e) ≡ ((T ++ said Tables (d, at, is, ts)) ++ word symbol.WHERE) ++ expr_said e
a_condition T d at is ts e =
    ap (λ z. T ++ z) (sel-condition d at is ts (Some e)) ∙
    word_at_end T ((head d ++ listed [] item_said is) ++ listed from table ts) (said Tables (d, at, is, ts)) (word symbol.WHERE) (expr_said e) (sel-tables d at is ts)

first_column : (T : List Said) (d : Bool) (at : ℕ) (is : List SelectItem) (ts : List TableRef) (c : Option Expr) (y : ColumnName)
    → T ++ said SomeGroup (d, at, is, ts, c, (y, [])) ≡ (((T ++ said Condition (d, at, is, ts, c)) ++ word symbol.GROUP) ++ word symbol.BY) ++ column_said y
first_column T d at is ts c y =
    let p = ((head d ++ listed [] item_said is) ++ listed from table ts) ++ condition_said symbol.WHERE c in
    ap (λ z. T ++ z) (sel-group d at is ts c (y ∷ [])) ∙ ap (λ z. T ++ (p ++ z)) (append-nil (group_by ++ column_said y)) ∙
    word_at_end T p (said Condition (d, at, is, ts, c)) group_by (column_said y) (sel-condition d at is ts c) ∙
    ap (λ z. z ++ column_said y) (sym (append_assoc (T ++ said Condition (d, at, is, ts, c)) (word symbol.GROUP) (word symbol.BY)))

next_column : (T : List Said) (d : Bool) (at : ℕ) (is : List SelectItem) (ts : List TableRef) (c : Option Expr) (x : ColumnName) (xs : List ColumnName) (y : ColumnName)
    → T ++ said SomeGroup (d, at, is, ts, c, (x, xs ++ y ∷ [])) ≡ ((T ++ said SomeGroup (d, at, is, ts, c, (x, xs))) ++ word symbol.COMMA) ++ column_said y
next_column T d at is ts c x xs y =
    ap (λ z. T ++ z) (sel-group d at is ts c (x ∷ (xs ++ y ∷ []))) ∙
    more_at_end T (((head d ++ listed [] item_said is) ++ listed from table ts) ++ condition_said symbol.WHERE c) (said SomeGroup (d, at, is, ts, c, (x, xs))) (group_by ++ column_said x) (more column_said xs)
    (more column_said (xs ++ y ∷ [])) (word symbol.COMMA) (column_said y) (sel-group d at is ts c (x ∷ xs)) (more_snoc column_said xs y)

a_having : (T : List Said) (d : Bool) (at : ℕ) (is : List SelectItem) (ts : List TableRef) (c : Option Expr) (g : List ColumnName) (e : Expr)
    → T ++ said ASelect (select_of d at is ts c g (Some e)) ≡ ((T ++ said Group (d, at, is, ts, c, g)) ++ word symbol.HAVING) ++ expr_said e
a_having T d at is ts c g e =
    ap (λ z. T ++ z) (select_is (select_of d at is ts c g (Some e))) ∙
    word_at_end T ((((head d ++ listed [] item_said is) ++ listed from table ts) ++ condition_said symbol.WHERE c) ++ listed group_by column_said g) (said Group (d, at, is, ts, c, g)) (word symbol.HAVING) (expr_said e)
    (sel-group d at is ts c g)

-- queries

some-keys : (q : SetQuery) (ks : List Key) → printed (query_of q ks None None) ≡ set_said q ++ listed order_by key ks
some-keys q ks = append-nil ((set_said q ++ listed order_by key ks) ++ []) ∙ append-nil (set_said q ++ listed order_by key ks)

next_key : (T : List Said) (q : SetQuery) (x : Key) (xs : List Key) (y : Key) → T ++ said SomeKeys (q, (x, xs ++ y ∷ [])) ≡ ((T ++ said SomeKeys (q, (x, xs))) ++ word symbol.COMMA) ++ key y
next_key T q x xs y =
    ap (λ z. T ++ z) (some-keys q (x ∷ (xs ++ y ∷ []))) ∙
    more_at_end T (set_said q) (said SomeKeys (q, (x, xs))) (order_by ++ key x) (more key xs) (more key (xs ++ y ∷ [])) (word symbol.COMMA) (key y) (some-keys q (x ∷ xs)) (more_snoc key xs y)

-- what is given says what was taken

says-plain-1 : (T : List Said) (x1 : Part AName) → (T ++ said AColumn (column.Plain x1)) ≡ (T ++ said AName x1)
says-plain-1 T x1 = refl

says-of-1 : (T : List Said) (x1 : Part AName) (x2 : Part AName) → (T ++ said AColumn (column.Of x1 x2)) ≡ (((T ++ said AName x1) ++ word (symbol.DOT)) ++ said AName x2)
says-of-1 T x1 x2 = simp (append_assoc, append-nil)

says-in_schema-1 : (T : List Said) (x1 : Part AName) (x2 : Part AName) (x3 : Part AName) → (T ++ said AColumn (column.InSchema x1 x2 x3)) ≡ (((((T ++ said AName x1) ++ word (symbol.DOT)) ++ said AName x2) ++ word (symbol.DOT)) ++ said AName x3)
says-in_schema-1 T x1 x2 x3 = simp (append_assoc, append-nil)

says-relation-1 : (T : List Said) (x1 : Part AName) → (T ++ said ARelation (relation_named x1)) ≡ (T ++ said AName x1)
says-relation-1 T x1 = refl

says-relation_of-1 : (T : List Said) (x1 : Part AName) (x2 : Part AName) → (T ++ said ARelation (relation_of x1 x2)) ≡ (((T ++ said AName x1) ++ word (symbol.DOT)) ++ said AName x2)
says-relation_of-1 T x1 x2 = simp (append_assoc, append-nil)

says-constant-1 : (T : List Said) (x1 : Part ALiteral) → (T ++ said AnExpr (expr.Literal x1)) ≡ (T ++ said ALiteral x1)
says-constant-1 T x1 = ap (λ x. T ++ x) (expr-Literal x1)

says-operand-1 : (T : List Said) (x1 : Part AColumn) → (T ++ said AnExpr (expr.Column x1)) ≡ (T ++ said AColumn x1)
says-operand-1 T x1 = ap (λ x. T ++ x) (expr-Column x1)

says-parens-1 : (T : List Said) (x1 : Part Place) (x2 : Part AnExpr) → (T ++ said AnExpr (expr.Parens x2 x1)) ≡ ((((T ++ word (symbol.OPEN)) ++ said Place x1) ++ said AnExpr x2) ++ word (symbol.CLOSE))
says-parens-1 T x1 x2 = rw (expr-Parens x2 x1) (simp (append_assoc, append-nil))

says-negate-1 : (T : List Said) (x1 : Part Place) (x2 : Part AnExpr) → (T ++ said AnExpr (expr.Negate x2 x1)) ≡ (((T ++ word (symbol.MINUS)) ++ said Place x1) ++ said AnExpr x2)
says-negate-1 T x1 x2 = rw (expr-Negate x2 x1) (simp (append_assoc, append-nil))

says-not-1 : (T : List Said) (x1 : Part Place) (x2 : Part AnExpr) → (T ++ said AnExpr (expr.Not x2 x1)) ≡ (((T ++ word (symbol.NOT)) ++ said Place x1) ++ said AnExpr x2)
says-not-1 T x1 x2 = rw (expr-Not x2 x1) (simp (append_assoc, append-nil))

says-links-1 : (T : List Said) → (T ++ said Links ([])) ≡ T
says-links-1 T = simp (append_assoc, append-nil)

says-link-1 : (op : Operator) (T : List Said) (x1 : Part Links) (x2 : Part Place) (x3 : Part AnExpr) → (T ++ said Links (x1 ++ (record { operator = op; operand = x3; at = x2 }) ∷ [])) ≡ ((((T ++ said Links x1) ++ word ((operator_kind op))) ++ said Place x2) ++ said AnExpr x3)
says-link-1 op T x1 x2 x3 = rw (all_snoc link x1 (record { operator = op; operand = x3; at = x2 }), link_is (record { operator = op; operand = x3; at = x2 })) (simp (append_assoc, append-nil))

says-chain-1 : (T : List Said) (x1 : Part AnExpr) (x2 : Part Links) → (T ++ said AnExpr (expr.Chain x1 x2)) ≡ ((T ++ said AnExpr x1) ++ said Links x2)
says-chain-1 T x1 x2 = rw (expr-Chain x1 x2) (simp (append_assoc, append-nil))

says-compare-1 : (c : Comparison) (T : List Said) (x1 : Part AnExpr) (x2 : Part Place) (x3 : Part AnExpr) → (T ++ said AnExpr (expr.Compare c x1 x3 x2)) ≡ ((((T ++ said AnExpr x1) ++ word ((comparison_kind c))) ++ said Place x2) ++ said AnExpr x3)
says-compare-1 c T x1 x2 x3 = rw (expr-Compare c x1 x3 x2) (simp (append_assoc, append-nil))

says-is_null-1 : (T : List Said) (x1 : Part AnExpr) → (T ++ said AnExpr (expr.IsNull x1 false)) ≡ (((T ++ said AnExpr x1) ++ word (symbol.IS)) ++ word (symbol.NULL))
says-is_null-1 T x1 = rw (expr-IsNull x1 false) (simp (append_assoc, append-nil))

says-is_not_null-1 : (T : List Said) (x1 : Part AnExpr) → (T ++ said AnExpr (expr.IsNull x1 true)) ≡ ((((T ++ said AnExpr x1) ++ word (symbol.IS)) ++ word (symbol.NOT)) ++ word (symbol.NULL))
says-is_not_null-1 T x1 = rw (expr-IsNull x1 true) (simp (append_assoc, append-nil))

says-list-1 : (T : List Said) → (T ++ said NoList tt) ≡ T
says-list-1 T = simp (append_assoc, append-nil)

says-add-1 : (T : List Said) (x1 : Part NoList) (x2 : Part AnExpr) → (T ++ said AList ((x2, []))) ≡ ((T ++ said NoList x1) ++ said AnExpr x2)
says-add-1 T x1 x2 = simp (append_assoc, append-nil)

says-add-2 : (T : List Said) (x1 : Part AList) (x2 : Part AnExpr) → (T ++ said AList ((x1.0, x1.1 ++ x2 ∷ []))) ≡ (((T ++ said AList x1) ++ word (symbol.COMMA)) ++ said AnExpr x2)
says-add-2 T x1 x2 = rw (more_snoc expr_said x1.1 x2) (simp (append_assoc, append-nil))

says-in-1 : (T : List Said) (x1 : Part AnExpr) (x2 : Part Place) (x3 : Part AList) → (T ++ said AnExpr (expr.In x1 false (x3.0 ∷ x3.1) x2)) ≡ ((((((T ++ said AnExpr x1) ++ word (symbol.IN)) ++ said Place x2) ++ word (symbol.OPEN)) ++ said AList x3) ++ word (symbol.CLOSE))
says-in-1 T x1 x2 x3 = rw (expr-In x1 false (x3.0 ∷ x3.1) x2) (simp (append_assoc, append-nil))

says-not_in-1 : (T : List Said) (x1 : Part AnExpr) (x2 : Part Place) (x3 : Part AList) → (T ++ said AnExpr (expr.In x1 true (x3.0 ∷ x3.1) x2)) ≡ (((((((T ++ said AnExpr x1) ++ word (symbol.NOT)) ++ word (symbol.IN)) ++ said Place x2) ++ word (symbol.OPEN)) ++ said AList x3) ++ word (symbol.CLOSE))
says-not_in-1 T x1 x2 x3 = rw (expr-In x1 true (x3.0 ∷ x3.1) x2) (simp (append_assoc, append-nil))

says-like-1 : (T : List Said) (x1 : Part AnExpr) (x2 : Part Place) (x3 : Part ALiteral) → (T ++ said AnExpr (expr.Like x1 false x3 x2)) ≡ ((((T ++ said AnExpr x1) ++ word (symbol.LIKE)) ++ said Place x2) ++ said ALiteral x3)
says-like-1 T x1 x2 x3 = rw (expr-Like x1 false x3 x2) (simp (append_assoc, append-nil))

says-not_like-1 : (T : List Said) (x1 : Part AnExpr) (x2 : Part Place) (x3 : Part ALiteral) → (T ++ said AnExpr (expr.Like x1 true x3 x2)) ≡ (((((T ++ said AnExpr x1) ++ word (symbol.NOT)) ++ word (symbol.LIKE)) ++ said Place x2) ++ said ALiteral x3)
says-not_like-1 T x1 x2 x3 = rw (expr-Like x1 true x3 x2) (simp (append_assoc, append-nil))

says-between-1 : (T : List Said) (x1 : Part AnExpr) (x2 : Part Place) (x3 : Part AnExpr) (x4 : Part AnExpr) → (T ++ said AnExpr (expr.Between x1 false x3 x4 x2)) ≡ ((((((T ++ said AnExpr x1) ++ word (symbol.BETWEEN)) ++ said Place x2) ++ said AnExpr x3) ++ word (symbol.AND)) ++ said AnExpr x4)
says-between-1 T x1 x2 x3 x4 = rw (expr-Between x1 false x3 x4 x2) (simp (append_assoc, append-nil))

says-not_between-1 : (T : List Said) (x1 : Part AnExpr) (x2 : Part Place) (x3 : Part AnExpr) (x4 : Part AnExpr) → (T ++ said AnExpr (expr.Between x1 true x3 x4 x2)) ≡ (((((((T ++ said AnExpr x1) ++ word (symbol.NOT)) ++ word (symbol.BETWEEN)) ++ said Place x2) ++ said AnExpr x3) ++ word (symbol.AND)) ++ said AnExpr x4)
says-not_between-1 T x1 x2 x3 x4 = rw (expr-Between x1 true x3 x4 x2) (simp (append_assoc, append-nil))

says-count_all-1 : (T : List Said) (x1 : Part Place) → (T ++ said AnExpr (expr.CountAll x1)) ≡ (((((T ++ word (symbol.COUNT)) ++ said Place x1) ++ word (symbol.OPEN)) ++ word (symbol.TIMES)) ++ word (symbol.CLOSE))
says-count_all-1 T x1 = rw (expr-CountAll x1) (simp (append_assoc, append-nil))

says-aggregate-1 : (g : Aggregate) (T : List Said) (x1 : Part Place) (x2 : Part AnExpr) → (T ++ said AnExpr (expr.Aggregate g x2 x1)) ≡ (((((T ++ word ((aggregate_kind g))) ++ said Place x1) ++ word (symbol.OPEN)) ++ said AnExpr x2) ++ word (symbol.CLOSE))
says-aggregate-1 g T x1 x2 = rw (expr-Aggregate g x2 x1) (simp (append_assoc, append-nil))

says-coalesce-1 : (T : List Said) (x1 : Part Place) (x2 : Part AList) → (T ++ said AnExpr (expr.Coalesce (x2.0 ∷ x2.1) x1)) ≡ (((((T ++ word (symbol.COALESCE)) ++ said Place x1) ++ word (symbol.OPEN)) ++ said AList x2) ++ word (symbol.CLOSE))
says-coalesce-1 T x1 x2 = rw (expr-Coalesce (x2.0 ∷ x2.1) x1) (simp (append_assoc, append-nil))

says-arms-1 : (T : List Said) → (T ++ said Arms ([])) ≡ T
says-arms-1 T = simp (append_assoc, append-nil)

says-arm-1 : (T : List Said) (x1 : Part Arms) (x2 : Part AnExpr) (x3 : Part AnExpr) → (T ++ said Arms (x1 ++ (record { condition = x2; value = x3 }) ∷ [])) ≡ (((((T ++ said Arms x1) ++ word (symbol.WHEN)) ++ said AnExpr x2) ++ word (symbol.THEN)) ++ said AnExpr x3)
says-arm-1 T x1 x2 x3 = rw (all_snoc arm x1 (record { condition = x2; value = x3 }), arm_is (record { condition = x2; value = x3 })) (simp (append_assoc, append-nil))

says-case-1 : (T : List Said) (x1 : Part Place) (x2 : Part Arms) → (T ++ said AnExpr (expr.Case x2 None x1)) ≡ ((((T ++ word (symbol.CASE)) ++ said Place x1) ++ said Arms x2) ++ word (symbol.END))
says-case-1 T x1 x2 = rw (expr-Case-none x2 x1) (simp (append_assoc, append-nil))

says-case_else-1 : (T : List Said) (x1 : Part Place) (x2 : Part Arms) (x3 : Part AnExpr) → (T ++ said AnExpr (expr.Case x2 (Some x3) x1)) ≡ ((((((T ++ word (symbol.CASE)) ++ said Place x1) ++ said Arms x2) ++ word (symbol.ELSE)) ++ said AnExpr x3) ++ word (symbol.END))
says-case_else-1 T x1 x2 x3 = rw (expr-Case-some x2 x3 x1) (simp (append_assoc, append-nil))

says-select-1 : (s : Source) (pos : ℕ) (T : List Said) → (T ++ said Begun (place_at s pos)) ≡ (T ++ word (symbol.SELECT))
says-select-1 s pos T = begun T (place_at s pos)

says-distinct-1 : (T : List Said) (x1 : Part Begun) → (T ++ said Distinct ((true, x1))) ≡ ((T ++ said Begun x1) ++ word (symbol.DISTINCT))
says-distinct-1 T x1 = distinct T x1

says-all-1 : (s : Source) (pos : ℕ) (T : List Said) (x1 : Part Distinct) → (T ++ said Items ((x1.0, x1.1, (item.All (place_at s pos), [])))) ≡ ((T ++ said Distinct x1) ++ word (symbol.TIMES))
says-all-1 s pos T x1 = first_item T x1.0 x1.1 (item.All (place_at s pos))

says-all_of-1 : (T : List Said) (x1 : Part Distinct) (x2 : Part AName) → (T ++ said Items ((x1.0, x1.1, (item.AllOf x2, [])))) ≡ ((((T ++ said Distinct x1) ++ said AName x2) ++ word (symbol.DOT)) ++ word (symbol.TIMES))
says-all_of-1 T x1 x2 = first_item T x1.0 x1.1 (item.AllOf x2) ∙ simp append_assoc

says-all_of-2 : (T : List Said) (x1 : Part Items) (x2 : Part AName) → (T ++ said Items ((x1.0, x1.1, (x1.2.0, x1.2.1 ++ item.AllOf x2 ∷ [])))) ≡ (((((T ++ said Items x1) ++ word (symbol.COMMA)) ++ said AName x2) ++ word (symbol.DOT)) ++ word (symbol.TIMES))
says-all_of-2 T x1 x2 = next_item T x1.0 x1.1 x1.2.0 x1.2.1 (item.AllOf x2) ∙ simp append_assoc

says-item-1 : (T : List Said) (x1 : Part Distinct) (x2 : Part AnExpr) → (T ++ said Items ((x1.0, x1.1, (item.Expr x2 None, [])))) ≡ ((T ++ said Distinct x1) ++ said AnExpr x2)
says-item-1 T x1 x2 = first_item T x1.0 x1.1 (item.Expr x2 None) ∙ no_alias (T ++ said Distinct x1) x2

says-item-2 : (T : List Said) (x1 : Part Items) (x2 : Part AnExpr) → (T ++ said Items ((x1.0, x1.1, (x1.2.0, x1.2.1 ++ item.Expr x2 None ∷ [])))) ≡ (((T ++ said Items x1) ++ word (symbol.COMMA)) ++ said AnExpr x2)
says-item-2 T x1 x2 = next_item T x1.0 x1.1 x1.2.0 x1.2.1 (item.Expr x2 None) ∙ no_alias ((T ++ said Items x1) ++ word symbol.COMMA) x2

says-item_as-1 : (T : List Said) (x1 : Part Distinct) (x2 : Part AnExpr) (x3 : Part AName) → (T ++ said Items ((x1.0, x1.1, (item.Expr x2 (Some x3), [])))) ≡ (((T ++ said Distinct x1) ++ said AnExpr x2) ++ said AName x3)
says-item_as-1 T x1 x2 x3 = first_item T x1.0 x1.1 (item.Expr x2 (Some x3)) ∙ simp append_assoc

says-item_as-2 : (T : List Said) (x1 : Part Items) (x2 : Part AnExpr) (x3 : Part AName) → (T ++ said Items ((x1.0, x1.1, (x1.2.0, x1.2.1 ++ item.Expr x2 (Some x3) ∷ [])))) ≡ ((((T ++ said Items x1) ++ word (symbol.COMMA)) ++ said AnExpr x2) ++ said AName x3)
says-item_as-2 T x1 x2 x3 = next_item T x1.0 x1.1 x1.2.0 x1.2.1 (item.Expr x2 (Some x3)) ∙ simp append_assoc

says-from-1 : (T : List Said) (x1 : Part Items) (x2 : Part ATable) → ((T ++ said SomeTables ((x1.0, x1.1, x1.2.0 ∷ x1.2.1, (x2, [])))) ++ word (symbol.COMMA)) ≡ ((((T ++ said Items x1) ++ word (symbol.FROM)) ++ said ATable x2) ++ word (symbol.COMMA))
says-from-1 T x1 x2 = ap (λ z. z ++ word symbol.COMMA) (first_table T x1.0 x1.1 (x1.2.0 ∷ x1.2.1) x2)

says-from-2 : (T : List Said) (x1 : Part SomeTables) (x2 : Part ATable) → ((T ++ said SomeTables ((x1.0, x1.1, x1.2, (x1.3.0, x1.3.1 ++ x2 ∷ [])))) ++ word (symbol.COMMA)) ≡ ((((T ++ said SomeTables x1) ++ word (symbol.COMMA)) ++ said ATable x2) ++ word (symbol.COMMA))
says-from-2 T x1 x2 = ap (λ z. z ++ word symbol.COMMA) (next_table T x1.0 x1.1 x1.2 x1.3.0 x1.3.1 x2)

says-from-3 : (T : List Said) (x1 : Part Items) (x2 : Part ATable) → (T ++ said SomeTables ((x1.0, x1.1, x1.2.0 ∷ x1.2.1, (x2, [])))) ≡ (((T ++ said Items x1) ++ word (symbol.FROM)) ++ said ATable x2)
says-from-3 T x1 x2 = first_table T x1.0 x1.1 (x1.2.0 ∷ x1.2.1) x2

says-from-4 : (T : List Said) (x1 : Part SomeTables) (x2 : Part ATable) → (T ++ said SomeTables ((x1.0, x1.1, x1.2, (x1.3.0, x1.3.1 ++ x2 ∷ [])))) ≡ (((T ++ said SomeTables x1) ++ word (symbol.COMMA)) ++ said ATable x2)
says-from-4 T x1 x2 = next_table T x1.0 x1.1 x1.2 x1.3.0 x1.3.1 x2

says-inner-1 : (T : List Said) (x1 : Part ATable) (x2 : Part ATable) (x3 : Part AnExpr) → (T ++ said ATable (Joined x1 x2 (Inner x3))) ≡ (((((T ++ said ATable x1) ++ word (symbol.JOIN)) ++ said ATable x2) ++ word (symbol.ON)) ++ said AnExpr x3)
says-inner-1 T x1 x2 x3 = rw (table-Joined x1 x2 (Inner x3)) (simp (append_assoc, append-nil))

says-left-1 : (T : List Said) (x1 : Part ATable) (x2 : Part ATable) (x3 : Part AnExpr) → (T ++ said ATable (Joined x1 x2 (Left x3))) ≡ ((((((T ++ said ATable x1) ++ word (symbol.LEFT)) ++ word (symbol.JOIN)) ++ said ATable x2) ++ word (symbol.ON)) ++ said AnExpr x3)
says-left-1 T x1 x2 x3 = rw (table-Joined x1 x2 (Left x3)) (simp (append_assoc, append-nil))

says-cross-1 : (T : List Said) (x1 : Part ATable) (x2 : Part ATable) → (T ++ said ATable (Joined x1 x2 Cross)) ≡ ((((T ++ said ATable x1) ++ word (symbol.CROSS)) ++ word (symbol.JOIN)) ++ said ATable x2)
says-cross-1 T x1 x2 = rw (table-Joined x1 x2 Cross) (simp (append_assoc, append-nil))

says-where-1 : (T : List Said) (x1 : Part Tables) (x2 : Part AnExpr) → (T ++ said Condition ((x1.0, x1.1, x1.2, x1.3, Some x2))) ≡ (((T ++ said Tables x1) ++ word (symbol.WHERE)) ++ said AnExpr x2)
says-where-1 T x1 x2 = a_condition T x1.0 x1.1 x1.2 x1.3 x2

says-group_key-1 : (T : List Said) (x1 : Part Condition) (x2 : Part AColumn) → (T ++ said SomeGroup ((x1.0, x1.1, x1.2, x1.3, x1.4, (x2, [])))) ≡ ((((T ++ said Condition x1) ++ word (symbol.GROUP)) ++ word (symbol.BY)) ++ said AColumn x2)
says-group_key-1 T x1 x2 = first_column T x1.0 x1.1 x1.2 x1.3 x1.4 x2

says-group_key-2 : (T : List Said) (x1 : Part SomeGroup) (x2 : Part AColumn) → (T ++ said SomeGroup ((x1.0, x1.1, x1.2, x1.3, x1.4, (x1.5.0, x1.5.1 ++ x2 ∷ [])))) ≡ (((T ++ said SomeGroup x1) ++ word (symbol.COMMA)) ++ said AColumn x2)
says-group_key-2 T x1 x2 = next_column T x1.0 x1.1 x1.2 x1.3 x1.4 x1.5.0 x1.5.1 x2

says-having-1 : (T : List Said) (x1 : Part Group) (x2 : Part AnExpr) → (T ++ said ASelect (select_of x1.0 x1.1 x1.2 x1.3 x1.4 x1.5 (Some x2))) ≡ (((T ++ said Group x1) ++ word (symbol.HAVING)) ++ said AnExpr x2)
says-having-1 T x1 x2 = a_having T x1.0 x1.1 x1.2 x1.3 x1.4 x1.5 x2

says-selects-1 : (T : List Said) (x1 : Part ASelect) → (T ++ said ASet (set.Select x1)) ≡ (T ++ said ASelect x1)
says-selects-1 T x1 = ap (λ x. T ++ x) (set-Select x1)

says-union-1 : (T : List Said) (x1 : Part ASet) (x2 : Part ASelect) → (T ++ said ASet (set.Union x1 false x2)) ≡ (((T ++ said ASet x1) ++ word (symbol.UNION)) ++ said ASelect x2)
says-union-1 T x1 x2 = rw (set-Union x1 false x2) (simp (append_assoc, append-nil))

says-union_all-1 : (T : List Said) (x1 : Part ASet) (x2 : Part ASelect) → (T ++ said ASet (set.Union x1 true x2)) ≡ ((((T ++ said ASet x1) ++ word (symbol.UNION)) ++ word (symbol.ALL)) ++ said ASelect x2)
says-union_all-1 T x1 x2 = rw (set-Union x1 true x2) (simp (append_assoc, append-nil))

says-table-1 : (T : List Said) (x1 : Part ARelation) → (T ++ said ATable (Named x1 None)) ≡ (T ++ said ARelation x1)
says-table-1 T x1 = rw (table-Named x1 None) (simp (append_assoc, append-nil))

says-table_as-1 : (T : List Said) (x1 : Part ARelation) (x2 : Part AName) → (T ++ said ATable (Named x1 (Some x2))) ≡ ((T ++ said ARelation x1) ++ said AName x2)
says-table_as-1 T x1 x2 = rw (table-Named x1 (Some x2)) (simp (append_assoc, append-nil))

says-derived-1 : (T : List Said) (x1 : Part ASet) (x2 : Part AName) → (T ++ said ATable (Derived x1 x2)) ≡ ((((T ++ word (symbol.OPEN)) ++ said ASet x1) ++ word (symbol.CLOSE)) ++ said AName x2)
says-derived-1 T x1 x2 = rw (table-Derived x1 x2) (simp (append_assoc, append-nil))

says-query-1 : (T : List Said) (x1 : Part ASet) → (T ++ said Unordered (x1)) ≡ (T ++ said ASet x1)
says-query-1 T x1 = simp (append_assoc, append-nil)

says-key_name-1 : (T : List Said) (x1 : Part Unordered) (x2 : Part AName) → (T ++ said SomeKeys ((x1, ((record { target = target.Name x2; descending = false }), [])))) ≡ ((((T ++ said Unordered x1) ++ word (symbol.ORDER)) ++ word (symbol.BY)) ++ said AName x2)
says-key_name-1 T x1 x2 = simp (append_assoc, append-nil)

says-key_name-2 : (T : List Said) (x1 : Part SomeKeys) (x2 : Part AName) → (T ++ said SomeKeys ((x1.0, (x1.1.0, x1.1.1 ++ (record { target = target.Name x2; descending = false }) ∷ [])))) ≡ (((T ++ said SomeKeys x1) ++ word (symbol.COMMA)) ++ said AName x2)
says-key_name-2 T x1 x2 = next_key T x1.0 x1.1.0 x1.1.1 (record { target = target.Name x2; descending = false }) ∙ ap (λ z. ((T ++ said SomeKeys x1) ++ word symbol.COMMA) ++ z) (append-nil (name x2))

says-key_name_down-1 : (T : List Said) (x1 : Part Unordered) (x2 : Part AName) → (T ++ said SomeKeys ((x1, ((record { target = target.Name x2; descending = true }), [])))) ≡ (((((T ++ said Unordered x1) ++ word (symbol.ORDER)) ++ word (symbol.BY)) ++ said AName x2) ++ word (symbol.DESC))
says-key_name_down-1 T x1 x2 = simp (append_assoc, append-nil)

says-key_name_down-2 : (T : List Said) (x1 : Part SomeKeys) (x2 : Part AName) → (T ++ said SomeKeys ((x1.0, (x1.1.0, x1.1.1 ++ (record { target = target.Name x2; descending = true }) ∷ [])))) ≡ ((((T ++ said SomeKeys x1) ++ word (symbol.COMMA)) ++ said AName x2) ++ word (symbol.DESC))
says-key_name_down-2 T x1 x2 = next_key T x1.0 x1.1.0 x1.1.1 (record { target = target.Name x2; descending = true }) ∙ sym (append_assoc ((T ++ said SomeKeys x1) ++ word symbol.COMMA) (name x2) (word symbol.DESC))

says-key_number-1 : (T : List Said) (x1 : Part Unordered) (x2 : Part ALiteral) → (T ++ said SomeKeys ((x1, ((record { target = target.Number x2; descending = false }), [])))) ≡ ((((T ++ said Unordered x1) ++ word (symbol.ORDER)) ++ word (symbol.BY)) ++ said ALiteral x2)
says-key_number-1 T x1 x2 = simp (append_assoc, append-nil)

says-key_number-2 : (T : List Said) (x1 : Part SomeKeys) (x2 : Part ALiteral) → (T ++ said SomeKeys ((x1.0, (x1.1.0, x1.1.1 ++ (record { target = target.Number x2; descending = false }) ∷ [])))) ≡ (((T ++ said SomeKeys x1) ++ word (symbol.COMMA)) ++ said ALiteral x2)
says-key_number-2 T x1 x2 = next_key T x1.0 x1.1.0 x1.1.1 (record { target = target.Number x2; descending = false }) ∙ ap (λ z. ((T ++ said SomeKeys x1) ++ word symbol.COMMA) ++ z) (append-nil (literal x2))

says-key_number_down-1 : (T : List Said) (x1 : Part Unordered) (x2 : Part ALiteral) → (T ++ said SomeKeys ((x1, ((record { target = target.Number x2; descending = true }), [])))) ≡ (((((T ++ said Unordered x1) ++ word (symbol.ORDER)) ++ word (symbol.BY)) ++ said ALiteral x2) ++ word (symbol.DESC))
says-key_number_down-1 T x1 x2 = simp (append_assoc, append-nil)

says-key_number_down-2 : (T : List Said) (x1 : Part SomeKeys) (x2 : Part ALiteral) → (T ++ said SomeKeys ((x1.0, (x1.1.0, x1.1.1 ++ (record { target = target.Number x2; descending = true }) ∷ [])))) ≡ ((((T ++ said SomeKeys x1) ++ word (symbol.COMMA)) ++ said ALiteral x2) ++ word (symbol.DESC))
says-key_number_down-2 T x1 x2 = next_key T x1.0 x1.1.0 x1.1.1 (record { target = target.Number x2; descending = true }) ∙ sym (append_assoc ((T ++ said SomeKeys x1) ++ word symbol.COMMA) (literal x2) (word symbol.DESC))

says-limit-1 : (T : List Said) (x1 : Part Keys) (x2 : Part ALiteral) → (T ++ said Limited ((x1.0, x1.1, Some x2))) ≡ (((T ++ said Keys x1) ++ word (symbol.LIMIT)) ++ said ALiteral x2)
says-limit-1 T x1 x2 = simp (append_assoc, append-nil)

says-offset-1 : (T : List Said) (x1 : Part Limited) (x2 : Part ALiteral) → (T ++ said AQuery (query_of x1.0 x1.1 x1.2 (Some x2))) ≡ (((T ++ said Limited x1) ++ word (symbol.OFFSET)) ++ said ALiteral x2)
says-offset-1 T x1 x2 = simp (append_assoc, append-nil)

says-run-1 : (T : List Said) (x1 : Part AQuery) → (T ++ said AStatement (x1)) ≡ (T ++ said AQuery x1)
says-run-1 T x1 = simp (append_assoc, append-nil)

-- actions

token_says : (s : Source) (pos : ℕ) (a : TokenAction) (w : Waiting) (f : Signature Kind) (r : List Kind) → IsReady s (reads_of (act.Token a)) pos → Among f (token_stages a) → Has s pos w (takes f ++ r) → Has s pos (token_on s pos a w) (gives f ++ r)
token_says s pos token.Place w f r y here h = record { held = (place_at s pos, h.held); waits = ap (token_on s pos token.Place) h.waits; says = append-nil (text r h.held) ∙ h.says }
token_says s pos token.Place w f r y (there m) h = elim m [ ]
token_says s pos token.Name w f r y here h = record {
  held = (name_at s pos, h.held.1);
  waits = ap (token_on s pos token.Name) h.waits;
  says = last_name s pos (text r h.held.1) h.held.0 y h.says;
}
token_says s pos token.Name w f r y (there m) h = elim m [ ]
token_says s pos token.Literal w f r y here h = record {
  held = (literal_at s pos, h.held.1);
  waits = ap (token_on s pos token.Literal) h.waits;
  says = last_literal s pos (text r h.held.1) h.held.0 y h.says;
}
token_says s pos token.Literal w f r y (there here) h = record {
  held = (literal_at s pos, h.held.1);
  waits = ap (token_on s pos token.Literal) h.waits;
  says = last_literal s pos (text r h.held.1) h.held.0 y h.says;
}
token_says s pos token.Literal w f r y (there (there here)) h = record {
  held = (literal_at s pos, h.held.1);
  waits = ap (token_on s pos token.Literal) h.waits;
  says = last_literal s pos (text r h.held.1) h.held.0 y h.says;
}
token_says s pos token.Literal w f r y (there (there (there m))) h = elim m [ ]
token_says s pos token.Negative w f r y here h = record {
  held = (negative_at s pos, h.held.1.1);
  waits = ap (token_on s pos token.Negative) h.waits;
  says = last_negative s pos (text r h.held.1.1) h.held.0 y h.says;
}
token_says s pos token.Negative w f r y (there m) h = elim m [ ]
token_says s pos token.Plain w f r y here h = record { held = (column.Plain h.held.0, h.held.1); waits = ap (token_on s pos token.Plain) h.waits; says = says-plain-1 (text r h.held.1) h.held.0 ∙ h.says }
token_says s pos token.Plain w f r y (there m) h = elim m [ ]
token_says s pos token.Of w f r y here h = record { held = (column.Of h.held.1.1.0 h.held.0, h.held.1.1.1); waits = ap (token_on s pos token.Of) h.waits; says = says-of-1 (text r h.held.1.1.1) h.held.1.1.0 h.held.0 ∙ h.says }
token_says s pos token.Of w f r y (there m) h = elim m [ ]
token_says s pos token.InSchema w f r y here h = record { held = (column.InSchema h.held.1.1.1.1.0 h.held.1.1.0 h.held.0, h.held.1.1.1.1.1); waits = ap (token_on s pos token.InSchema) h.waits; says = says-in_schema-1 (text r h.held.1.1.1.1.1) h.held.1.1.1.1.0 h.held.1.1.0 h.held.0 ∙ h.says }
token_says s pos token.InSchema w f r y (there m) h = elim m [ ]
token_says s pos token.Relation w f r y here h = record { held = (relation_named h.held.0, h.held.1); waits = ap (token_on s pos token.Relation) h.waits; says = says-relation-1 (text r h.held.1) h.held.0 ∙ h.says }
token_says s pos token.Relation w f r y (there m) h = elim m [ ]
token_says s pos token.RelationOf w f r y here h = record { held = (relation_of h.held.1.1.0 h.held.0, h.held.1.1.1); waits = ap (token_on s pos token.RelationOf) h.waits; says = says-relation_of-1 (text r h.held.1.1.1) h.held.1.1.0 h.held.0 ∙ h.says }
token_says s pos token.RelationOf w f r y (there m) h = elim m [ ]

expr_says : (s : Source) (pos : ℕ) (a : ExprAction) (w : Waiting) (f : Signature Kind) (r : List Kind) → Among f (expr_stages a) → Has s pos w (takes f ++ r) → Has s pos (expr_on a w) (gives f ++ r)
expr_says s pos action.Constant w f r here h = record { held = (expr.Literal h.held.0, h.held.1); waits = ap (expr_on action.Constant) h.waits; says = says-constant-1 (text r h.held.1) h.held.0 ∙ h.says }
expr_says s pos action.Constant w f r (there m) h = elim m [ ]
expr_says s pos action.Column w f r here h = record { held = (expr.Column h.held.0, h.held.1); waits = ap (expr_on action.Column) h.waits; says = says-operand-1 (text r h.held.1) h.held.0 ∙ h.says }
expr_says s pos action.Column w f r (there m) h = elim m [ ]
expr_says s pos action.Parens w f r here h = record { held = (expr.Parens h.held.1.0 h.held.1.1.0, h.held.1.1.1.1); waits = ap (expr_on action.Parens) h.waits; says = says-parens-1 (text r h.held.1.1.1.1) h.held.1.1.0 h.held.1.0 ∙ h.says }
expr_says s pos action.Parens w f r (there m) h = elim m [ ]
expr_says s pos action.Negate w f r here h = record { held = (expr.Negate h.held.0 h.held.1.0, h.held.1.1.1); waits = ap (expr_on action.Negate) h.waits; says = says-negate-1 (text r h.held.1.1.1) h.held.1.0 h.held.0 ∙ h.says }
expr_says s pos action.Negate w f r (there m) h = elim m [ ]
expr_says s pos action.Not w f r here h = record { held = (expr.Not h.held.0 h.held.1.0, h.held.1.1.1); waits = ap (expr_on action.Not) h.waits; says = says-not-1 (text r h.held.1.1.1) h.held.1.0 h.held.0 ∙ h.says }
expr_says s pos action.Not w f r (there m) h = elim m [ ]
expr_says s pos action.Links w f r here h = record { held = ([], h.held); waits = ap (expr_on action.Links) h.waits; says = says-links-1 (text r h.held) ∙ h.says }
expr_says s pos action.Links w f r (there m) h = elim m [ ]
expr_says s pos (action.Link op) w f r here h = record { held = (h.held.1.1.1.0 ++ (record { operator = op; operand = h.held.0; at = h.held.1.0 }) ∷ [], h.held.1.1.1.1); waits = ap (expr_on (action.Link op)) h.waits; says = says-link-1 op (text r h.held.1.1.1.1) h.held.1.1.1.0 h.held.1.0 h.held.0 ∙ h.says }
expr_says s pos (action.Link op) w f r (there m) h = elim m [ ]
expr_says s pos action.Chain w f r here h = record { held = (expr.Chain h.held.1.0 h.held.0, h.held.1.1); waits = ap (expr_on action.Chain) h.waits; says = says-chain-1 (text r h.held.1.1) h.held.1.0 h.held.0 ∙ h.says }
expr_says s pos action.Chain w f r (there m) h = elim m [ ]
expr_says s pos (action.Compare c) w f r here h = record { held = (expr.Compare c h.held.1.1.1.0 h.held.0 h.held.1.0, h.held.1.1.1.1); waits = ap (expr_on (action.Compare c)) h.waits; says = says-compare-1 c (text r h.held.1.1.1.1) h.held.1.1.1.0 h.held.1.0 h.held.0 ∙ h.says }
expr_says s pos (action.Compare c) w f r (there m) h = elim m [ ]
expr_says s pos (action.IsNull false) w f r here h = record { held = (expr.IsNull h.held.1.1.0 false, h.held.1.1.1); waits = ap (expr_on (action.IsNull false)) h.waits; says = says-is_null-1 (text r h.held.1.1.1) h.held.1.1.0 ∙ h.says }
expr_says s pos (action.IsNull false) w f r (there m) h = elim m [ ]
expr_says s pos (action.IsNull true) w f r here h = record { held = (expr.IsNull h.held.1.1.1.0 true, h.held.1.1.1.1); waits = ap (expr_on (action.IsNull true)) h.waits; says = says-is_not_null-1 (text r h.held.1.1.1.1) h.held.1.1.1.0 ∙ h.says }
expr_says s pos (action.IsNull true) w f r (there m) h = elim m [ ]
expr_says s pos action.List w f r here h = record { held = (tt, h.held); waits = ap (expr_on action.List) h.waits; says = says-list-1 (text r h.held) ∙ h.says }
expr_says s pos action.List w f r (there m) h = elim m [ ]
expr_says s pos action.Add w f r here h = record { held = ((h.held.0, []), h.held.1.1); waits = ap (expr_on action.Add) h.waits; says = says-add-1 (text r h.held.1.1) h.held.1.0 h.held.0 ∙ h.says }
expr_says s pos action.Add w f r (there here) h = record { held = ((h.held.1.1.0.0, h.held.1.1.0.1 ++ h.held.0 ∷ []), h.held.1.1.1); waits = ap (expr_on action.Add) h.waits; says = says-add-2 (text r h.held.1.1.1) h.held.1.1.0 h.held.0 ∙ h.says }
expr_says s pos action.Add w f r (there (there m)) h = elim m [ ]
expr_says s pos (action.In false) w f r here h = record { held = (expr.In h.held.1.1.1.1.1.0 false (h.held.1.0.0 ∷ h.held.1.0.1) h.held.1.1.1.0, h.held.1.1.1.1.1.1); waits = ap (expr_on (action.In false)) h.waits; says = says-in-1 (text r h.held.1.1.1.1.1.1) h.held.1.1.1.1.1.0 h.held.1.1.1.0 h.held.1.0 ∙ h.says }
expr_says s pos (action.In false) w f r (there m) h = elim m [ ]
expr_says s pos (action.In true) w f r here h = record { held = (expr.In h.held.1.1.1.1.1.1.0 true (h.held.1.0.0 ∷ h.held.1.0.1) h.held.1.1.1.0, h.held.1.1.1.1.1.1.1); waits = ap (expr_on (action.In true)) h.waits; says = says-not_in-1 (text r h.held.1.1.1.1.1.1.1) h.held.1.1.1.1.1.1.0 h.held.1.1.1.0 h.held.1.0 ∙ h.says }
expr_says s pos (action.In true) w f r (there m) h = elim m [ ]
expr_says s pos (action.Like false) w f r here h = record { held = (expr.Like h.held.1.1.1.0 false h.held.0 h.held.1.0, h.held.1.1.1.1); waits = ap (expr_on (action.Like false)) h.waits; says = says-like-1 (text r h.held.1.1.1.1) h.held.1.1.1.0 h.held.1.0 h.held.0 ∙ h.says }
expr_says s pos (action.Like false) w f r (there m) h = elim m [ ]
expr_says s pos (action.Like true) w f r here h = record { held = (expr.Like h.held.1.1.1.1.0 true h.held.0 h.held.1.0, h.held.1.1.1.1.1); waits = ap (expr_on (action.Like true)) h.waits; says = says-not_like-1 (text r h.held.1.1.1.1.1) h.held.1.1.1.1.0 h.held.1.0 h.held.0 ∙ h.says }
expr_says s pos (action.Like true) w f r (there m) h = elim m [ ]
expr_says s pos (action.Between false) w f r here h = record { held = (expr.Between h.held.1.1.1.1.1.0 false h.held.1.1.0 h.held.0 h.held.1.1.1.0, h.held.1.1.1.1.1.1); waits = ap (expr_on (action.Between false)) h.waits; says = says-between-1 (text r h.held.1.1.1.1.1.1) h.held.1.1.1.1.1.0 h.held.1.1.1.0 h.held.1.1.0 h.held.0 ∙ h.says }
expr_says s pos (action.Between false) w f r (there m) h = elim m [ ]
expr_says s pos (action.Between true) w f r here h = record { held = (expr.Between h.held.1.1.1.1.1.1.0 true h.held.1.1.0 h.held.0 h.held.1.1.1.0, h.held.1.1.1.1.1.1.1); waits = ap (expr_on (action.Between true)) h.waits; says = says-not_between-1 (text r h.held.1.1.1.1.1.1.1) h.held.1.1.1.1.1.1.0 h.held.1.1.1.0 h.held.1.1.0 h.held.0 ∙ h.says }
expr_says s pos (action.Between true) w f r (there m) h = elim m [ ]
expr_says s pos action.CountAll w f r here h = record { held = (expr.CountAll h.held.1.1.1.0, h.held.1.1.1.1.1); waits = ap (expr_on action.CountAll) h.waits; says = says-count_all-1 (text r h.held.1.1.1.1.1) h.held.1.1.1.0 ∙ h.says }
expr_says s pos action.CountAll w f r (there m) h = elim m [ ]
expr_says s pos (action.Aggregate g) w f r here h = record { held = (expr.Aggregate g h.held.1.0 h.held.1.1.1.0, h.held.1.1.1.1.1); waits = ap (expr_on (action.Aggregate g)) h.waits; says = says-aggregate-1 g (text r h.held.1.1.1.1.1) h.held.1.1.1.0 h.held.1.0 ∙ h.says }
expr_says s pos (action.Aggregate g) w f r (there m) h = elim m [ ]
expr_says s pos action.Coalesce w f r here h = record { held = (expr.Coalesce (h.held.1.0.0 ∷ h.held.1.0.1) h.held.1.1.1.0, h.held.1.1.1.1.1); waits = ap (expr_on action.Coalesce) h.waits; says = says-coalesce-1 (text r h.held.1.1.1.1.1) h.held.1.1.1.0 h.held.1.0 ∙ h.says }
expr_says s pos action.Coalesce w f r (there m) h = elim m [ ]
expr_says s pos action.Arms w f r here h = record { held = ([], h.held); waits = ap (expr_on action.Arms) h.waits; says = says-arms-1 (text r h.held) ∙ h.says }
expr_says s pos action.Arms w f r (there m) h = elim m [ ]
expr_says s pos action.Arm w f r here h = record { held = (h.held.1.1.1.1.0 ++ (record { condition = h.held.1.1.0; value = h.held.0 }) ∷ [], h.held.1.1.1.1.1); waits = ap (expr_on action.Arm) h.waits; says = says-arm-1 (text r h.held.1.1.1.1.1) h.held.1.1.1.1.0 h.held.1.1.0 h.held.0 ∙ h.says }
expr_says s pos action.Arm w f r (there m) h = elim m [ ]
expr_says s pos action.Case w f r here h = record { held = (expr.Case h.held.1.0 None h.held.1.1.0, h.held.1.1.1.1); waits = ap (expr_on action.Case) h.waits; says = says-case-1 (text r h.held.1.1.1.1) h.held.1.1.0 h.held.1.0 ∙ h.says }
expr_says s pos action.Case w f r (there m) h = elim m [ ]
expr_says s pos action.CaseElse w f r here h = record { held = (expr.Case h.held.1.1.1.0 (Some h.held.1.0) h.held.1.1.1.1.0, h.held.1.1.1.1.1.1); waits = ap (expr_on action.CaseElse) h.waits; says = says-case_else-1 (text r h.held.1.1.1.1.1.1) h.held.1.1.1.1.0 h.held.1.1.1.0 h.held.1.0 ∙ h.says }
expr_says s pos action.CaseElse w f r (there m) h = elim m [ ]

query_says : (s : Source) (pos : ℕ) (a : QueryAction) (w : Waiting) (f : Signature Kind) (r : List Kind) → Among f (query_stages a) → Has s pos w (takes f ++ r) → Has s pos (query_on s pos a w) (gives f ++ r)
query_says s pos query.Select w f r here h = record { held = (place_at s pos, h.held.1); waits = ap (query_on s pos query.Select) h.waits; says = says-select-1 s pos (text r h.held.1) ∙ h.says }
query_says s pos query.Select w f r (there m) h = elim m [ ]
query_says s pos query.Distinct w f r here h = record { held = ((true, h.held.1.0), h.held.1.1); waits = ap (query_on s pos query.Distinct) h.waits; says = says-distinct-1 (text r h.held.1.1) h.held.1.0 ∙ h.says }
query_says s pos query.Distinct w f r (there m) h = elim m [ ]
query_says s pos query.All w f r here h = record { held = ((h.held.1.0.0, h.held.1.0.1, (item.All (place_at s pos), [])), h.held.1.1); waits = ap (query_on s pos query.All) h.waits; says = says-all-1 s pos (text r h.held.1.1) h.held.1.0 ∙ h.says }
query_says s pos query.All w f r (there m) h = elim m [ ]
query_says s pos query.AllOf w f r here h = record { held = ((h.held.1.1.1.0.0, h.held.1.1.1.0.1, (item.AllOf h.held.1.1.0, [])), h.held.1.1.1.1); waits = ap (query_on s pos query.AllOf) h.waits; says = says-all_of-1 (text r h.held.1.1.1.1) h.held.1.1.1.0 h.held.1.1.0 ∙ h.says }
query_says s pos query.AllOf w f r (there here) h = record { held = ((h.held.1.1.1.1.0.0, h.held.1.1.1.1.0.1, (h.held.1.1.1.1.0.2.0, h.held.1.1.1.1.0.2.1 ++ item.AllOf h.held.1.1.0 ∷ [])), h.held.1.1.1.1.1); waits = ap (query_on s pos query.AllOf) h.waits; says = says-all_of-2 (text r h.held.1.1.1.1.1) h.held.1.1.1.1.0 h.held.1.1.0 ∙ h.says }
query_says s pos query.AllOf w f r (there (there m)) h = elim m [ ]
query_says s pos query.Item w f r here h = record { held = ((h.held.1.0.0, h.held.1.0.1, (item.Expr h.held.0 None, [])), h.held.1.1); waits = ap (query_on s pos query.Item) h.waits; says = says-item-1 (text r h.held.1.1) h.held.1.0 h.held.0 ∙ h.says }
query_says s pos query.Item w f r (there here) h = record { held = ((h.held.1.1.0.0, h.held.1.1.0.1, (h.held.1.1.0.2.0, h.held.1.1.0.2.1 ++ item.Expr h.held.0 None ∷ [])), h.held.1.1.1); waits = ap (query_on s pos query.Item) h.waits; says = says-item-2 (text r h.held.1.1.1) h.held.1.1.0 h.held.0 ∙ h.says }
query_says s pos query.Item w f r (there (there m)) h = elim m [ ]
query_says s pos query.ItemAs w f r here h = record { held = ((h.held.1.1.0.0, h.held.1.1.0.1, (item.Expr h.held.1.0 (Some h.held.0), [])), h.held.1.1.1); waits = ap (query_on s pos query.ItemAs) h.waits; says = says-item_as-1 (text r h.held.1.1.1) h.held.1.1.0 h.held.1.0 h.held.0 ∙ h.says }
query_says s pos query.ItemAs w f r (there here) h = record { held = ((h.held.1.1.1.0.0, h.held.1.1.1.0.1, (h.held.1.1.1.0.2.0, h.held.1.1.1.0.2.1 ++ item.Expr h.held.1.0 (Some h.held.0) ∷ [])), h.held.1.1.1.1); waits = ap (query_on s pos query.ItemAs) h.waits; says = says-item_as-2 (text r h.held.1.1.1.1) h.held.1.1.1.0 h.held.1.0 h.held.0 ∙ h.says }
query_says s pos query.ItemAs w f r (there (there m)) h = elim m [ ]
query_says s pos query.From w f r here h = record { held = (tt, ((h.held.1.1.1.0.0, h.held.1.1.1.0.1, h.held.1.1.1.0.2.0 ∷ h.held.1.1.1.0.2.1, (h.held.1.0, [])), h.held.1.1.1.1)); waits = ap (query_on s pos query.From) h.waits; says = says-from-1 (text r h.held.1.1.1.1) h.held.1.1.1.0 h.held.1.0 ∙ h.says }
query_says s pos query.From w f r (there here) h = record { held = (tt, ((h.held.1.1.1.0.0, h.held.1.1.1.0.1, h.held.1.1.1.0.2, (h.held.1.1.1.0.3.0, h.held.1.1.1.0.3.1 ++ h.held.1.0 ∷ [])), h.held.1.1.1.1)); waits = ap (query_on s pos query.From) h.waits; says = says-from-2 (text r h.held.1.1.1.1) h.held.1.1.1.0 h.held.1.0 ∙ h.says }
query_says s pos query.From w f r (there (there here)) h = record { held = ((h.held.1.1.0.0, h.held.1.1.0.1, h.held.1.1.0.2.0 ∷ h.held.1.1.0.2.1, (h.held.0, [])), h.held.1.1.1); waits = ap (query_on s pos query.From) h.waits; says = says-from-3 (text r h.held.1.1.1) h.held.1.1.0 h.held.0 ∙ h.says }
query_says s pos query.From w f r (there (there (there here))) h = record { held = ((h.held.1.1.0.0, h.held.1.1.0.1, h.held.1.1.0.2, (h.held.1.1.0.3.0, h.held.1.1.0.3.1 ++ h.held.0 ∷ [])), h.held.1.1.1); waits = ap (query_on s pos query.From) h.waits; says = says-from-4 (text r h.held.1.1.1) h.held.1.1.0 h.held.0 ∙ h.says }
query_says s pos query.From w f r (there (there (there (there m)))) h = elim m [ ]
query_says s pos query.Inner w f r here h = record { held = (Joined h.held.1.1.1.1.0 h.held.1.1.0 (Inner h.held.0), h.held.1.1.1.1.1); waits = ap (query_on s pos query.Inner) h.waits; says = says-inner-1 (text r h.held.1.1.1.1.1) h.held.1.1.1.1.0 h.held.1.1.0 h.held.0 ∙ h.says }
query_says s pos query.Inner w f r (there m) h = elim m [ ]
query_says s pos query.Left w f r here h = record { held = (Joined h.held.1.1.1.1.1.0 h.held.1.1.0 (Left h.held.0), h.held.1.1.1.1.1.1); waits = ap (query_on s pos query.Left) h.waits; says = says-left-1 (text r h.held.1.1.1.1.1.1) h.held.1.1.1.1.1.0 h.held.1.1.0 h.held.0 ∙ h.says }
query_says s pos query.Left w f r (there m) h = elim m [ ]
query_says s pos query.Cross w f r here h = record { held = (Joined h.held.1.1.1.0 h.held.0 Cross, h.held.1.1.1.1); waits = ap (query_on s pos query.Cross) h.waits; says = says-cross-1 (text r h.held.1.1.1.1) h.held.1.1.1.0 h.held.0 ∙ h.says }
query_says s pos query.Cross w f r (there m) h = elim m [ ]
query_says s pos query.Where w f r here h = record { held = ((h.held.1.1.0.0, h.held.1.1.0.1, h.held.1.1.0.2, h.held.1.1.0.3, Some h.held.0), h.held.1.1.1); waits = ap (query_on s pos query.Where) h.waits; says = says-where-1 (text r h.held.1.1.1) h.held.1.1.0 h.held.0 ∙ h.says }
query_says s pos query.Where w f r (there m) h = elim m [ ]
query_says s pos query.GroupKey w f r here h = record { held = ((h.held.1.1.1.0.0, h.held.1.1.1.0.1, h.held.1.1.1.0.2, h.held.1.1.1.0.3, h.held.1.1.1.0.4, (h.held.0, [])), h.held.1.1.1.1); waits = ap (query_on s pos query.GroupKey) h.waits; says = says-group_key-1 (text r h.held.1.1.1.1) h.held.1.1.1.0 h.held.0 ∙ h.says }
query_says s pos query.GroupKey w f r (there here) h = record { held = ((h.held.1.1.0.0, h.held.1.1.0.1, h.held.1.1.0.2, h.held.1.1.0.3, h.held.1.1.0.4, (h.held.1.1.0.5.0, h.held.1.1.0.5.1 ++ h.held.0 ∷ [])), h.held.1.1.1); waits = ap (query_on s pos query.GroupKey) h.waits; says = says-group_key-2 (text r h.held.1.1.1) h.held.1.1.0 h.held.0 ∙ h.says }
query_says s pos query.GroupKey w f r (there (there m)) h = elim m [ ]
query_says s pos query.Having w f r here h = record { held = (select_of h.held.1.1.0.0 h.held.1.1.0.1 h.held.1.1.0.2 h.held.1.1.0.3 h.held.1.1.0.4 h.held.1.1.0.5 (Some h.held.0), h.held.1.1.1); waits = ap (query_on s pos query.Having) h.waits; says = says-having-1 (text r h.held.1.1.1) h.held.1.1.0 h.held.0 ∙ h.says }
query_says s pos query.Having w f r (there m) h = elim m [ ]
query_says s pos query.Selects w f r here h = record { held = (set.Select h.held.0, h.held.1); waits = ap (query_on s pos query.Selects) h.waits; says = says-selects-1 (text r h.held.1) h.held.0 ∙ h.says }
query_says s pos query.Selects w f r (there m) h = elim m [ ]
query_says s pos (query.Union false) w f r here h = record { held = (set.Union h.held.1.1.0 false h.held.0, h.held.1.1.1); waits = ap (query_on s pos (query.Union false)) h.waits; says = says-union-1 (text r h.held.1.1.1) h.held.1.1.0 h.held.0 ∙ h.says }
query_says s pos (query.Union false) w f r (there m) h = elim m [ ]
query_says s pos (query.Union true) w f r here h = record { held = (set.Union h.held.1.1.1.0 true h.held.0, h.held.1.1.1.1); waits = ap (query_on s pos (query.Union true)) h.waits; says = says-union_all-1 (text r h.held.1.1.1.1) h.held.1.1.1.0 h.held.0 ∙ h.says }
query_says s pos (query.Union true) w f r (there m) h = elim m [ ]
query_says s pos query.Table w f r here h = record { held = (Named h.held.0 None, h.held.1); waits = ap (query_on s pos query.Table) h.waits; says = says-table-1 (text r h.held.1) h.held.0 ∙ h.says }
query_says s pos query.Table w f r (there m) h = elim m [ ]
query_says s pos query.TableAs w f r here h = record { held = (Named h.held.1.0 (Some h.held.0), h.held.1.1); waits = ap (query_on s pos query.TableAs) h.waits; says = says-table_as-1 (text r h.held.1.1) h.held.1.0 h.held.0 ∙ h.says }
query_says s pos query.TableAs w f r (there m) h = elim m [ ]
query_says s pos query.Derived w f r here h = record { held = (Derived h.held.1.1.0 h.held.0, h.held.1.1.1.1); waits = ap (query_on s pos query.Derived) h.waits; says = says-derived-1 (text r h.held.1.1.1.1) h.held.1.1.0 h.held.0 ∙ h.says }
query_says s pos query.Derived w f r (there m) h = elim m [ ]
query_says s pos query.Query w f r here h = record { held = (h.held.0, h.held.1); waits = ap (query_on s pos query.Query) h.waits; says = says-query-1 (text r h.held.1) h.held.0 ∙ h.says }
query_says s pos query.Query w f r (there m) h = elim m [ ]
query_says s pos (query.KeyName false) w f r here h = record { held = ((h.held.1.1.1.0, ((record { target = target.Name h.held.0; descending = false }), [])), h.held.1.1.1.1); waits = ap (query_on s pos (query.KeyName false)) h.waits; says = says-key_name-1 (text r h.held.1.1.1.1) h.held.1.1.1.0 h.held.0 ∙ h.says }
query_says s pos (query.KeyName false) w f r (there here) h = record { held = ((h.held.1.1.0.0, (h.held.1.1.0.1.0, h.held.1.1.0.1.1 ++ (record { target = target.Name h.held.0; descending = false }) ∷ [])), h.held.1.1.1); waits = ap (query_on s pos (query.KeyName false)) h.waits; says = says-key_name-2 (text r h.held.1.1.1) h.held.1.1.0 h.held.0 ∙ h.says }
query_says s pos (query.KeyName false) w f r (there (there m)) h = elim m [ ]
query_says s pos (query.KeyName true) w f r here h = record { held = ((h.held.1.1.1.1.0, ((record { target = target.Name h.held.1.0; descending = true }), [])), h.held.1.1.1.1.1); waits = ap (query_on s pos (query.KeyName true)) h.waits; says = says-key_name_down-1 (text r h.held.1.1.1.1.1) h.held.1.1.1.1.0 h.held.1.0 ∙ h.says }
query_says s pos (query.KeyName true) w f r (there here) h = record { held = ((h.held.1.1.1.0.0, (h.held.1.1.1.0.1.0, h.held.1.1.1.0.1.1 ++ (record { target = target.Name h.held.1.0; descending = true }) ∷ [])), h.held.1.1.1.1); waits = ap (query_on s pos (query.KeyName true)) h.waits; says = says-key_name_down-2 (text r h.held.1.1.1.1) h.held.1.1.1.0 h.held.1.0 ∙ h.says }
query_says s pos (query.KeyName true) w f r (there (there m)) h = elim m [ ]
query_says s pos (query.KeyNumber false) w f r here h = record { held = ((h.held.1.1.1.0, ((record { target = target.Number h.held.0; descending = false }), [])), h.held.1.1.1.1); waits = ap (query_on s pos (query.KeyNumber false)) h.waits; says = says-key_number-1 (text r h.held.1.1.1.1) h.held.1.1.1.0 h.held.0 ∙ h.says }
query_says s pos (query.KeyNumber false) w f r (there here) h = record { held = ((h.held.1.1.0.0, (h.held.1.1.0.1.0, h.held.1.1.0.1.1 ++ (record { target = target.Number h.held.0; descending = false }) ∷ [])), h.held.1.1.1); waits = ap (query_on s pos (query.KeyNumber false)) h.waits; says = says-key_number-2 (text r h.held.1.1.1) h.held.1.1.0 h.held.0 ∙ h.says }
query_says s pos (query.KeyNumber false) w f r (there (there m)) h = elim m [ ]
query_says s pos (query.KeyNumber true) w f r here h = record { held = ((h.held.1.1.1.1.0, ((record { target = target.Number h.held.1.0; descending = true }), [])), h.held.1.1.1.1.1); waits = ap (query_on s pos (query.KeyNumber true)) h.waits; says = says-key_number_down-1 (text r h.held.1.1.1.1.1) h.held.1.1.1.1.0 h.held.1.0 ∙ h.says }
query_says s pos (query.KeyNumber true) w f r (there here) h = record { held = ((h.held.1.1.1.0.0, (h.held.1.1.1.0.1.0, h.held.1.1.1.0.1.1 ++ (record { target = target.Number h.held.1.0; descending = true }) ∷ [])), h.held.1.1.1.1); waits = ap (query_on s pos (query.KeyNumber true)) h.waits; says = says-key_number_down-2 (text r h.held.1.1.1.1) h.held.1.1.1.0 h.held.1.0 ∙ h.says }
query_says s pos (query.KeyNumber true) w f r (there (there m)) h = elim m [ ]
query_says s pos query.Limit w f r here h = record { held = ((h.held.1.1.0.0, h.held.1.1.0.1, Some h.held.0), h.held.1.1.1); waits = ap (query_on s pos query.Limit) h.waits; says = says-limit-1 (text r h.held.1.1.1) h.held.1.1.0 h.held.0 ∙ h.says }
query_says s pos query.Limit w f r (there m) h = elim m [ ]
query_says s pos query.Offset w f r here h = record { held = (query_of h.held.1.1.0.0 h.held.1.1.0.1 h.held.1.1.0.2 (Some h.held.0), h.held.1.1.1); waits = ap (query_on s pos query.Offset) h.waits; says = says-offset-1 (text r h.held.1.1.1) h.held.1.1.0 h.held.0 ∙ h.says }
query_says s pos query.Offset w f r (there m) h = elim m [ ]

statement_says : (s : Source) (pos : ℕ) (a : StatementAction) (w : Waiting) (f : Signature Kind) (r : List Kind) → IsReady s (reads_of (act.Statement a)) pos → Among f (statement_stages a) → Has s pos w (takes f ++ r) → Has s pos (statement_on s pos a w) (gives f ++ r)
statement_says s pos statement.Query w f r y here h = record { held = (h.held.0, h.held.1); waits = ap (statement_on s pos statement.Query) h.waits; says = says-run-1 (text r h.held.1) h.held.0 ∙ h.says }
statement_says s pos statement.Query w f r y (there m) h = elim m [ ]
statement_says s pos _ w f r y m h = elim m [ ]

pub act_says : (s : Source) (pos : ℕ) (a : Action) (w : Waiting) (f : Signature Kind) (r : List Kind) → IsReady s (reads_of a) pos → Among f (action_stages a) → Has s pos w (takes f ++ r) → Has s pos (act_on s pos a w) (gives f ++ r)
act_says s pos act.Nothing w f r y m h = elim m [ ]
act_says s pos (act.Token a) w f r y m h = token_says s pos a w f r y m h
act_says s pos (act.Expr a) w f r y m h = expr_says s pos a w f r m h
act_says s pos (act.Query a) w f r y m h = query_says s pos a w f r m h
act_says s pos (act.Statement a) w f r y m h = statement_says s pos a w f r y m h
