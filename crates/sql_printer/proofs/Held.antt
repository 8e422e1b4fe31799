-- What stands before a place of a query's text: tokens, and parts of trees at their stages, the last one first. What waits in a
-- builder, and what the text says, are functions of it.
use Rattle.std.proofs.Common.{◌≡◌, ℕ, Bool, true, false, List, [], ◌∷◌, ◌++◌, ◌==◌, ◌&&◌, Option, Some, None, refl, ap, sym, ◌∙◌, subst}
use Rattle.std.specs.Prelude.{is_some}
use Rattle.std.proofs.lemmas.Bool.{eqb-true, eq-eqb, both_ways, and_parts}
use Rattle.sql_reader.specs.declared.tree.expr.Arm.{Arm}
use Rattle.sql_reader.specs.declared.tree.expr.Expr.{Expr}
use Rattle.sql_reader.specs.declared.tree.expr.Link.{Link}
use Rattle.sql_reader.specs.declared.tree.expr.Literal.{Literal}
use Rattle.sql_reader.specs.declared.tree.name.ColumnName.{ColumnName}
use Rattle.sql_reader.specs.declared.tree.name.Name.{Name}
use Rattle.sql_reader.specs.declared.tree.name.RelationName.{RelationName}
use Rattle.sql_reader.specs.declared.tree.query.Key.{Key}
use Rattle.sql_reader.specs.declared.tree.query.Query.{Query}
use Rattle.sql_reader.specs.declared.tree.query.Select.{Select}
use Rattle.sql_reader.specs.declared.tree.query.SelectItem.{SelectItem}
use Rattle.sql_reader.specs.declared.tree.query.SetQuery.{SetQuery}
use Rattle.sql_reader.specs.declared.tree.query.TableRef.{TableRef}
use Rattle.sql_reader.specs.declared.tree.statement.Statement.TheVariants as statement
use Rattle.sql_reader.specs.Waiting.{Waiting, none}
use Rattle.sql_printer.specs.Said.{Said, word, one}
use Rattle.grammar.proofs.Stages.{all_stand}
use Rattle.sql_printer.specs.Lists.{all, listed}
use Rattle.sql_printer.specs.Names.{name, relation, column, literal}
use Rattle.sql_printer.specs.Exprs.{expr, link, arm}
use Rattle.sql_printer.specs.Queries.{set, select, table, printed}

-- A word or sign, and a token that says a name or a constant, by their symbols; parts; the stages of a select, of which some have
-- one element or more of their last list; and those of a query.
pub data Kind : Type 0 where
  Word : ℕ → Kind
  Special : ℕ → Kind
  Place : Kind
  AName : Kind
  ALiteral : Kind
  AColumn : Kind
  ARelation : Kind
  AnExpr : Kind
  NoList : Kind
  AList : Kind
  Links : Kind
  Arms : Kind
  Begun : Kind
  Distinct : Kind
  Items : Kind
  SomeTables : Kind
  Tables : Kind
  Condition : Kind
  SomeGroup : Kind
  Group : Kind
  ASelect : Kind
  ASet : Kind
  ATable : Kind
  Unordered : Kind
  SomeKeys : Kind
  Keys : Kind
  Limited : Kind
  AQuery : Kind
  AStatement : Kind

-- one or more
abbrev pub Some1 : Type 0 → Type 0
Some1 A = A × List A

abbrev pub Part : Kind → Type 0
Part (Word n) = Unit {0}
Part (Special n) = Said
Part Place = ℕ
Part AName = Name
Part ALiteral = Literal
Part AColumn = ColumnName
Part ARelation = RelationName
Part AnExpr = Expr
Part NoList = Unit {0}
Part AList = Some1 Expr
Part Links = List Link
Part Arms = List Arm
Part Begun = ℕ
Part Distinct = Bool × ℕ
Part Items = Bool × ℕ × Some1 SelectItem
Part SomeTables = Bool × ℕ × List SelectItem × Some1 TableRef
Part Tables = Bool × ℕ × List SelectItem × List TableRef
Part Condition = Bool × ℕ × List SelectItem × List TableRef × Option Expr
Part SomeGroup = Bool × ℕ × List SelectItem × List TableRef × Option Expr × Some1 ColumnName
Part Group = Bool × ℕ × List SelectItem × List TableRef × Option Expr × List ColumnName
Part ASelect = Select
Part ASet = SetQuery
Part ATable = TableRef
Part Unordered = SetQuery
Part SomeKeys = SetQuery × Some1 Key
Part Keys = SetQuery × List Key
Part Limited = SetQuery × List Key × Option Literal
Part AQuery = Query
Part AStatement = Query

abbrev pub select_of : Bool → ℕ → List SelectItem → List TableRef → Option Expr → List ColumnName → Option Expr → Select
select_of d at is ts c g h = record { distinct = d; items = is; from = ts; condition = c; group = g; having = h; at = at }

abbrev pub query_of : SetQuery → List Key → Option Literal → Option Literal → Query
query_of s ks l o = record { set = s; keys = ks; limit = l; offset = o }

-- how a part stands among those that wait
abbrev pub push : (k : Kind) → Part k → Waiting → Waiting
push (Word n) x w = w
push (Special n) x w = w
push Place x w = record w { places = x ∷ w.places }
push AName x w = record w { names = x ∷ w.names }
push ALiteral x w = record w { literals = x ∷ w.literals }
push AColumn x w = record w { columns = x ∷ w.columns }
push ARelation x w = record w { relations = x ∷ w.relations }
push AnExpr x w = record w { exprs = x ∷ w.exprs }
push NoList x w = record w { lists = [] ∷ w.lists }
push AList x w = record w { lists = (x.0 ∷ x.1) ∷ w.lists }
push Links x w = record w { links = x ∷ w.links }
push Arms x w = record w { arms = x ∷ w.arms }
push Begun x w = record w { selects = select_of false x [] [] None [] None ∷ w.selects }
push Distinct x w = record w { selects = select_of x.0 x.1 [] [] None [] None ∷ w.selects }
push Items x w = record w { selects = select_of x.0 x.1 (x.2.0 ∷ x.2.1) [] None [] None ∷ w.selects }
push SomeTables x w = record w { selects = select_of x.0 x.1 x.2 (x.3.0 ∷ x.3.1) None [] None ∷ w.selects }
push Tables x w = record w { selects = select_of x.0 x.1 x.2 x.3 None [] None ∷ w.selects }
push Condition x w = record w { selects = select_of x.0 x.1 x.2 x.3 x.4 [] None ∷ w.selects }
push SomeGroup x w = record w { selects = select_of x.0 x.1 x.2 x.3 x.4 (x.5.0 ∷ x.5.1) None ∷ w.selects }
push Group x w = record w { selects = select_of x.0 x.1 x.2 x.3 x.4 x.5 None ∷ w.selects }
push ASelect x w = record w { selects = x ∷ w.selects }
push ASet x w = record w { sets = x ∷ w.sets }
push ATable x w = record w { tables = x ∷ w.tables }
push Unordered x w = record w { queries = query_of x [] None None ∷ w.queries }
push SomeKeys x w = record w { queries = query_of x.0 (x.1.0 ∷ x.1.1) None None ∷ w.queries }
push Keys x w = record w { queries = query_of x.0 x.1 None None ∷ w.queries }
push Limited x w = record w { queries = query_of x.0 x.1 x.2 None ∷ w.queries }
push AQuery x w = record w { queries = x ∷ w.queries }
push AStatement x w = record w { statements = statement.Query x ∷ w.statements }

-- what a token or a part says
abbrev pub said : (k : Kind) → Part k → List Said
said (Word n) x = word n
said (Special n) x = one x
said Place x = []
said AName x = name x
said ALiteral x = literal x
said AColumn x = column x
said ARelation x = relation x
said AnExpr x = expr x
said NoList x = []
said AList x = listed [] expr (x.0 ∷ x.1)
said Links x = all link x
said Arms x = all arm x
said Begun x = select (select_of false x [] [] None [] None)
said Distinct x = select (select_of x.0 x.1 [] [] None [] None)
said Items x = select (select_of x.0 x.1 (x.2.0 ∷ x.2.1) [] None [] None)
said SomeTables x = select (select_of x.0 x.1 x.2 (x.3.0 ∷ x.3.1) None [] None)
said Tables x = select (select_of x.0 x.1 x.2 x.3 None [] None)
said Condition x = select (select_of x.0 x.1 x.2 x.3 x.4 [] None)
said SomeGroup x = select (select_of x.0 x.1 x.2 x.3 x.4 (x.5.0 ∷ x.5.1) None)
said Group x = select (select_of x.0 x.1 x.2 x.3 x.4 x.5 None)
said ASelect x = select x
said ASet x = set x
said ATable x = table x
said Unordered x = printed (query_of x [] None None)
said SomeKeys x = printed (query_of x.0 (x.1.0 ∷ x.1.1) None None)
said Keys x = printed (query_of x.0 x.1 None None)
said Limited x = printed (query_of x.0 x.1 x.2 None)
said AQuery x = printed x
said AStatement x = printed x

abbrev pub Held : List Kind → Type 0
Held [] = Unit {0}
Held (k ∷ ks) = Part k × Held ks

abbrev pub waiting : (ks : List Kind) → Held ks → Waiting
waiting [] h = none
waiting (k ∷ ks) h = push k h.0 (waiting ks h.1)

abbrev pub text : (ks : List Kind) → Held ks → List Said
text [] h = []
text (k ∷ ks) h = text ks h.1 ++ said k h.0

-- how a part of one stage is one of another
pub record Path (a b : Kind) : Type 0 where
  pub go : Part a → Part b
  pub same_push : (x : Part a) (w : Waiting) → push b (go x) w ≡ push a x w
  pub same_said : (x : Part a) → said b (go x) ≡ said a x

abbrev itself : (k : Kind) → Option (Path k k)
itself k = Some (record { go = λ x. x; same_push = λ x w. refl; same_said = λ x. refl })

abbrev same_word : (n m : ℕ) (b : Bool) → n == m ≡ b → Option (Path (Word n) (Word m))
same_word n m true e = Some (record { go = λ x. x; same_push = λ x w. refl; same_said = λ x. ap word (sym (eqb-true n m e)) })
same_word n m false e = None

abbrev same_special : (n m : ℕ) (b : Bool) → n == m ≡ b → Option (Path (Special n) (Special m))
same_special n m true e = Some (record { go = λ x. x; same_push = λ x w. refl; same_said = λ x. refl })
same_special n m false e = None

abbrev path : (a b : Kind) → Option (Path a b)
path (Word n) (Word m) = same_word n m (n == m) refl
path (Special n) (Special m) = same_special n m (n == m) refl
path Place Place = itself Place
path AName AName = itself AName
path ALiteral ALiteral = itself ALiteral
path AColumn AColumn = itself AColumn
path ARelation ARelation = itself ARelation
path AnExpr AnExpr = itself AnExpr
path NoList NoList = itself NoList
path AList AList = itself AList
path Links Links = itself Links
path Arms Arms = itself Arms
path Begun Begun = itself Begun
path Distinct Distinct = itself Distinct
path Items Items = itself Items
path SomeTables SomeTables = itself SomeTables
path Tables Tables = itself Tables
path Condition Condition = itself Condition
path SomeGroup SomeGroup = itself SomeGroup
path Group Group = itself Group
path ASelect ASelect = itself ASelect
path ASet ASet = itself ASet
path ATable ATable = itself ATable
path Unordered Unordered = itself Unordered
path SomeKeys SomeKeys = itself SomeKeys
path Keys Keys = itself Keys
path Limited Limited = itself Limited
path AQuery AQuery = itself AQuery
path AStatement AStatement = itself AStatement
path Begun Distinct = Some (record { go = λ x. (false, x); same_push = λ x w. refl; same_said = λ x. refl })
path Items Tables = Some (record { go = λ x. (x.0, x.1, x.2.0 ∷ x.2.1, []); same_push = λ x w. refl; same_said = λ x. refl })
path Items Condition = Some (record { go = λ x. (x.0, x.1, x.2.0 ∷ x.2.1, [], None); same_push = λ x w. refl; same_said = λ x. refl })
path Items Group = Some (record { go = λ x. (x.0, x.1, x.2.0 ∷ x.2.1, [], None, []); same_push = λ x w. refl; same_said = λ x. refl })
path Items ASelect = Some (record { go = λ x. select_of x.0 x.1 (x.2.0 ∷ x.2.1) [] None [] None; same_push = λ x w. refl; same_said = λ x. refl })
path SomeTables Tables = Some (record { go = λ x. (x.0, x.1, x.2, x.3.0 ∷ x.3.1); same_push = λ x w. refl; same_said = λ x. refl })
path SomeTables Condition = Some (record { go = λ x. (x.0, x.1, x.2, x.3.0 ∷ x.3.1, None); same_push = λ x w. refl; same_said = λ x. refl })
path SomeTables Group = Some (record { go = λ x. (x.0, x.1, x.2, x.3.0 ∷ x.3.1, None, []); same_push = λ x w. refl; same_said = λ x. refl })
path SomeTables ASelect = Some (record { go = λ x. select_of x.0 x.1 x.2 (x.3.0 ∷ x.3.1) None [] None; same_push = λ x w. refl; same_said = λ x. refl })
path Tables Condition = Some (record { go = λ x. (x.0, x.1, x.2, x.3, None); same_push = λ x w. refl; same_said = λ x. refl })
path Tables Group = Some (record { go = λ x. (x.0, x.1, x.2, x.3, None, []); same_push = λ x w. refl; same_said = λ x. refl })
path Tables ASelect = Some (record { go = λ x. select_of x.0 x.1 x.2 x.3 None [] None; same_push = λ x w. refl; same_said = λ x. refl })
path Condition Group = Some (record { go = λ x. (x.0, x.1, x.2, x.3, x.4, []); same_push = λ x w. refl; same_said = λ x. refl })
path Condition ASelect = Some (record { go = λ x. select_of x.0 x.1 x.2 x.3 x.4 [] None; same_push = λ x w. refl; same_said = λ x. refl })
path SomeGroup Group = Some (record { go = λ x. (x.0, x.1, x.2, x.3, x.4, x.5.0 ∷ x.5.1); same_push = λ x w. refl; same_said = λ x. refl })
path SomeGroup ASelect = Some (record { go = λ x. select_of x.0 x.1 x.2 x.3 x.4 (x.5.0 ∷ x.5.1) None; same_push = λ x w. refl; same_said = λ x. refl })
path Group ASelect = Some (record { go = λ x. select_of x.0 x.1 x.2 x.3 x.4 x.5 None; same_push = λ x w. refl; same_said = λ x. refl })
path Unordered Keys = Some (record { go = λ x. (x, []); same_push = λ x w. refl; same_said = λ x. refl })
path Unordered Limited = Some (record { go = λ x. (x, [], None); same_push = λ x w. refl; same_said = λ x. refl })
path Unordered AQuery = Some (record { go = λ x. query_of x [] None None; same_push = λ x w. refl; same_said = λ x. refl })
path SomeKeys Keys = Some (record { go = λ x. (x.0, x.1.0 ∷ x.1.1); same_push = λ x w. refl; same_said = λ x. refl })
path SomeKeys Limited = Some (record { go = λ x. (x.0, x.1.0 ∷ x.1.1, None); same_push = λ x w. refl; same_said = λ x. refl })
path SomeKeys AQuery = Some (record { go = λ x. query_of x.0 (x.1.0 ∷ x.1.1) None None; same_push = λ x w. refl; same_said = λ x. refl })
path Keys Limited = Some (record { go = λ x. (x.0, x.1, None); same_push = λ x w. refl; same_said = λ x. refl })
path Keys AQuery = Some (record { go = λ x. query_of x.0 x.1 None None; same_push = λ x w. refl; same_said = λ x. refl })
path Limited AQuery = Some (record { go = λ x. query_of x.0 x.1 x.2 None; same_push = λ x w. refl; same_said = λ x. refl })
path a b = None

-- whether a part of one stage may stand for one of another
abbrev pub stands : Kind → Kind → Bool
stands a b = is_some (path a b)

word_stands : (n : ℕ) (b : Bool) (e : n == n ≡ b) → is_some (same_word n n b e) ≡ true
word_stands n true e = refl
word_stands n false e = absurd (both_ways (n == n) e (eq-eqb n n refl))

special_stands : (n : ℕ) (b : Bool) (e : n == n ≡ b) → is_some (same_special n n b e) ≡ true
special_stands n true e = refl
special_stands n false e = absurd (both_ways (n == n) e (eq-eqb n n refl))

pub stands_itself : (k : Kind) → stands k k ≡ true
stands_itself (Word n) = word_stands n (n == n) refl
stands_itself (Special n) = special_stands n (n == n) refl
stands_itself Place = refl
stands_itself AName = refl
stands_itself ALiteral = refl
stands_itself AColumn = refl
stands_itself ARelation = refl
stands_itself AnExpr = refl
stands_itself NoList = refl
stands_itself AList = refl
stands_itself Links = refl
stands_itself Arms = refl
stands_itself Begun = refl
stands_itself Distinct = refl
stands_itself Items = refl
stands_itself SomeTables = refl
stands_itself Tables = refl
stands_itself Condition = refl
stands_itself SomeGroup = refl
stands_itself Group = refl
stands_itself ASelect = refl
stands_itself ASet = refl
stands_itself ATable = refl
stands_itself Unordered = refl
stands_itself SomeKeys = refl
stands_itself Keys = refl
stands_itself Limited = refl
stands_itself AQuery = refl
stands_itself AStatement = refl

found : {A : Type 0} (o : Option A) → is_some o ≡ true → A
found None h = absurd cc
found (Some x) h = x

pub path_of : (a b : Kind) → stands a b ≡ true → Path a b
path_of a b h = found (path a b) h

-- the same of all parts in turn
pub record Lifted (ks js : List Kind) (h : Held ks) : Type 0 where
  pub held : Held js
  pub same_waiting : waiting js held ≡ waiting ks h
  pub same_text : text js held ≡ text ks h

pub lifted : (ks js : List Kind) → all_stand stands ks js ≡ true → (h : Held ks) → Lifted ks js h
lifted [] [] e h = record { held = h; same_waiting = refl; same_text = refl }
lifted [] (b ∷ js) e h = absurd cc
lifted (a ∷ ks) [] e h = absurd cc
lifted (a ∷ ks) (b ∷ js) e h =
    let p = and_parts (stands a b) (all_stand stands ks js) e in
    let q = path_of a b p.0 in
    let l = lifted ks js p.1 h.1 in
    record {
      held = (q.go h.0, l.held);
      same_waiting = ap (push b (q.go h.0)) l.same_waiting ∙ q.same_push h.0 (waiting ks h.1);
      same_text = ap (λ x. x ++ said b (q.go h.0)) l.same_text ∙ ap (λ x. text ks h.1 ++ x) (q.same_said h.0);
    }
