-- The actions of a sentence leave one tree.
use Rattle.std.proofs.Common.{ℕ, suc, List, [], ◌∷◌, ◌++◌, ◌≡◌, ◌+◌, length, take, refl, sym, ap, subst, ◌∙◌, arith}
use Rattle.std.specs.Prelude.{reverse}
use Rattle.std.proofs.lemmas.List.{reverse-append}
use Rattle.grammar.specs.Reading.{IsSentence, IsReading, IsFront}
use Rattle.grammar.specs.declared.reader.Front.{Front}
use Rattle.grammar.specs.declared.machine.Event.{Event}
use Rattle.sql_tokens.specs.declared.token.Token.{Token}
use Rattle.sql_reader.specs.declared.tree.query.Query.{Query}
use Rattle.sql_reader.specs.declared.tree.statement.Statement.{Statement}
use Rattle.sql_reader.specs.Build.{build}
use Rattle.sql_reader.specs.Source.{Source}
use Rattle.sql_reader.specs.Symbols.{STATEMENT_RULE, SET_ONLY_RULE}
use Rattle.sql_reader.specs.Table.{table}
use Rattle.sql_tokens.specs.Tokens.{tokens_from}
use Rattle.sql_reader.specs.Trees.{Builds, IsFrontOf, IsFrontSet, IsStatement, OneStatementBuilt, OneQueryBuilt, kinds, part_of}
use Rattle.sql_reader.specs.Waiting.{Waiting, none}
use Rattle.grammar.proofs.Moves.{end, next}
use Rattle.sql_reader.proofs.Moves.{typed}
use Rattle.sql_reader.proofs.Waits.{Has}

one : {A : Type 0} (xs : List A) → length xs ≡ 1 → (x : A) × (xs ≡ x ∷ [])
one [] h = absurd (omega arith)
one (x ∷ []) h = (x, refl)
one (x ∷ y ∷ xs) h = absurd (omega arith)

empty : {A : Type 0} (xs : List A) → length xs ≡ 0 → xs ≡ []
empty [] h = refl
empty (x ∷ xs) h = absurd (omega arith)

nothing_waits : Has none []
nothing_waits = record { places = refl; names = refl; literals = refl; columns = refl; relations = refl; exprs = refl; lists = refl; links = refl; arms = refl; selects = refl; sets = refl; tables = refl; queries = refl; name_lists = refl; assignments = refl; statements = refl }

-- one statement waits
alone : (w : Waiting) (tree : Statement) → w.statements ≡ tree ∷ [] → Has w (15 ∷ []) → w ≡ record none { statements = tree ∷ [] }
alone w tree is h =
    let e : record { places = w.places; names = w.names; literals = w.literals; columns = w.columns; relations = w.relations; exprs = w.exprs; lists = w.lists; links = w.links; arms = w.arms; selects = w.selects; sets = w.sets; tables = w.tables; queries = w.queries; name_lists = w.name_lists; assignments = w.assignments; statements = w.statements } ≡ record none { statements = tree ∷ [] } = rw (empty w.places h.places, empty w.names h.names, empty w.literals h.literals, empty w.columns h.columns, empty w.relations h.relations, empty w.exprs h.exprs, empty w.lists h.lists, empty w.links h.links, empty w.arms h.arms, empty w.selects h.selects, empty w.sets h.sets, empty w.tables h.tables, empty w.queries h.queries, empty w.name_lists h.name_lists, empty w.assignments h.assignments, is) refl in
    e

left : (w : Waiting) → Has w (15 ∷ []) → (tree : Statement) × (w ≡ record none { statements = tree ∷ [] })
left w h = let s = one w.statements h.statements in (s.0, alone w s.0 s.1 h)

pub one_statement_built : OneStatementBuilt
one_statement_built s kinds log d = left (build s log none) (typed s d none (next [] refl end) nothing_waits)

-- one query waits
alone_query : (w : Waiting) (tree : Query) → w.queries ≡ tree ∷ [] → Has w (12 ∷ []) → w ≡ record none { queries = tree ∷ [] }
alone_query w tree is h =
    let e : record { places = w.places; names = w.names; literals = w.literals; columns = w.columns; relations = w.relations; exprs = w.exprs; lists = w.lists; links = w.links; arms = w.arms; selects = w.selects; sets = w.sets; tables = w.tables; queries = w.queries; name_lists = w.name_lists; assignments = w.assignments; statements = w.statements } ≡ record none { queries = tree ∷ [] } = rw (empty w.places h.places, empty w.names h.names, empty w.literals h.literals, empty w.columns h.columns, empty w.relations h.relations, empty w.exprs h.exprs, empty w.lists h.lists, empty w.links h.links, empty w.arms h.arms, empty w.selects h.selects, empty w.sets h.sets, empty w.tables h.tables, empty w.name_lists h.name_lists, empty w.assignments h.assignments, empty w.statements h.statements, is) refl in
    e

left_query : (w : Waiting) → Has w (12 ∷ []) → (tree : Query) × (w ≡ record none { queries = tree ∷ [] })
left_query w h = let s = one w.queries h.queries in (s.0, alone_query w s.0 s.1 h)

pub one_query_built : OneQueryBuilt
one_query_built s kinds log d = left_query (build s log none) (typed s d none (next [] refl end) nothing_waits)

-- what is left of a reading's parts
tree_left : (s : Source) (w : Waiting) → Builds s STATEMENT_RULE w → (tree : Statement) × (w ≡ record none { statements = tree ∷ [] })
tree_left s w b = let t = one_statement_built s (kinds s) b.0 b.1.sentence in (t.0, b.2 ∙ t.1)

last_is : {A : Type 0} (xs ys : List A) (x y : A) → reverse xs ≡ x ∷ [] → xs ≡ ys ++ y ∷ [] → x ≡ y
last_is xs ys x y e f = let h : x ∷ [] ≡ y ∷ reverse ys = sym e ∙ ap reverse f ∙ reverse-append ys (y ∷ []) in cc

-- some statement is left
pub not_none : (s : Source) (w : Waiting) (xs : List Statement) (n : ℕ) → Builds s STATEMENT_RULE w → w.statements ≡ reverse xs → n ≡ length xs → n ≡ 0 → ⊥
not_none s w xs n b r len zero =
    let t = tree_left s w b in
    let h : t.0 ∷ [] ≡ [] = sym (ap (λ (v : Waiting). v.statements) t.1) ∙ r ∙ ap reverse (empty xs (sym len ∙ zero)) in
    cc

-- and it is the text's
pub is_statement : (text : List ℕ) (tokens : List Token) (w : Waiting) (xs ys : List Statement) (y : Statement) → tokens ≡ tokens_from 0 text
    → Builds (record { text = text; tokens = tokens }) STATEMENT_RULE w → w.statements ≡ reverse xs → xs ≡ ys ++ y ∷ [] → IsStatement text y
is_statement text tokens w xs ys y e b r i =
    let s : Source = record { text = text; tokens = tokens } in
    let t = tree_left s w b in
    let l = last_is xs ys t.0 y (sym r ∙ ap (λ (v : Waiting). v.statements) t.1) i in
    let built : record none { statements = y ∷ [] } ≡ build s b.0 none = sym (ap (λ (x : Statement). let v : Waiting = record none { statements = x ∷ [] } in v) l) ∙ sym t.1 ∙ b.2 in
    subst (λ (ts : List Token). Builds (record { text = text; tokens = ts }) STATEMENT_RULE (record none { statements = y ∷ [] })) e (b.0, b.1, built)

-- what is left of a query's parts
query_left : (s : Source) (ks : List ℕ) (log : List Event) (w : Waiting) → IsReading table SET_ONLY_RULE ks log → w ≡ build s log none
    → (tree : Query) × (w ≡ record none { queries = tree ∷ [] })
query_left s ks log w r e = let t = one_query_built s ks log r.sentence in (t.0, e ∙ t.1)

-- some query is left
pub not_no_query : (s : Source) (ks : List ℕ) (log : List Event) (w : Waiting) (xs : List Query) (n : ℕ) → IsReading table SET_ONLY_RULE ks log → w ≡ build s log none
    → w.queries ≡ reverse xs → n ≡ length xs → n ≡ 0 → ⊥
not_no_query s ks log w xs n b e r len zero =
    let t = query_left s ks log w b e in
    let h : t.0 ∷ [] ≡ [] = sym (ap (λ (v : Waiting). v.queries) t.1) ∙ r ∙ ap reverse (empty xs (sym len ∙ zero)) in
    cc

-- and it is that of the tokens' longest front
pub is_front_set : (s part : Source) (from until : ℕ) (front : Front) (w : Waiting) (xs ys : List Query) (y : Query) (after : ℕ) → part ≡ part_of s from until
    → IsFrontOf part front → w ≡ build part front.log.items none → w.queries ≡ reverse xs → xs ≡ ys ++ y ∷ [] → after ≡ from + front.next
    → IsFrontSet s from until (record { query = y; next = after })
is_front_set s part from until front w xs ys y after p b e r i n =
    let t = query_left part (take front.next (kinds part)) front.log.items w b.reading e in
    let l = last_is xs ys t.0 y (sym r ∙ ap (λ (v : Waiting). v.queries) t.1) i in
    let built : build part front.log.items none ≡ record none { queries = y ∷ [] } = sym e ∙ t.1 ∙ ap (λ (x : Query). let v : Waiting = record none { queries = x ∷ [] } in v) l in
    record {
      front = front;
      is = subst (λ (q : Source). IsFrontOf q front) p b;
      built = subst (λ (q : Source). build q front.log.items none ≡ record none { queries = y ∷ [] }) p built;
      next = n;
    }
