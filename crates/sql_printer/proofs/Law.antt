-- The text of a query that was read is a statement, which is that query but for places: where what is printed is read as tokens
-- that say the same.
use Rattle.std.proofs.Common.{◌≡◌, ◌∙◌, ◌⊎◌, inl, inr, ℕ, zero, suc, Bool, true, false, List, [], ◌∷◌, ◌++◌, ◌+◌, ◌==◌, Option, Some, None, refl, ap, sym, subst, map, arith, if◌then◌else◌}
use Rattle.std.specs.Prelude.{slice_index_or, not, ◌&&◌, nat_le}
use Rattle.std.specs.List.{list_all}
use Rattle.std.proofs.lemmas.Bool.{and_parts, and_from, not-true, eq-eqb, both_ways}
use Rattle.grammar.specs.Derivation.{Among, here, there, has, Derives, choose}
use Rattle.grammar.specs.declared.machine.Event.{Event}
use Rattle.grammar.specs.declared.table.Item.{Item}
use Rattle.grammar.specs.Limits.{children}
use Rattle.grammar.specs.Order.{is_up_to}
use Rattle.grammar.specs.Predictive.{first_of}
use Rattle.grammar.specs.Reading.{IsSentence, IsReading, start_of}
use Rattle.grammar.specs.Table.{Rules, Shape, Token, Action, Unless, Choice, rule_of}
use Rattle.grammar.specs.Weights.{is_solid}
use Rattle.grammar.proofs.Elements.{each_passes}
use Rattle.grammar.proofs.Inversion.{by_choice}
use Rattle.grammar.proofs.Logs.{up_itself}
use Rattle.sql_tokens.specs.declared.token.Token.{Token as AToken}
use Rattle.sql_tokens.specs.Tokens.{tokens_from}
use Rattle.sql_reader.specs.declared.tree.query.Query.{Query}
use Rattle.sql_reader.specs.declared.tree.statement.Statement.{Statement}
use Rattle.sql_reader.specs.declared.tree.statement.Statement.TheVariants as statement
use Rattle.sql_reader.specs.Build.{action_of, build}
use Rattle.sql_reader.specs.Kinds.{kinds_of}
use Rattle.sql_reader.specs.Source.{Source}
use Rattle.sql_reader.specs.Symbols as symbol
use Rattle.sql_reader.specs.Table.{table, same}
use Rattle.sql_reader.specs.Trees.{source_of, kinds, IsStatement}
use Rattle.sql_reader.specs.Waiting.{Waiting, none}
use Rattle.sql_reader.proofs.Built.{one_statement_built}
use Rattle.sql_reader.proofs.FirstFollow.{certificate}
use Rattle.sql_reader.proofs.OneLog.{statement_log}
use Rattle.sql_printer.specs.Bare.{bare}
use Rattle.sql_printer.specs.Laws.{PrintedIsRead}
use Rattle.sql_printer.specs.Queries.{printed}
use Rattle.sql_printer.specs.Said.{Said}
use Rattle.sql_printer.specs.Spelled.{spelled}
use Rattle.grammar.proofs.Behind.{start_symbol, AllBehind, Placed, placed, placed_children, all_placed, all_behind, reads_well, is_last}
use Rattle.grammar.proofs.Tested.{tokens_pass, all_pass}
use Rattle.sql_printer.proofs.OnlyQueries.{is_query, is_other, NoneIs, none_built}
use Rattle.grammar.proofs.Quiet.{quiet, moved, without, all_quiet, Good}
use Rattle.sql_printer.proofs.QuerySays as says
use Rattle.sql_printer.proofs.SameBuild as built
use Rattle.sql_printer.proofs.SameTrees.{SameBut, query_of}
use Rattle.sql_printer.proofs.Saying.{names, silent, kind, all_said, loud, AllSame, SaidIsRead}
use Rattle.sql_printer.proofs.TokensSaid.{reads_of}

-- the symbols of queries: no other statements, and not the word TRANSACTION, which may stand as a name
abbrev occurs : ℕ → Bool
occurs n = not (n == symbol.TRANSACTION) && not (nat_le symbol.STATEMENT_RULE n && nat_le n symbol.ARGUMENTS_RULE)

-- rules that begin with a token, and with no silent one
abbrev is_known : ℕ → Bool
is_known n = is_solid (rule_of table n) && list_all (λ k. not (silent k)) (first_of certificate n)

queries_quiet : all_quiet silent names symbol.NAME table is_known occurs 0 table ≡ true
queries_quiet = refl

abbrev reads : ℕ → Option (List ℕ)
reads n = reads_of (action_of n)

queries_placed : all_placed table reads occurs 0 table ≡ true
queries_placed = refl

-- no rule but that of statements makes a query a statement

abbrev no_statement : ℕ → Bool
no_statement n = not (n == symbol.STATEMENT_RULE)

abbrev never : Bool → Option (List ℕ)
never true = Some []
never false = None

abbrev makes : ℕ → Option (List ℕ)
makes n = never (is_query (action_of n))

makes_placed : all_placed table makes no_statement 0 table ≡ true
makes_placed = refl

abbrev a_query : List Item
a_query = same symbol.QUERY_RULE ∷ same symbol.RUN_ACTION ∷ []

abbrev alternatives_of : Shape → List (List Item)
alternatives_of (Token ks) = []
alternatives_of Action = []
alternatives_of (Unless ks) = []
alternatives_of (Choice w s r ps) = ps

abbrev tail_of : List (List Item) → List (List Item)
tail_of [] = []
tail_of (p ∷ ps) = ps

abbrev others : List (List Item)
others = tail_of (alternatives_of (rule_of table symbol.STATEMENT_RULE))

others_placed : list_all (placed table makes no_statement None) others ≡ true
others_placed = refl

first_or : (test : List Item → Bool) (p q : List Item) (rest : List (List Item)) → Among p (q ∷ rest) → list_all test rest ≡ true → (p ≡ q) ⊎ (test p ≡ true)
first_or test p q rest here h = inl refl
first_or test p q rest (there m) h = inr (each_passes test p rest m h)

nothing_last : (ks : List ℕ) (n : ℕ) → is_last [] ks n ≡ true → ⊥
nothing_last ks zero h = cc
nothing_last [] (suc n) h = cc
nothing_last (k ∷ ks) (suc zero) h = cc
nothing_last (k ∷ ks) (suc (suc n)) h = nothing_last ks (suc n) h

none_is : (ks : List ℕ) (log : List Event) → AllBehind table makes no_statement ks log → NoneIs log
none_is ks [] h = tt
none_is ks (e ∷ es) h = (at (is_query (action_of e.action)) h.0, none_is ks es h.1)
  where
    at : (b : Bool) → reads_well (never b) ks e.at ≡ true → b ≡ false
    at true h = absurd (nothing_last ks e.at h)
    at false h = refl

other_built : (s : Source) (log : List Event) (q : Query) → NoneIs log → build s log none ≡ record none { statements = statement.Query q ∷ [] } → ⊥
other_built s log q y b =
    let o = none_built s log none y refl in
    let is : (build s log none).statements ≡ statement.Query q ∷ [] = ap (λ (w : Waiting). w.statements) b in
    let z : list_all is_other (statement.Query q ∷ []) ≡ true = subst (λ (xs : List Statement). list_all is_other xs ≡ true) is o in
    cc

by_query : (s : Source) (log : List Event) (q : Query) (p : List Item) → Among p (a_query ∷ others) → Derives table 0 (children (start_symbol symbol.STATEMENT_RULE) p ++ []) log (kinds s) []
    → build s log none ≡ record none { statements = statement.Query q ∷ [] } → p ≡ a_query
by_query s log q p m d b = elim (first_or (placed table makes no_statement None) p a_query others m others_placed) [
  | inl e ↦ e
  | inr h ↦ absurd (other_built s log q
      (none_is (kinds s) log (all_behind table makes no_statement makes_placed d refl None (placed_children table makes no_statement (start_symbol symbol.STATEMENT_RULE) None p [] h tt) [] tt refl)) b)
]

-- no token stands nowhere

abbrev stands : ℕ → Bool
stands k = not (k == symbol.NOWHERE)

table_stands : tokens_pass table stands table ≡ true
table_stands = refl

somewhere : (s : Source) (ts : List AToken) (t : AToken) → list_all stands (kinds_of s.text ts) ≡ true → Among t ts → kind s t ≡ symbol.NOWHERE → ⊥
somewhere s [] t h m e = elim m [ ]
somewhere s (u ∷ us) t h here e =
    let p = and_parts (stands (kind s u)) (list_all stands (kinds_of s.text us)) h in
    both_ways (kind s u == symbol.NOWHERE) (not-true (kind s u == symbol.NOWHERE) p.0) (eq-eqb (kind s u) symbol.NOWHERE e)
somewhere s (u ∷ us) t h (there m) e = somewhere s us t (and_parts (stands (kind s u)) (list_all stands (kinds_of s.text us)) h).1 m e

first_or_other : {A : Type 0} (x y : A) (ys : List A) → Among x (y ∷ ys) → (x ≡ y) ⊎ Among x ys
first_or_other x y ys here = inl refl
first_or_other x y ys (there m) = inr m

among_loud : (s : Source) (ts : List AToken) (t : AToken) → Among t (loud s ts) → Among t ts
among_loud s [] t m = elim m [ ]
among_loud s (u ∷ us) t m = at (silent (kind s u)) (among_loud s us t) m
  where
    at : (b : Bool) → (Among t (loud s us) → Among t us) → Among t (if b then loud s us else u ∷ loud s us) → Among t (u ∷ us)
    at true f m = there (f m)
    at false f m = elim (first_or_other t u (loud s us) m) [ inl e ↦ subst (λ (v : AToken). Among t (v ∷ us)) e here | inr n ↦ there (f n) ]

-- the actions are ready, in both forms

ready_says : (s : Source) (log : List Event) → AllBehind table reads occurs (kinds s) log → says.AllReady s log
ready_says s [] h = tt
ready_says s (e ∷ es) h = (h.0, ready_says s es h.1)

ready_same : (s s' : Source) (all : AllSame s (loud s s.tokens) s' s'.tokens) (log : List Event) → AllBehind table reads occurs (kinds s) log → built.AllReady s s' all log
ready_same s s' all [] h = tt
ready_same s s' all (e ∷ es) h = (h.0, ready_same s s' all es h.1)

none_same : SameBut none none
none_same = record { places = refl; names = refl; literals = refl; columns = refl; relations = refl; exprs = refl; lists = refl; links = refl; arms = refl; selects = refl; sets = refl; tables = refl; queries = refl; statements = refl }

record Again (q : Query) (t : Statement) : Type 0 where
  again : Query
  is : t ≡ statement.Query again
  same : bare again ≡ bare q

as_query : (q : Query) (t : Statement) → Some (bare q) ≡ query_of t → Again q t
as_query q (statement.Query r) e = let p : bare q ≡ bare r = cc in record { again = r; is = refl; same = sym p }
as_query q _ e = absurd cc

-- two texts, of which the second has the printed tokens of the first
from_same : (s s' : Source) (log : List Event) (q : Query) → (all : AllSame s (loud s s.tokens) s' s'.tokens)
    → Derives table 0 (children (start_symbol symbol.STATEMENT_RULE) a_query ++ []) log (kinds s) [] → build s log none ≡ record none { statements = statement.Query q ∷ [] }
    → (again : Query) × ((log' : List Event) × IsReading table symbol.STATEMENT_RULE (kinds s') log' × (record none { statements = statement.Query again ∷ [] } ≡ build s' log' none)) × (bare again ≡ bare q)
from_same s s' log q all d b =
    let log' = moved silent names symbol.NAME (kinds s) log in
    let y = all_behind table reads occurs queries_placed d refl None (refl, refl, (refl, refl, tt)) [] tt refl in
    let good : Good silent names symbol.NAME table is_known occurs queries_quiet (children (start_symbol symbol.STATEMENT_RULE) a_query ++ []) = (refl, λ h. absurd cc, (refl, λ h. absurd cc, tt)) in
    let e : Derives table 0 (children (start_symbol symbol.STATEMENT_RULE) a_query ++ []) log' (quiet silent names symbol.NAME (kinds s)) [] = without silent names symbol.NAME table is_known occurs queries_quiet d refl good [] refl in
    let k : kinds s' ≡ quiet silent names symbol.NAME (kinds s) = built.same_kinds s s' s.tokens s'.tokens all in
    let f : Derives table 0 (children (start_symbol symbol.STATEMENT_RULE) a_query ++ []) log' (kinds s') [] = rw k e in
    let sentence : IsSentence table symbol.STATEMENT_RULE (kinds s') log' = choose 4 true 1 (a_query ∷ others) a_query refl here f in
    let t = one_statement_built s' (kinds s') log' sentence in
    let c : SameBut (build s log none) (build s' log' none) = built.build_same s s' all log none none (ready_same s s' all log y) none_same in
    let one : map query_of (statement.Query q ∷ []) ≡ map query_of (t.0 ∷ []) = ap (λ (w : Waiting). map query_of w.statements) (sym b) ∙ c.statements ∙ ap (λ (w : Waiting). map query_of w.statements) t.1 in
    let two : Some (bare q) ≡ query_of t.0 = cc in
    let a = as_query q t.0 two in
    let three : record none { statements = statement.Query a.again ∷ [] } ≡ build s' log' none =
    ap (λ (x : Statement). let w : Waiting = record none { statements = x ∷ [] } in w) (sym a.is) ∙ sym t.1 in
    let reading : IsReading table symbol.STATEMENT_RULE (kinds s') log' = record {
      sentence = sentence;
      least = λ other g. subst (λ (us : List Event). is_up_to log' us ≡ true) (statement_log (kinds s') log' other sentence g) (up_itself log');
    } in
    (a.again, (log', reading, three), a.same)

pub printed_is_read : SaidIsRead → PrintedIsRead
printed_is_read said text q h =
    let s = source_of text in
    let log = h.0 in
    let b : build s log none ≡ record none { statements = statement.Query q ∷ [] } = sym h.2 in
    let c = by_choice 4 true 1 (a_query ∷ others) refl h.1.sentence in
    let p = by_query s log q c.0 c.1 c.2 b in
    let d : Derives table 0 (children (start_symbol symbol.STATEMENT_RULE) a_query ++ []) log (kinds s) [] = subst (λ (r : List Item). Derives table 0 (children (start_symbol symbol.STATEMENT_RULE) r ++ []) log (kinds s) []) p c.2 in
    let y = all_behind table reads occurs queries_placed d refl None (refl, refl, (refl, refl, tt)) [] tt refl in
    let is : printed q ≡ all_said s (loud s s.tokens) = says.query_says s log q d (ready_says s log y) b in
    let stand = all_pass table stands table_stands d refl in
    let all : AllSame s (loud s s.tokens) (source_of (spelled (all_said s (loud s s.tokens)))) (tokens_from 0 (spelled (all_said s (loud s s.tokens)))) =
    said text (loud s s.tokens) (λ t m. among_loud s s.tokens t m) (λ t m. somewhere s s.tokens t stand (among_loud s s.tokens t m)) in
    let same : AllSame s (loud s s.tokens) (source_of (spelled (printed q))) (tokens_from 0 (spelled (printed q))) =
    subst (λ (x : List Said). AllSame s (loud s s.tokens) (source_of (spelled x)) (tokens_from 0 (spelled x))) (sym is) all in
    from_same s (source_of (spelled (printed q))) log q same d b
