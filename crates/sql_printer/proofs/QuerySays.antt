-- What a query that was read says is what its printed tokens say.
use Rattle.std.proofs.Common.{◌≡◌, ◌∙◌, ℕ, zero, suc, Bool, true, false, List, [], ◌∷◌, ◌++◌, ◌+◌, ◌==◌, Option, Some, None, refl, ap, sym, subst, take, drop, append_assoc, append-nil, arith, if◌then◌else◌, inl, inr}
use Rattle.std.specs.Prelude.{slice_index_or, not, ◌&&◌, ◌||◌}
use Rattle.std.specs.List.{list_all}
use Rattle.std.proofs.lemmas.Bool.{eqb-true, or_cases, and_parts, not-true}
use Rattle.grammar.specs.Derivation.{Among, here, there, has, Derives}
use Rattle.grammar.specs.declared.machine.Event.{Event}
use Rattle.grammar.proofs.Behind.{start_symbol}
use Rattle.grammar.specs.Limits.{children}
use Rattle.grammar.specs.Table.{Rules, Shape, Token, Action, Unless, Choice, rule_of}
use Rattle.sql_tokens.specs.declared.token.Token.{Token as AToken}
use Rattle.sql_tokens.specs.Parts.{bytes_of}
use Rattle.sql_reader.specs.declared.tree.query.Query.{Query}
use Rattle.sql_reader.specs.declared.tree.statement.Statement.{Statement}
use Rattle.sql_reader.specs.declared.tree.statement.Statement.TheVariants as statement
use Rattle.sql_reader.specs.Build.{action_of, act_on, build}
use Rattle.sql_reader.specs.Kinds.{kinds_of, kind_of}
use Rattle.sql_reader.specs.Source.{Source}
use Rattle.sql_reader.specs.Symbols as symbol
use Rattle.sql_reader.specs.Table.{table, same}
use Rattle.sql_reader.specs.Trees.{kinds}
use Rattle.sql_reader.specs.Waiting.{Waiting, none}
use Rattle.sql_printer.specs.Queries.{printed}
use Rattle.sql_printer.specs.Said.{Said, Word as WordSaid, word, one}
use Rattle.sql_printer.proofs.Held.{Kind, Word, Special, AQuery, AStatement, stands, stands_itself, lifted, text, waiting, Held}
use Rattle.grammar.proofs.Quiet.{has_all}
use Rattle.sql_printer.proofs.Says.{Has, act_says}
use Rattle.sql_printer.proofs.Saying.{names, constants, silent, kind, said_as, said_of, all_said, loud}
use Rattle.grammar.proofs.Stages.{Signature, moves, takes, gives, all_stand}
use Rattle.grammar.proofs.Stages as stages
use Rattle.sql_printer.proofs.StageSignatures.{rule_stages, action_stages}
use Rattle.sql_printer.proofs.TokensSaid.{before, reads_of, IsReady, null_said}

-- the symbols of tokens that say a name or a constant, and of some that stand in no query
abbrev pub specials : List ℕ
specials = symbol.NAME ∷ symbol.NUMERAL ∷ symbol.FRACTION ∷ symbol.STRING ∷ symbol.CONSTANT ∷ symbol.TRUE ∷ symbol.FALSE ∷ symbol.TRANSACTION ∷ []

abbrev pub gives_by : Bool → Bool → ℕ → List Kind
gives_by true b n = []
gives_by false true n = Special n ∷ []
gives_by false false n = Word n ∷ []

-- what a token gives, by its symbol
abbrev pub token_gives : ℕ → List Kind
token_gives n = gives_by (silent n) (has specials n) n

abbrev pub signatures_of : ℕ → List (Signature Kind)
signatures_of n = action_stages (action_of n)

pub table_right : stages.all_right table Kind rule_stages signatures_of token_gives stands table rule_stages ≡ true
table_right = refl

-- the kinds of each token's symbol are silent, or none is; and a word's is its symbol alone

abbrev right_by : Bool → Bool → ℕ → List ℕ → Bool
right_by true b n kinds = list_all silent kinds
right_by false true n kinds = list_all (λ k. not (silent k)) kinds
right_by false false n kinds = list_all (λ k. n == k) kinds && (not (has names n) && (not (has constants n) || n == symbol.NULL))

abbrev is_token_right : ℕ → Shape → Bool
is_token_right n (Token kinds) = right_by (silent n) (has specials n) n kinds
is_token_right n Action = true
is_token_right n (Unless kinds) = true
is_token_right n (Choice weight solid rank ps) = true

abbrev all_tokens_right : ℕ → List Shape → Bool
all_tokens_right n [] = true
all_tokens_right n (x ∷ xs) = is_token_right n x && all_tokens_right (n + 1) xs

tokens_right : all_tokens_right 0 table ≡ true
tokens_right = refl

right_at : (xs : List Shape) (n m : ℕ) → all_tokens_right m xs ≡ true → is_token_right (m + n) (slice_index_or xs n Action) ≡ true
right_at [] n m h = refl
right_at (x ∷ xs) zero m h =
    let e : m ≡ m + zero = omega arith in
    subst (λ (k : ℕ). is_token_right k x ≡ true) e (and_parts (is_token_right m x) (all_tokens_right (m + 1) xs) h).0
right_at (x ∷ xs) (suc n) m h =
    let e : (m + 1) + n ≡ m + suc n = omega arith in
    subst (λ (k : ℕ). is_token_right k (slice_index_or xs n Action) ≡ true) e (right_at xs n (m + 1) (and_parts (is_token_right m x) (all_tokens_right (m + 1) xs) h).1)

token_right : (n : ℕ) (ks : List ℕ) → rule_of table n ≡ Token ks → right_by (silent n) (has specials n) n ks ≡ true
token_right n ks e =
    let z : 0 + n ≡ n = omega arith in
    subst (λ (x : Shape). is_token_right n x ≡ true) e (subst (λ (k : ℕ). is_token_right k (slice_index_or table n Action) ≡ true) z (right_at table n 0 tokens_right))

-- the next token

record Next (s : Source) (ts : List AToken) (pos t : ℕ) (rest : List ℕ) : Type 0 where
  token : AToken
  is : kind s token ≡ t
  left : kinds_of s.text (drop (suc pos) ts) ≡ rest
  taken : take (suc pos) ts ≡ take pos ts ++ token ∷ []

next_of : (s : Source) (ts : List AToken) (pos t : ℕ) (rest : List ℕ) → kinds_of s.text (drop pos ts) ≡ t ∷ rest → Next s ts pos t rest
next_of s [] zero t rest e = absurd cc
next_of s [] (suc n) t rest e = absurd cc
next_of s (u ∷ us) zero t rest e =
    let a : kind s u ≡ t = cc in
    let b : kinds_of s.text us ≡ rest = cc in
    record { token = u; is = a; left = b; taken = refl }
next_of s (u ∷ us) (suc n) t rest e =
    let x = next_of s us n t rest e in
    record { token = x.token; is = x.is; left = x.left; taken = ap (λ (l : List AToken). u ∷ l) x.taken }

loud_more : (s : Source) (ts : List AToken) (t : AToken) → all_said s (loud s (ts ++ t ∷ [])) ≡ all_said s (loud s ts) ++ all_said s (loud s (t ∷ []))
loud_more s [] t = refl
loud_more s (u ∷ us) t = at (silent (kind s u)) (loud_more s us t)
  where
    at : (b : Bool) → all_said s (loud s (us ++ t ∷ [])) ≡ all_said s (loud s us) ++ all_said s (loud s (t ∷ []))
        → all_said s (if b then loud s (us ++ t ∷ []) else u ∷ loud s (us ++ t ∷ [])) ≡ all_said s (if b then loud s us else u ∷ loud s us) ++ all_said s (loud s (t ∷ []))
    at true h = h
    at false h = ap (λ (x : List Said). said_of s u ∷ x) h

module _ (s : Source) where
  abbrev pub Left : ℕ → List ℕ → Type 0
  Left pos ts = kinds_of s.text (drop pos s.tokens) ≡ ts

  abbrev pub Ready : ℕ → ℕ → Type 0
  Ready n pos = IsReady s (reads_of (action_of n)) pos

  abbrev pub on : ℕ → ℕ → Waiting → Waiting
  on pos n w = act_on s pos (action_of n) w

  plus_one : (pos : ℕ) → pos + 1 ≡ suc pos
  plus_one pos = omega arith

  pub left : (pos t : ℕ) (ts : List ℕ) → Left pos (t ∷ ts) → Left (pos + 1) ts
  left pos t ts h = rw (plus_one pos) (next_of s s.tokens pos t ts h).left

  pub weaken : (pos : ℕ) (w : Waiting) (ks js : List Kind) → all_stand stands ks js ≡ true → Has s pos w ks → Has s pos w js
  weaken pos w ks js e h =
      let l = lifted ks js e h.held in
      record { held = l.held; waits = h.waits ∙ sym l.same_waiting; says = l.same_text ∙ h.says }

  -- one more token
  more : (pos t : ℕ) (ts : List ℕ) (x : Next s s.tokens pos t ts) → before s (pos + 1) ≡ before s pos ++ all_said s (loud s (x.token ∷ []))
  more pos t ts x =
      rw (plus_one pos) (ap (λ (l : List AToken). all_said s (loud s l)) x.taken ∙ loud_more s (take pos s.tokens) x.token)

  hushed : (u : AToken) → silent (kind s u) ≡ true → all_said s (loud s (u ∷ [])) ≡ []
  hushed u h = rw h refl

  spoken : (u : AToken) → silent (kind s u) ≡ false → all_said s (loud s (u ∷ [])) ≡ one (said_of s u)
  spoken u h = rw h refl

  word_said : (u : AToken) (n : ℕ) → kind s u ≡ n → has names n ≡ false → (not (has constants n) || n == symbol.NULL) ≡ true → said_of s u ≡ WordSaid n
  word_said u n e f c = elim (or_cases (not (has constants n)) (n == symbol.NULL) c) [
    | inl a ↦ rw (e, f, not-true (has constants n) a) refl
    | inr b ↦ (let z = eqb-true n symbol.NULL b in null_said s u (e ∙ z) ∙ ap (λ (k : ℕ). WordSaid k) (sym z))
  ]

  pub reads : (n pos t : ℕ) (ks ts : List ℕ) (w : Waiting) (held : List Kind) → rule_of table n ≡ Token ks → has ks t ≡ true → Left pos (t ∷ ts) → Has s pos w held → Has s (pos + 1) w (token_gives n ++ held)
  reads n pos t ks ts w held r h l k = at (silent n) refl (has specials n) refl (token_right n ks r)
    where
      x : Next s s.tokens pos t ts
      x = next_of s s.tokens pos t ts l

      at : (a : Bool) → silent n ≡ a → (b : Bool) → has specials n ≡ b → right_by a b n ks ≡ true → Has s (pos + 1) w (gives_by a b n ++ held)
      at true e b f right =
          let hush : silent (kind s x.token) ≡ true = rw x.is (has_all silent ks t right h) in
          record {
            held = k.held;
            waits = k.waits;
            says = k.says ∙ sym (append-nil (before s pos)) ∙ ap (λ (y : List Said). before s pos ++ y) (sym (hushed x.token hush)) ∙ sym (more pos t ts x);
          }
      at false e true f right =
          let speak : silent (kind s x.token) ≡ false = rw x.is (not-true (silent t) (has_all (λ j. not (silent j)) ks t right h)) in
          record {
            held = (said_of s x.token, k.held);
            waits = k.waits;
            says = ap (λ (y : List Said). y ++ one (said_of s x.token)) k.says ∙ ap (λ (y : List Said). before s pos ++ y) (sym (spoken x.token speak)) ∙ sym (more pos t ts x);
          }
      at false e false f right =
          let p = and_parts (list_all (λ j. n == j) ks) (not (has names n) && (not (has constants n) || n == symbol.NULL)) right in
          let q = and_parts (not (has names n)) (not (has constants n) || n == symbol.NULL) p.1 in
          let same : n ≡ t = eqb-true n t (has_all (λ j. n == j) ks t p.0 h) in
          let is : kind s x.token ≡ n = x.is ∙ sym same in
          let speak : silent (kind s x.token) ≡ false = rw is e in
          let says : said_of s x.token ≡ WordSaid n = word_said x.token n is (not-true (has names n) q.0) q.1 in
          record {
            held = (tt, k.held);
            waits = k.waits;
            says = ap (λ (y : List Said). y ++ word n) k.says ∙ ap (λ (y : Said). before s pos ++ one y) (sym says) ∙ ap (λ (y : List Said). before s pos ++ y) (sym (spoken x.token speak)) ∙ sym (more pos t ts x);
          }

  pub acts : (n pos : ℕ) (w : Waiting) (f : Signature Kind) (r : List Kind) → rule_of table n ≡ Action → Ready n pos → Among f (signatures_of n) → Has s pos w (takes f ++ r) → Has s pos (on pos n w) (gives f ++ r)
  acts n pos w f r e y m h = act_says s pos (action_of n) w f r y m h

  abbrev run : List Event → Waiting → Waiting
  run = stages.run table Kind rule_stages signatures_of token_gives stands stands_itself (Has s) Left Ready on table_right weaken left reads acts

  built : (log : List Event) (w : Waiting) → run log w ≡ build s log w
  built [] w = refl
  built (e ∷ es) w = built es (on e.at e.action w)

  abbrev pub AllReady : List Event → Type 0
  AllReady log = stages.AllReady table Kind rule_stages signatures_of token_gives stands stands_itself (Has s) Left Ready on table_right weaken left reads acts log

  abbrev AtEnd : Waiting → List Kind → Type 0
  AtEnd = stages.AtEnd table Kind rule_stages signatures_of token_gives stands stands_itself (Has s) Left Ready on table_right weaken left reads acts

  nothing_left : (ts : List AToken) (pos : ℕ) → kinds_of s.text (drop pos ts) ≡ [] → take pos ts ≡ ts
  nothing_left [] zero e = refl
  nothing_left [] (suc n) e = refl
  nothing_left (t ∷ ts) zero e = absurd cc
  nothing_left (t ∷ ts) (suc n) e = ap (λ (l : List AToken). t ∷ l) (nothing_left ts n e)

  pub query_says : (log : List Event) (q : Query)
      → Derives table 0 (children (start_symbol symbol.STATEMENT_RULE) (same symbol.QUERY_RULE ∷ same symbol.RUN_ACTION ∷ []) ++ []) log (kinds s) []
      → AllReady log → build s log none ≡ record none { statements = statement.Query q ∷ [] } → printed q ≡ all_said s (loud s s.tokens)
  query_says log q d y e =
      let nothing : Has s 0 none [] = record { held = tt; waits = refl; says = refl } in
      let end : AtEnd (run log none) (AStatement ∷ []) =
      stages.typed table Kind rule_stages signatures_of token_gives stands stands_itself (Has s) Left Ready on table_right weaken left reads acts d refl
      (stages.next (moves [] (AQuery ∷ [])) [] here refl (stages.next (moves (AQuery ∷ []) (AStatement ∷ [])) [] here refl stages.end)) none nothing refl y in
      let h = end.has in
      let other : record none { statements = statement.Query h.held.0 ∷ [] } ≡ record none { statements = statement.Query q ∷ [] } = sym h.waits ∙ built log none ∙ e in
      let one_of : statement.Query h.held.0 ∷ [] ≡ statement.Query q ∷ [] = ap (λ (w : Waiting). w.statements) other in
      let is : h.held.0 ≡ q = cc in
      ap printed (sym is) ∙ h.says ∙ ap (λ (l : List AToken). all_said s (loud s l)) (nothing_left s.tokens end.pos end.none)
