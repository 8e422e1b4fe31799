-- Two texts whose tokens say the same, but for the silent ones of the first: the actions of the first, where they come in the
-- second, build the same but for places.
use Rattle.std.proofs.Common.{◌≡◌, ◌∙◌, ℕ, zero, suc, Bool, true, false, List, [], ◌∷◌, ◌++◌, ◌+◌, ◌-◌, ◌==◌, Option, Some, None, refl, ap, sym, subst, take, length, arith, if◌then◌else◌, inl, inr}
use Rattle.std.specs.Prelude.{slice_index_or, not}
use Rattle.std.specs.List.{list_all}
use Rattle.std.proofs.lemmas.Bool.{eqb-true, or_cases, not-true}
use Rattle.grammar.specs.Derivation.{has}
use Rattle.grammar.specs.declared.machine.Event.{Event}
use Rattle.sql_tokens.specs.declared.token.Token.{Token}
use Rattle.sql_tokens.specs.declared.token.Kind.TheVariants as token_kind
use Rattle.sql_tokens.specs.Parts.{bytes_of}
use Rattle.sql_tokens.specs.Values.{decimal}
use Rattle.sql_reader.specs.declared.build.Action.{Action}
use Rattle.sql_reader.specs.declared.build.Action.TheVariants as act
use Rattle.sql_reader.specs.declared.build.TokenAction.TheVariants as token
use Rattle.sql_reader.specs.declared.build.StatementAction.TheVariants as statement
use Rattle.sql_reader.specs.declared.tree.expr.Literal.{Literal}
use Rattle.sql_reader.specs.declared.tree.expr.Constant.{Constant}
use Rattle.sql_reader.specs.declared.tree.name.Name.{Name}
use Rattle.sql_reader.specs.Build.{action_of, act_on, build}
use Rattle.sql_reader.specs.Kinds.{kinds_of}
use Rattle.sql_reader.specs.Source.{Source, no_token, last_token, name_at, literal_at, negative_at, name_of_token, literal_of_token, negative, whole, whole_of}
use Rattle.sql_reader.specs.Symbols as symbol
use Rattle.sql_reader.specs.Waiting.{Waiting}
use Rattle.sql_printer.specs.Bare.{bare_name, bare_literal}
use Rattle.grammar.proofs.Behind.{is_last, reads_well}
use Rattle.grammar.proofs.Quiet.{has_all, quiet, moved, renamed}
use Rattle.sql_printer.proofs.SameTrees.{SameBut, ReadsToken, ReadsSame, act_same}
use Rattle.sql_printer.proofs.Saying.{names, constants, silent, kind, printed_kind, loud, Same, AllSame}
use Rattle.sql_printer.proofs.TokensSaid.{reads_of, IsReady, numeral_is}

module _ (s : Source) (s' : Source) where
  abbrev pub quiet_kinds : List ℕ → List ℕ
  quiet_kinds ks = quiet silent names symbol.NAME ks

  -- the kinds of the second are those of the first without the silent ones
  pub same_kinds : (ts us : List Token) → AllSame s (loud s ts) s' us → kinds_of s'.text us ≡ quiet_kinds (kinds_of s.text ts)
  same_kinds [] [] h = refl
  same_kinds [] (u ∷ us) h = absurd h
  same_kinds (t ∷ ts) us h = at (silent (kind s t)) refl us h (same_kinds ts)
    where
      at : (b : Bool) → silent (kind s t) ≡ b → (us : List Token) → AllSame s (if b then loud s ts else t ∷ loud s ts) s' us
          → ((vs : List Token) → AllSame s (loud s ts) s' vs → kinds_of s'.text vs ≡ quiet_kinds (kinds_of s.text ts))
          → kinds_of s'.text us ≡ (if b then quiet_kinds (kinds_of s.text ts) else renamed silent names symbol.NAME (kind s t) ∷ quiet_kinds (kinds_of s.text ts))
      at true e us h f = f us h
      at false e [] h f = absurd h
      at false e (u ∷ us) h f = let p = h.0.is_kind in let q = f us h.1 in cc

  -- the token that an action reads, and the one in its place
  record Pair (ts us : List Token) (n : ℕ) (ks : List ℕ) : Type 0 where
    at : ℕ
    is : length (quiet_kinds (take (suc n) (kinds_of s.text ts))) ≡ suc at
    same : Same s (slice_index_or ts n no_token) s' (slice_index_or us at no_token)
    read : has ks (kind s (slice_index_or ts n no_token)) ≡ true

  pair : (ks : List ℕ) → list_all (λ k. not (silent k)) ks ≡ true → (ts us : List Token) (n : ℕ) → AllSame s (loud s ts) s' us → is_last ks (kinds_of s.text ts) (suc n) ≡ true → Pair ts us n ks
  pair ks speak [] us n h l = absurd cc
  pair ks speak (t ∷ ts) us zero h l = at (silent (kind s t)) refl us h
    where
      speaks : silent (kind s t) ≡ false
      speaks = not-true (silent (kind s t)) (has_all (λ j. not (silent j)) ks (kind s t) speak l)

      at : (b : Bool) → silent (kind s t) ≡ b → (us : List Token) → AllSame s (if b then loud s ts else t ∷ loud s ts) s' us → Pair (t ∷ ts) us zero ks
      at true e us h = absurd (let z : true ≡ false = sym e ∙ speaks in cc)
      at false e [] h = absurd h
      at false e (u ∷ us) h = record { at = 0; is = rw e refl; same = h.0; read = l }
  pair ks speak (t ∷ ts) us (suc n) h l = at (silent (kind s t)) refl us h (λ vs g. pair ks speak ts vs n g l)
    where
      at : (b : Bool) → silent (kind s t) ≡ b → (us : List Token) → AllSame s (if b then loud s ts else t ∷ loud s ts) s' us
          → ((vs : List Token) → AllSame s (loud s ts) s' vs → Pair ts vs n ks) → Pair (t ∷ ts) us (suc n) ks
      at true e us h f = let p = f us h in record { at = p.at; is = rw e p.is; same = p.same; read = p.read }
      at false e [] h f = absurd h
      at false e (u ∷ us) h f = let p = f us h.1 in record { at = suc p.at; is = rw e (ap (λ (k : ℕ). suc k) p.is); same = p.same; read = p.read }

  module _ (all : AllSame s (loud s s.tokens) s' s'.tokens) where
    abbrev place : ℕ → ℕ
    place n = length (quiet_kinds (take n (kinds_of s.text s.tokens)))

    -- the last tokens
    record Lasts (n : ℕ) (ks : List ℕ) : Type 0 where
      same : Same s (last_token s n) s' (last_token s' (place n))
      read : has ks (kind s (last_token s n)) ≡ true

    lasts : (n : ℕ) (ks : List ℕ) → list_all (λ k. not (silent k)) ks ≡ true → is_last ks (kinds_of s.text s.tokens) n ≡ true → Lasts n ks
    lasts zero ks speak l = absurd cc
    lasts (suc n) ks speak l =
        let p = pair ks speak s.tokens s'.tokens n all l in
        let e : suc n - 1 ≡ n = omega arith in
        let f : place (suc n) - 1 ≡ p.at = rw p.is (omega arith) in
        record { same = rw (e, f) p.same; read = rw e p.read }

    same_literal : (l m : Literal) → l.constant ≡ m.constant → l.negative ≡ m.negative → l.whole ≡ m.whole → bare_literal l ≡ bare_literal m
    same_literal l m p q r =
        let e : record { constant = l.constant; negative = l.negative; whole = l.whole; at = 0 } ≡ bare_literal m = rw (p, q, r) refl in
        e

    same_name : (l m : Name) → l.text ≡ m.text → bare_name l ≡ bare_name m
    same_name l m p = let e : record { text = l.text; at = 0 } ≡ bare_name m = rw p refl in e

    numeral_kind : (k : ℕ) → has (symbol.NUMERAL ∷ []) k ≡ true → k ≡ symbol.NUMERAL
    numeral_kind k h = elim (or_cases (symbol.NUMERAL == k) false h) [ inl a ↦ sym (eqb-true symbol.NUMERAL k a) | inr b ↦ absurd cc ]

    reads_same : (a : Action) (n : ℕ) → IsReady s (reads_of a) n → ReadsSame s s' n (place n) a
    reads_same act.Nothing n y = tt
    reads_same (act.Token token.Name) n y =
        let l = lasts n names refl y in
        same_name (name_at s n) (name_at s' (place n)) (sym (l.same.is_name l.read))
    reads_same (act.Token token.Literal) n y =
        let l = lasts n constants refl y in
        same_literal (literal_at s n) (literal_at s' (place n)) (sym (l.same.is_constant l.read)) refl (sym (l.same.is_whole l.read))
    reads_same (act.Token token.Negative) n y =
        let l = lasts n (symbol.NUMERAL ∷ []) refl y in
        let t = last_token s n in
        let u = last_token s' (place n) in
        let k : kind s t ≡ symbol.NUMERAL = numeral_kind (kind s t) l.read in
        let j : kind s' u ≡ symbol.NUMERAL = l.same.is_kind ∙ ap printed_kind k in
        let p = numeral_is t.kind (bytes_of s.text t) k in
        let q = numeral_is u.kind (bytes_of s'.text u) j in
        let r : has constants (kind s t) ≡ true = rw k refl in
        let w : whole_of t.kind (bytes_of s.text t) ≡ whole (decimal 0 (bytes_of s.text t)) = rw p refl in
        let v : whole_of u.kind (bytes_of s'.text u) ≡ whole (decimal 0 (bytes_of s'.text u)) = rw q refl in
        same_literal (negative_at s n) (negative_at s' (place n)) (sym (l.same.is_negative k)) refl (sym w ∙ sym (l.same.is_whole r) ∙ v)
    reads_same (act.Token _) n y = tt
    reads_same (act.Expr a) n y = tt
    reads_same (act.Query a) n y = tt
    reads_same (act.Statement statement.Query) n y = tt
    reads_same (act.Statement _) n y = absurd (none (kinds_of s.text s.tokens) n y)
      where
        none : (ks : List ℕ) (n : ℕ) → is_last [] ks n ≡ true → ⊥
        none ks zero h = cc
        none [] (suc n) h = cc
        none (k ∷ ks) (suc zero) h = cc
        none (k ∷ ks) (suc (suc n)) h = none ks (suc n) h

    -- each action is where what it reads is
    abbrev pub AllReady : List Event → Type 0
    AllReady [] = Unit {0}
    AllReady (e ∷ es) = IsReady s (reads_of (action_of e.action)) e.at × AllReady es

    pub build_same : (log : List Event) (w v : Waiting) → AllReady log → SameBut w v → SameBut (build s log w) (build s' (moved silent names symbol.NAME (kinds_of s.text s.tokens) log) v)
    build_same [] w v y h = h
    build_same (e ∷ es) w v y h =
        build_same es (act_on s e.at (action_of e.action) w) (act_on s' (place e.at) (action_of e.action) v) y.1
        (act_same s s' e.at (place e.at) (action_of e.action) w v (reads_same (action_of e.action) e.at y.0) h)
