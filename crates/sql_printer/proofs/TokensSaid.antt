-- What the tokens before a place say, and what an action that reads the last of them finds there.
use Rattle.std.proofs.Common.{◌≡◌, ◌∙◌, ◌≤◌, ◌<◌, ℕ, zero, suc, Bool, true, false, List, [], ◌∷◌, ◌++◌, ◌+◌, ◌-◌, ◌==◌, Option, Some, None, refl, ap, sym, subst, take, drop, length, append_assoc, append-nil, if◌then◌else◌, arith, ◌⊎◌, inl, inr}
use Rattle.std.specs.Prelude.{slice_index_or, nat_le, nat_lt, not, ◌^◌, ◌&&◌, codes, pos as plus, neg_ℤ}
use Rattle.vdb_base.specs.declared.value.Value.TheVariants as value
use Rattle.sql_reader.specs.declared.tree.expr.Constant.TheVariants as constant
use Rattle.std.specs.List.{list_all}
use Rattle.std.proofs.lemmas.Bool.{eqb-true, or_cases, and_parts, not-true}
use Rattle.grammar.specs.Derivation.{has}
use Rattle.sql_tokens.specs.declared.token.Token.{Token}
use Rattle.sql_tokens.specs.declared.token.Kind.{Kind}
use Rattle.sql_tokens.specs.declared.token.Kind.TheVariants as token_kind
use Rattle.sql_tokens.specs.Parts.{bytes_of, inner}
use Rattle.sql_tokens.specs.Lengths.{further}
use Rattle.sql_tokens.specs.Values.{decimal, fold, folded, single}
use Rattle.sql_tokens.specs.Words.{place_of, is_same, reserved, words}
use Rattle.sql_reader.specs.declared.build.Action.{Action}
use Rattle.sql_reader.specs.declared.build.Action.TheVariants as act
use Rattle.sql_reader.specs.declared.build.TokenAction.TheVariants as token
use Rattle.sql_reader.specs.declared.build.StatementAction.TheVariants as statement
use Rattle.sql_reader.specs.declared.tree.name.Name.{Name}
use Rattle.sql_reader.specs.declared.tree.expr.Literal.{Literal}
use Rattle.sql_reader.specs.Kinds.{kind_of, kinds_of, name_kind, free_kind, known_kind}
use Rattle.sql_reader.specs.SoftWords.{soft, soft_words}
use Rattle.sql_reader.specs.Source.{Source, last_token, name_at, literal_at, negative_at, name_of_token, literal_of_token, positive, negative, whole, whole_of, constant_of, word_constant}
use Rattle.sql_reader.specs.Symbols as symbol
use Rattle.sql_printer.specs.Names.{name, literal, constant_said}
use Rattle.sql_printer.specs.Said.{Said, Named, Number, Word, word, one}
use Rattle.grammar.proofs.Behind.{is_last, reads_well}
use Rattle.grammar.proofs.Quiet.{has_all}
use Rattle.sql_printer.proofs.Saying.{names, constants, silent, kind, said_as, said_of, all_said, loud}

-- what the printed tokens among the first so many say
abbrev pub before : Source → ℕ → List Said
before s pos = all_said s (loud s (take pos s.tokens))

-- the kinds of the token that an action reads; those of other statements than queries are never met
abbrev pub reads_of : Action → Option (List ℕ)
reads_of (act.Token token.Name) = Some names
reads_of (act.Token token.Literal) = Some constants
reads_of (act.Token token.Negative) = Some (symbol.NUMERAL ∷ [])
reads_of (act.Token _) = None
reads_of (act.Statement statement.Query) = None
reads_of (act.Statement _) = Some []
reads_of _ = None

abbrev pub IsReady : Source → Option (List ℕ) → ℕ → Type 0
IsReady s kinds pos = reads_well kinds (kinds_of s.text s.tokens) pos ≡ true

-- what the last token says comes last
record Last (s : Source) (kinds : List ℕ) (pos : ℕ) : Type 0 where
  front : List Said
  is : before s pos ≡ front ++ one (said_of s (last_token s pos))
  read : has kinds (kind s (last_token s pos)) ≡ true

-- a token that isn't silent is printed
said_one : (s : Source) (t : Token) (ts : List Token) → silent (kind s t) ≡ false → all_said s (loud s (t ∷ ts)) ≡ said_of s t ∷ all_said s (loud s ts)
said_one s t ts h = rw h refl

module _ (s : Source) (kinds : List ℕ) (speak : list_all (λ k. not (silent k)) kinds ≡ true) where
  speaks : (k : ℕ) → has kinds k ≡ true → silent k ≡ false
  speaks k h = not-true (silent k) (has_all (λ j. not (silent j)) kinds k speak h)

  record LastOf (ts : List Token) (n : ℕ) : Type 0 where
    front : List Said
    is : all_said s (loud s (take (suc n) ts)) ≡ front ++ one (said_of s (slice_index_or ts n (record { kind = token_kind.Bad; start = 0; end = 0 })))
    read : has kinds (kind s (slice_index_or ts n (record { kind = token_kind.Bad; start = 0; end = 0 }))) ≡ true

  last_of : (ts : List Token) (n : ℕ) → is_last kinds (kinds_of s.text ts) (suc n) ≡ true → LastOf ts n
  last_of [] n h = absurd cc
  last_of (t ∷ ts) zero h = record { front = []; is = said_one s t [] (speaks (kind s t) h); read = h }
  last_of (t ∷ ts) (suc n) h = at (silent (kind s t)) refl (last_of ts n h)
    where
      at : (b : Bool) → silent (kind s t) ≡ b → LastOf ts n → LastOf (t ∷ ts) (suc n)
      at true e l = record { front = l.front; is = rw e l.is; read = l.read }
      at false e l = record { front = said_of s t ∷ l.front; is = rw e (ap (λ x. said_of s t ∷ x) l.is); read = l.read }

  last : (pos : ℕ) → is_last kinds (kinds_of s.text s.tokens) pos ≡ true → Last s kinds pos
  last zero h = absurd cc
  last (suc n) h =
      let l = last_of s.tokens n h in
      let e : suc n - 1 ≡ n = omega arith in
      record { front = l.front; is = rw e l.is; read = rw e l.read }

-- a last element and those before it
same_front : {A : Type 0} (xs ys : List A) (x y : A) → xs ++ x ∷ [] ≡ ys ++ y ∷ [] → (xs ≡ ys) × (x ≡ y)
same_front [] [] x y e = (refl, cc)
same_front [] (v ∷ []) x y e = absurd cc
same_front [] (v ∷ u ∷ vs) x y e = absurd cc
same_front (u ∷ []) [] x y e = absurd cc
same_front (u ∷ v ∷ us) [] x y e = absurd cc
same_front (u ∷ us) (v ∷ vs) x y e =
    let r : us ++ x ∷ [] ≡ vs ++ y ∷ [] = cc in
    let p = same_front us vs x y r in
    let h : u ≡ v = cc in
    (let a = p.0 in cc, p.1)

pub last_name : (s : Source) (pos : ℕ) (front : List Said) (said : Said) → IsReady s (Some names) pos → front ++ one said ≡ before s pos → front ++ name (name_at s pos) ≡ before s pos
last_name s pos front said y e =
    let l = last s names refl pos y in
    let p = same_front front l.front said (said_of s (last_token s pos)) (e ∙ l.is) in
    let is : said_of s (last_token s pos) ≡ Named (name_at s pos).text = rw l.read refl in
    ap (λ x. front ++ one x) (sym is ∙ sym p.1) ∙ e

not_name : (k : ℕ) → has constants k ≡ true → has names k ≡ false
not_name k h = not-true (has names k) (has_all (λ j. not (has names j)) constants k refl h)

pub last_literal : (s : Source) (pos : ℕ) (front : List Said) (said : Said) → IsReady s (Some constants) pos → front ++ one said ≡ before s pos → front ++ literal (literal_at s pos) ≡ before s pos
last_literal s pos front said y e =
    let l = last s constants refl pos y in
    let p = same_front front l.front said (said_of s (last_token s pos)) (e ∙ l.is) in
    let n = not_name (kind s (last_token s pos)) l.read in
    let is : said_of s (last_token s pos) ≡ constant_said (literal_at s pos).constant (literal_at s pos).whole = rw (n, l.read) refl in
    ap (λ x. front ++ one x) (sym is ∙ sym p.1) ∙ e

-- kinds of words

place_less : (word : List ℕ) (lows : List (List ℕ)) (i : ℕ) → place_of word lows ≡ Some i → i < length lows
place_less word [] i e = absurd cc
place_less word (low ∷ lows) i e = at (is_same word low) (place_of word lows) refl (λ j. place_less word lows j) e
  where
    at : (b : Bool) (o : Option ℕ) → place_of word lows ≡ o → ((j : ℕ) → place_of word lows ≡ Some j → j < length lows)
        → (if b then Some 0 else further 1 o) ≡ Some i → i < suc (length lows)
    at true o f g h = let z : 0 ≡ i = cc in omega (arith, z)
    at false None f g h = absurd cc
    at false (Some j) f g h = let z : 1 + j ≡ i = cc in let k = g j f in omega (arith, z, k)

reserved_less : (bytes : List ℕ) (i : ℕ) → reserved bytes ≡ Some i → i < 59
unfolding reserved
reserved_less bytes i e = place_less bytes words i e

-- a name is no numeral, and no NULL
name_other : (n k : ℕ) → k < 60 ⊎ (k ≡ 61) → name_kind n ≡ k → ⊥
name_other n k o h = at (nat_le 1 n) (nat_le n 64) h
  where
    far : symbol.NAME ≡ k ⊎ (symbol.NOWHERE ≡ k) → ⊥
    far (inl e) = elim o [ inl l ↦ omega (arith, l, e) | inr f ↦ omega (arith, e, f) ]
    far (inr e) = elim o [ inl l ↦ omega (arith, l, e) | inr f ↦ omega (arith, e, f) ]

    at : (b c : Bool) → (if b && c then symbol.NAME else symbol.NOWHERE) ≡ k → ⊥
    at true true h = far (inl h)
    at true false h = far (inr h)
    at false c h = far (inr h)

free_other : (o : Option ℕ) (n k : ℕ) → k < 60 ⊎ (k ≡ 61) → free_kind o n ≡ k → ⊥
free_other (Some i) n k o h = elim o [ inl l ↦ omega (arith, l, h) | inr f ↦ omega (arith, f, h) ]
free_other None n k o h = name_other n k o h

known_is : (o : Option ℕ) (bytes : List ℕ) (k : ℕ) → k < 60 ⊎ (k ≡ 61) → known_kind o bytes ≡ k → o ≡ Some k
known_is (Some i) bytes k o h = ap (λ (j : ℕ). Some j) h
known_is None bytes k o h = absurd (free_other (soft bytes) (length bytes) k o h)

pub numeral_is : (k : Kind) (bytes : List ℕ) → kind_of k bytes ≡ symbol.NUMERAL → k ≡ token_kind.Numeral
numeral_is token_kind.Word bytes e =
    let o = known_is (reserved bytes) bytes symbol.NUMERAL (inr refl) e in
    let l = reserved_less bytes symbol.NUMERAL o in
    absurd (omega (arith, l))
numeral_is token_kind.Name bytes e = absurd (name_other (length (single 34 false (inner bytes))) symbol.NUMERAL (inr refl) e)
numeral_is token_kind.Numeral bytes e = refl
numeral_is _ bytes e = absurd (omega (arith, e))

positive_said : (d w : ℕ) → constant_said (positive d) w ≡ Number w
positive_said d w = at (nat_lt d (2 ^ 127))
  where
    at : (b : Bool) → constant_said (if b then constant.Value (value.Num (plus d)) else constant.TooLong) w ≡ Number w
    at true = refl
    at false = refl

negative_said : (d w : ℕ) → constant_said (negative d) w ≡ Number w
negative_said d w = at (nat_le d (2 ^ 127))
  where
    at : (b : Bool) → constant_said (if b then constant.Value (value.Num (neg_ℤ (plus d))) else constant.TooLong) w ≡ Number w
    at true = refl
    at false = refl

-- a numeral says its number
numeral_said : (k : Kind) (bytes : List ℕ) → k ≡ token_kind.Numeral → constant_said (constant_of k bytes) (whole_of k bytes) ≡ Number (whole (decimal 0 bytes))
numeral_said k bytes e = rw e (positive_said (decimal 0 bytes) (whole (decimal 0 bytes)))

pub last_negative : (s : Source) (pos : ℕ) (front : List Said) (said : Said) → IsReady s (Some (symbol.NUMERAL ∷ [])) pos
    → (front ++ word symbol.MINUS) ++ one said ≡ before s pos → front ++ literal (negative_at s pos) ≡ before s pos
last_negative s pos front said y e =
    let t = last_token s pos in
    let l = last s (symbol.NUMERAL ∷ []) refl pos y in
    let p = same_front (front ++ word symbol.MINUS) l.front said (said_of s t) (e ∙ l.is) in
    let k : kind s t ≡ symbol.NUMERAL = elim (or_cases (symbol.NUMERAL == kind s t) false l.read) [ inl a ↦ sym (eqb-true symbol.NUMERAL (kind s t) a) | inr b ↦ absurd cc ] in
    let d = decimal 0 (bytes_of s.text t) in
    let is : said_of s t ≡ constant_said (constant_of t.kind (bytes_of s.text t)) (whole_of t.kind (bytes_of s.text t)) = rw k refl in
    let number : said ≡ constant_said (negative d) (whole d) = p.1 ∙ is ∙ numeral_said t.kind (bytes_of s.text t) (numeral_is t.kind (bytes_of s.text t) k) ∙ sym (negative_said d (whole d)) in
    sym (append_assoc front (word symbol.MINUS) (one (constant_said (negative d) (whole d)))) ∙ ap (λ x. (front ++ word symbol.MINUS) ++ one x) (sym number) ∙ e

-- NULL

same_folded : (word low : List ℕ) → is_same word low ≡ true → folded word ≡ low
same_folded [] [] e = refl
same_folded [] (c ∷ cs) e = absurd cc
same_folded (b ∷ bs) [] e = absurd cc
same_folded (b ∷ bs) (c ∷ cs) e =
    let p = and_parts (fold b == c) (is_same bs cs) e in
    let q = eqb-true (fold b) c p.0 in
    let r = same_folded bs cs p.1 in
    cc

place_same : (word : List ℕ) (lows : List (List ℕ)) (i : ℕ) → place_of word lows ≡ Some i → is_same word (slice_index_or lows i []) ≡ true
place_same word [] i e = absurd cc
place_same word (low ∷ lows) i e = at (is_same word low) refl (place_of word lows) refl (λ j. place_same word lows j) e
  where
    at : (b : Bool) → is_same word low ≡ b → (o : Option ℕ) → place_of word lows ≡ o → ((j : ℕ) → place_of word lows ≡ Some j → is_same word (slice_index_or lows j []) ≡ true) → (if b then Some 0 else further 1 o) ≡ Some i → is_same word (slice_index_or (low ∷ lows) i []) ≡ true
    at true f o g r h = let z : 0 ≡ i = cc in rw (← z) f
    at false f None g r h = absurd cc
    at false f (Some j) g r h =
        let z : 1 + j ≡ i = cc in
        let n : suc j ≡ i = omega (arith, z) in
        rw (← n) (r j g)

null_word : (bytes : List ℕ) → reserved bytes ≡ Some symbol.NULL → folded bytes ≡ codes "null"
unfolding reserved
null_word bytes e = same_folded bytes (codes "null") (place_same bytes words symbol.NULL e)

null_constant : (bytes : List ℕ) → folded bytes ≡ codes "null" → word_constant bytes ≡ constant.Value value.Null
null_constant bytes e = at (is_same bytes (codes "true")) refl (is_same bytes (codes "false")) refl
  where
    at : (b : Bool) → is_same bytes (codes "true") ≡ b → (c : Bool) → is_same bytes (codes "false") ≡ c
        → (if b then constant.Value (value.Bool true) else if c then constant.Value (value.Bool false) else constant.Value value.Null) ≡ constant.Value value.Null
    at true f c g = let z : codes "true" ≡ codes "null" = sym (same_folded bytes (codes "true") f) ∙ e in let y : 116 ≡ 110 = ap (λ (l : List ℕ). slice_index_or l 0 0) z in absurd (omega (arith, y))
    at false f true g = let z : codes "false" ≡ codes "null" = sym (same_folded bytes (codes "false") g) ∙ e in let y : 102 ≡ 110 = ap (λ (l : List ℕ). slice_index_or l 0 0) z in absurd (omega (arith, y))
    at false f false g = refl

null_constant_of : (k : Kind) (bytes : List ℕ) → kind_of k bytes ≡ symbol.NULL → constant_said (constant_of k bytes) (whole_of k bytes) ≡ Word symbol.NULL
null_constant_of token_kind.Word bytes e =
    let o = known_is (reserved bytes) bytes symbol.NULL (inl (omega arith)) e in
    rw (null_constant bytes (null_word bytes o)) refl
null_constant_of token_kind.Name bytes e = absurd (name_other (length (single 34 false (inner bytes))) symbol.NULL (inl (omega arith)) e)
null_constant_of _ bytes e = absurd (omega (arith, e))

pub null_said : (s : Source) (t : Token) → kind s t ≡ symbol.NULL → said_of s t ≡ Word symbol.NULL
null_said s t e =
    let is : said_of s t ≡ constant_said (constant_of t.kind (bytes_of s.text t)) (whole_of t.kind (bytes_of s.text t)) = rw e refl in
    is ∙ null_constant_of t.kind (bytes_of s.text t) e
