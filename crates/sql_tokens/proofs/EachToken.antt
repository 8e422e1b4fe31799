-- What holds of each token of a text, by what its kind tells of its bytes.
use Rattle.std.proofs.Common.{eqb-true, ◌≡◌, ℕ, zero, suc, ◌+◌, ◌-◌, Bool, true, false, not, ◌==◌, ◌&&◌, List, [], ◌∷◌, ◌++◌, Option, Some, None, arith, refl, sym, ap, ◌∙◌, subst, cond, length, take, drop, get_or, append_assoc, if◌then◌else◌, length-append}
use Rattle.std.specs.Str.{is_utf8}
use Rattle.std.specs.List.{All, list_all, prefix_len}
use Rattle.std.proofs.lemmas.List.Elements.{All-nil, All-cons, All-append}
use Rattle.sql_tokens.specs.declared.token.Kind.{Kind}
use Rattle.sql_tokens.specs.declared.token.Kind.TheVariants as kind
use Rattle.sql_tokens.specs.declared.token.Token.{Token}
use Rattle.sql_tokens.specs.declared.pieces.Piece.{Piece}
use Rattle.sql_tokens.specs.declared.pieces.Opening.{Opening}
use Rattle.sql_tokens.specs.declared.pieces.Opening.TheVariants as begin
use Rattle.sql_tokens.specs.Bytes.{is_blank, is_digit, is_letter, is_word, is_printable}
use Rattle.sql_tokens.specs.Lengths.{quoted, commented, digits, fraction, exponent}
use Rattle.sql_tokens.specs.Values.{single}
use Rattle.sql_tokens.specs.Parts.{bytes_of, inner}
use Rattle.sql_tokens.specs.Pieces.{piece, piece_of, opens, closed, comment, number_of, sign, one}
use Rattle.sql_tokens.specs.Tokens.{tokens_after, seen}
use Rattle.sql_tokens.specs.Laws.{doubled}
use Rattle.sql_tokens.proofs.Written.{written_is_read, read_is_written}
use Rattle.sql_tokens.proofs.TextParts.{take_front, drop_front}

-- kinds of tokens that are no word, name or string

unfoldable pub plain : Option Kind → Bool
plain None = true
plain (Some kind.Word) = false
plain (Some kind.Name) = false
plain (Some kind.Text) = false
plain (Some _) = true

record IsPlain (p : Piece) : Type 0 where
  is : plain p.kind ≡ true

plain_one : (k : Kind) (n : ℕ) → plain (Some k) ≡ true → IsPlain (one k n)
plain_one k n e = record { is = e }

pick : (c : Bool) (x y : Piece) → IsPlain x → IsPlain y → IsPlain (if c then x else y)
pick true x y p q = p
pick false x y p q = q

number_plain : (n p q b : ℕ) → IsPlain (number_of n p q b)
unfolding plain
number_plain n p q b = pick (not (p + q == 0)) _ _ (plain_one kind.Fraction (n + p + q) refl) (at (is_letter b))
  where
    at : (c : Bool) → IsPlain (one (if c then kind.Bad else kind.Numeral) n)
    at true = plain_one kind.Bad n refl
    at false = plain_one kind.Numeral n refl

comment_plain : (text : List ℕ) (o : Option ℕ) → IsPlain (comment text o)
unfolding plain
comment_plain text None = record { is = refl }
comment_plain text (Some n) = record { is = refl }

sign_plain : (a b : ℕ) → IsPlain (sign a b)
unfolding plain
sign_plain a b =
    pick (a == 60 && b == 62) _ _ (plain_one kind.NotEqual 2 refl) (pick (a == 33 && b == 61) _ _ (plain_one kind.NotEqual 2 refl)
    (pick (a == 60 && b == 61) _ _ (plain_one kind.AtMost 2 refl) (pick (a == 62 && b == 61) _ _ (plain_one kind.AtLeast 2 refl)
    (pick (a == 124 && b == 124) _ _ (plain_one kind.Join 2 refl) (pick (a == 40) _ _ (plain_one kind.Open 1 refl)
    (pick (a == 41) _ _ (plain_one kind.Close 1 refl) (pick (a == 44) _ _ (plain_one kind.Comma 1 refl)
    (pick (a == 46) _ _ (plain_one kind.Dot 1 refl) (pick (a == 59) _ _ (plain_one kind.Semicolon 1 refl)
    (pick (a == 61) _ _ (plain_one kind.Equal 1 refl) (pick (a == 60) _ _ (plain_one kind.Less 1 refl)
    (pick (a == 62) _ _ (plain_one kind.Greater 1 refl) (pick (a == 43) _ _ (plain_one kind.Plus 1 refl)
    (pick (a == 45) _ _ (plain_one kind.Minus 1 refl) (pick (a == 42) _ _ (plain_one kind.Times 1 refl) (plain_one kind.Bad 1 refl))))))))))))))))

-- words

run_all : (p : ℕ → Bool) (bs : List ℕ) → list_all p (take (prefix_len p bs) bs) ≡ true
run_all p [] = refl
run_all p (b ∷ bs) = at (p b) refl (run_all p bs)
  where
    at : (c : Bool) → p b ≡ c → list_all p (take (prefix_len p bs) bs) ≡ true → list_all p (take (cond c (1 + prefix_len p bs) 0) (b ∷ bs)) ≡ true
    at true is h =
        let next : 1 + prefix_len p bs ≡ suc (prefix_len p bs) = omega arith in rw next (rw is h)
    at false is h = refl

-- quotations

pub record Quoted (q : ℕ) (bytes : List ℕ) : Type 0 where
  pub body : List ℕ
  pub is : bytes ≡ q ∷ (doubled q body ++ q ∷ [])

is_quoted : (q n : ℕ) (bs : List ℕ) → quoted q false bs ≡ Some n → Quoted q (take (1 + n) (q ∷ bs))
is_quoted q n bs e =
    let w = read_is_written q bs n e in
    let size : 1 + n ≡ suc (length (doubled q w.text ++ q ∷ [])) = omega (arith, w.ends, length-append (doubled q w.text) (q ∷ [])) in
    let all : bs ≡ (doubled q w.text ++ q ∷ []) ++ w.rest = w.is ∙ sym (append_assoc (doubled q w.text) (q ∷ []) w.rest) in
    record {
      body = w.text;
      is = ap (λ m. take m (q ∷ bs)) size ∙ ap (λ x. q ∷ take (length (doubled q w.text ++ q ∷ [])) x) all
          ∙ ap (λ x. q ∷ x) (take_front (doubled q w.text ++ q ∷ []) w.rest);
    }

pub inner_is : (q : ℕ) (bytes : List ℕ) (w : Quoted q bytes) → single q false (inner bytes) ≡ w.body
inner_is q bytes w =
    let size : length (q ∷ (doubled q w.body ++ q ∷ [])) - 2 ≡ length (doubled q w.body) = omega (arith, length-append (doubled q w.body) (q ∷ [])) in
    let inside : inner (q ∷ (doubled q w.body ++ q ∷ [])) ≡ doubled q w.body =
    ap (λ n. take n (doubled q w.body ++ q ∷ [])) size ∙ take_front (doubled q w.body) (q ∷ []) in
    ap (λ x. single q false (inner x)) w.is ∙ ap (single q false) inside ∙ (written_is_read q w.body [] refl).1

-- what opens with a quote

abbrev opening : Bool → Bool → Bool → Bool → Bool → Bool → Bool → Opening
opening c0 c1 c2 c3 c4 c5 c6 =
    if c0 then begin.Space else if c1 then begin.Line else if c2 then begin.Block else if c3 then begin.Letter else if c4 then begin.Digit
    else if c5 then begin.Double else if c6 then begin.Single else begin.Other

double_is : (c0 c1 c2 c3 c4 c5 c6 : Bool) → opening c0 c1 c2 c3 c4 c5 c6 ≡ begin.Double → c5 ≡ true
double_is true c1 c2 c3 c4 c5 c6 e = cc
double_is false true c2 c3 c4 c5 c6 e = cc
double_is false false true c3 c4 c5 c6 e = cc
double_is false false false true c4 c5 c6 e = cc
double_is false false false false true c5 c6 e = cc
double_is false false false false false true c6 e = refl
double_is false false false false false false true e = cc
double_is false false false false false false false e = cc

single_is : (c0 c1 c2 c3 c4 c5 c6 : Bool) → opening c0 c1 c2 c3 c4 c5 c6 ≡ begin.Single → c6 ≡ true
single_is true c1 c2 c3 c4 c5 c6 e = cc
single_is false true c2 c3 c4 c5 c6 e = cc
single_is false false true c3 c4 c5 c6 e = cc
single_is false false false true c4 c5 c6 e = cc
single_is false false false false true c5 c6 e = cc
single_is false false false false false true c6 e = cc
single_is false false false false false false true e = refl
single_is false false false false false false false e = cc

double_byte : (a b : ℕ) → opens a b ≡ begin.Double → a ≡ 34
double_byte a b e =
    eqb-true a 34 (double_is (is_blank a) (a == 45 && b == 45) (a == 47 && b == 42) (is_letter a) (is_digit a) (a == 34) (a == 39) e)

single_byte : (a b : ℕ) → opens a b ≡ begin.Single → a ≡ 39
single_byte a b e =
    eqb-true a 39 (single_is (is_blank a) (a == 45 && b == 45) (a == 47 && b == 42) (is_letter a) (is_digit a) (a == 34) (a == 39) e)

-- words of bytes of words, names and strings in quotes that pass their tests, and any other token
module _ (P : Kind → List ℕ → Type 0)
    (words : (bytes : List ℕ) → list_all is_word bytes ≡ true → P kind.Word bytes)
    (names : (bytes : List ℕ) → Quoted 34 bytes → list_all is_printable bytes ≡ true → P kind.Name bytes)
    (strings : (bytes : List ℕ) → Quoted 39 bytes → is_utf8 bytes ≡ true → P kind.Text bytes)
    (others : (k : Kind) (bytes : List ℕ) → plain (Some k) ≡ true → P k bytes) where
  bad : (bytes : List ℕ) → P kind.Bad bytes
  unfolding plain
  bad bytes = others kind.Bad bytes refl

  of_plain : (p : Piece) (k : Kind) (bytes : List ℕ) → IsPlain p → p.kind ≡ Some k → P k bytes
  of_plain p k bytes h e = others k bytes (sym (ap plain e) ∙ h.is)

  closed_has : (q : ℕ) (k : Kind) (good : List ℕ → Bool) (bs : List ℕ)
      → ((bytes : List ℕ) → Quoted q bytes → good bytes ≡ true → P k bytes) → (o : Option ℕ) → quoted q false bs ≡ o
      → (j : Kind) → (closed k good (q ∷ bs) o).kind ≡ Some j → P j (take (closed k good (q ∷ bs) o).len (q ∷ bs))
  closed_has q k good bs f None e j is =
      let same : kind.Bad ≡ j = cc in subst (λ x. P x (take (length (q ∷ bs)) (q ∷ bs))) same (bad (take (length (q ∷ bs)) (q ∷ bs)))
  closed_has q k good bs f (Some n) e j is = at (good (take (1 + n) (q ∷ bs))) refl is
    where
      at : (c : Bool) → good (take (1 + n) (q ∷ bs)) ≡ c → Some (if c then k else kind.Bad) ≡ Some j → P j (take (1 + n) (q ∷ bs))
      at true is_good is = let same : k ≡ j = cc in subst (λ x. P x (take (1 + n) (q ∷ bs))) same (f (take (1 + n) (q ∷ bs)) (is_quoted q n bs e) is_good)
      at false is_good is = let same : kind.Bad ≡ j = cc in subst (λ x. P x (take (1 + n) (q ∷ bs))) same (bad (take (1 + n) (q ∷ bs)))

  -- pieces

  abbrev Has : Opening → ℕ → List ℕ → Type 0
  Has o b bs = (k : Kind) → (piece_of o (b ∷ bs)).kind ≡ Some k → P k (take (piece_of o (b ∷ bs)).len (b ∷ bs))

  of_kinds : (o : Opening) (b c : ℕ) (bs : List ℕ) → opens b c ≡ o → Has o b bs
  of_kinds begin.Space b c bs e k is = cc
  of_kinds begin.Line b c bs e k is = cc
  of_kinds begin.Block b c bs e k is = of_plain (piece_of begin.Block (b ∷ bs)) k _ (comment_plain (b ∷ bs) (commented false (drop 2 (b ∷ bs)))) is
  of_kinds begin.Letter b c bs e k is =
      let same : kind.Word ≡ k = cc in
      subst (λ x. P x (take (prefix_len is_word (b ∷ bs)) (b ∷ bs))) same
      (words (take (prefix_len is_word (b ∷ bs)) (b ∷ bs)) (run_all is_word (b ∷ bs)))
  of_kinds begin.Digit b c bs e k is =
      of_plain (piece_of begin.Digit (b ∷ bs)) k _
      (number_plain (digits (b ∷ bs)) (fraction (drop (digits (b ∷ bs)) (b ∷ bs))) (exponent (drop (digits (b ∷ bs) + fraction (drop (digits (b ∷ bs)) (b ∷ bs))) (b ∷ bs))) (get_or (b ∷ bs) (digits (b ∷ bs)) 0)) is
  of_kinds begin.Double b c bs e k is =
      let all : Has begin.Double b bs = subst (λ x. Has begin.Double x bs) (sym (double_byte b c e))
      (closed_has 34 kind.Name (list_all is_printable) bs names (quoted 34 false bs) refl) in
      all k is
  of_kinds begin.Single b c bs e k is =
      let all : Has begin.Single b bs = subst (λ x. Has begin.Single x bs) (sym (single_byte b c e))
      (closed_has 39 kind.Text is_utf8 bs strings (quoted 39 false bs) refl) in
      all k is
  of_kinds begin.Other b c bs e k is = of_plain (piece_of begin.Other (b ∷ bs)) k _ (sign_plain b (get_or (b ∷ bs) 1 0)) is

  piece_has : (b : ℕ) (bs : List ℕ) (k : Kind) → (piece (b ∷ bs)).kind ≡ Some k → P k (take (piece (b ∷ bs)).len (b ∷ bs))
  unfolding piece
  piece_has b bs = of_kinds (opens b (get_or (b ∷ bs) 1 0)) b (get_or (b ∷ bs) 1 0) bs refl

  -- tokens

  abbrev HasIn : List ℕ → Token → Type 0
  HasIn text t = P t.kind (bytes_of text t)

  seen_has : (front bs : List ℕ) (place n : ℕ) (o : Option Kind) → place ≡ length front → ((k : Kind) → o ≡ Some k → P k (take n bs))
      → All (HasIn (front ++ bs)) (seen place n o)
  seen_has front bs place n None e f = All-nil (HasIn (front ++ bs))
  seen_has front bs place n (Some k) e f =
      let size : place + n - place ≡ n = omega arith in
      let same : bytes_of (front ++ bs) (record { kind = k; start = place; end = place + n }) ≡ take n bs =
      ap (λ m. take m (drop place (front ++ bs))) size ∙ ap (take n) (ap (λ m. drop m (front ++ bs)) e ∙ drop_front front bs) in
      All-cons (HasIn (front ++ bs)) (record { kind = k; start = place; end = place + n }) [] (subst (P k) (sym same) (f k refl)) (All-nil (HasIn (front ++ bs)))

  tokens_have : (left place : ℕ) (front bs : List ℕ) → place ≡ length front → All (HasIn (front ++ bs)) (tokens_after left place bs)
  tokens_have left place front [] e = All-nil (HasIn (front ++ []))
  tokens_have (suc left) place front (b ∷ bs) e =
      subst (λ x. All (HasIn x) (tokens_after left (place + 1) bs)) (append_assoc front (b ∷ []) bs)
      (tokens_have left (place + 1) (front ++ b ∷ []) bs (omega (arith, length-append front (b ∷ []))))
  tokens_have zero place front (b ∷ bs) e =
      All-append (HasIn (front ++ b ∷ bs)) (seen place (piece (b ∷ bs)).len (piece (b ∷ bs)).kind) (tokens_after ((piece (b ∷ bs)).len - 1) (place + 1) bs)
      (seen_has front (b ∷ bs) place (piece (b ∷ bs)).len (piece (b ∷ bs)).kind e (piece_has b bs))
      (subst (λ x. All (HasIn x) (tokens_after ((piece (b ∷ bs)).len - 1) (place + 1) bs)) (append_assoc front (b ∷ []) bs)
      (tokens_have ((piece (b ∷ bs)).len - 1) (place + 1) (front ++ b ∷ []) bs (omega (arith, length-append front (b ∷ [])))))

  pub tokens_all : (text : List ℕ) → All (λ t. P t.kind (bytes_of text t)) (tokens_after 0 0 text)
  tokens_all text = tokens_have 0 0 [] text refl
