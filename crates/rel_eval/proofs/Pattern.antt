-- Patterns of LIKE, piece by piece.
use Rattle.std.proofs.Common.{◌≡◌, ◌∙◌, ℕ, ◌==◌, ◌||◌, ◌&&◌, not, if◌then◌else◌, Bool, true, false, true≢false, List, [], ◌∷◌, Some, None, refl, sym, ap, subst, ◌-◌, ◌≤◌, length, get_or, take, drop, arith}
use Rattle.std.proofs.lemmas.Bool.Decides.{nat_tests}
use Rattle.std.proofs.lemmas.Grind.{common_steps}
use Rattle.vdb_model.proofs.Ranges.{and_right}
use Rattle.vdb_model.specs.Words.{goes_on, after_char, is_like, some_end, one_char, same_byte}
use Rattle.rel_eval.specs.Pieces.{taken}

-- at the whole, or at a later end
either : (a b : Bool) {P : Type 0} → (a ≡ true → P) → (b ≡ true → P) → (a || b) ≡ true → P
either true b f g h = f refl
either false b f g h = g h

module _ (f : List ℕ → Bool) where
  or_true : (a : Bool) → (a || true) ≡ true
  or_true true = refl
  or_true false = refl

  at_whole : (t : List ℕ) → f t ≡ true → some_end f t ≡ true
  at_whole [] h = h
  at_whole (b ∷ bs) h = ap (λ a. a || some_end f bs) h

  at_later : (b : ℕ) (bs : List ℕ) → some_end f bs ≡ true → some_end f (b ∷ bs) ≡ true
  at_later b bs h = ap (λ a. f (b ∷ bs) || a) h ∙ or_true (f (b ∷ bs))

  after_later : (bs : List ℕ) → some_end f (after_char bs) ≡ true → some_end f bs ≡ true
  after_later [] h = h
  after_later (b ∷ bs) h = at (goes_on b) h (after_later bs)
    where
      at : (g : Bool) → some_end f (if g then after_char bs else b ∷ bs) ≡ true → (some_end f (after_char bs) ≡ true → some_end f bs ≡ true) → some_end f (b ∷ bs) ≡ true
      at true h ih = at_later b bs (ih h)
      at false h ih = h

  -- the first end that begins with a byte leaves the longest rest
  byte_first : (p : ℕ) (b : ℕ) (bs : List ℕ) → some_end (same_byte p f) (b ∷ bs) ≡ true → some_end f bs ≡ true
  byte_first p b bs h = either (same_byte p f (b ∷ bs)) (some_end (same_byte p f) bs) (λ e. at_whole bs (and_right (p == b) (f bs) e)) (later bs) h
    where
      later : (bs : List ℕ) → some_end (same_byte p f) bs ≡ true → some_end f bs ≡ true
      later [] h = absurd (true≢false (sym h))
      later (c ∷ cs) h = at_later c cs (either (same_byte p f (c ∷ cs)) (some_end (same_byte p f) cs) (λ e. at_whole cs (and_right (p == c) (f cs) e)) (later cs) h)

  -- and so does the first end that begins with a character
  char_first : (b : ℕ) (bs : List ℕ) → some_end (one_char f) (b ∷ bs) ≡ true → some_end f (after_char bs) ≡ true
  char_first b bs h = either (one_char f (b ∷ bs)) (some_end (one_char f) bs) (λ e. at_whole (after_char bs) (and_right (not (goes_on b)) (f (after_char bs)) e)) (later bs) h
    where
      later : (bs : List ℕ) → some_end (one_char f) bs ≡ true → some_end f (after_char bs) ≡ true
      later [] h = absurd (true≢false (sym h))
      later (c ∷ cs) h = at (goes_on c) (either (one_char f (c ∷ cs)) (some_end (one_char f) cs) (λ e. at_whole (after_char cs) (and_right (not (goes_on c)) (f (after_char cs)) e)) (later cs) h)
        where
          at : (g : Bool) → some_end f (after_char cs) ≡ true → some_end f (if g then after_char cs else c ∷ cs) ≡ true
          at true k = k
          at false k = at_later c cs (after_later cs k)

some_end_same : (f g : List ℕ → Bool) → ((t : List ℕ) → f t ≡ g t) → (t : List ℕ) → some_end f t ≡ some_end g t
some_end_same f g h [] = h []
some_end_same f g h (b ∷ bs) = ap (λ a. a || some_end f bs) (h (b ∷ bs)) ∙ ap (λ a. g (b ∷ bs) || a) (some_end_same f g h bs)

-- an end of an end is an end
some_end_twice : (f : List ℕ → Bool) (t : List ℕ) → some_end (some_end f) t ≡ some_end f t
some_end_twice f [] = refl
some_end_twice f (b ∷ bs) = ap (λ a. some_end f (b ∷ bs) || a) (some_end_twice f bs) ∙ at (f (b ∷ bs)) (some_end f bs)
  where
    at : (a b : Bool) → ((a || b) || b) ≡ (a || b)
    at true b = refl
    at false true = refl
    at false false = refl

module _ (p : ℕ) (ps : List ℕ) (other : (p == 37) ≡ false) where
  -- a pattern that begins with another byte than `%`
  takes : (text : List ℕ) → is_like (p ∷ ps) text ≡ (if p == 95 then one_char (is_like ps) text else same_byte p (is_like ps) text)
  takes text = rw other refl

  like_none : (text : List ℕ) → taken p text ≡ None → is_like (p ∷ ps) text ≡ false
  like_none [] h = takes [] ∙ at (p == 95)
    where
      at : (a : Bool) → (if a then false else false) ≡ false
      at true = refl
      at false = refl
  like_none (b ∷ bs) h = takes (b ∷ bs) ∙ at (p == 95) (goes_on b) (p == b) h
    where
      at : (a g e : Bool) → (if a then (if g then None else Some (after_char bs)) else (if e then Some bs else None)) ≡ None
          → (if a then not g && is_like ps (after_char bs) else e && is_like ps bs) ≡ false
      at true true e h = refl
      at true false e h = cc
      at false g true h = cc
      at false g false h = refl

  like_some : (text rest : List ℕ) → taken p text ≡ Some rest → is_like (p ∷ ps) text ≡ is_like ps rest
  like_some [] rest h = cc
  like_some (b ∷ bs) rest h = takes (b ∷ bs) ∙ at (p == 95) (goes_on b) (p == b) h
    where
      at : (a g e : Bool) → (if a then (if g then None else Some (after_char bs)) else (if e then Some bs else None)) ≡ Some rest
          → (if a then not g && is_like ps (after_char bs) else e && is_like ps bs) ≡ is_like ps rest
      at true true e h = cc
      at true false e h = cc
      at false g true h = cc
      at false g false h = cc

  like_first : (text rest : List ℕ) → taken p text ≡ Some rest → some_end (is_like (p ∷ ps)) text ≡ true → some_end (is_like ps) rest ≡ true
  like_first [] rest h k = cc
  like_first (b ∷ bs) rest h k = at (p == 95) refl (goes_on b) (p == b) h
    where
      at : (a : Bool) → (p == 95) ≡ a → (g e : Bool) → (if a then (if g then None else Some (after_char bs)) else (if e then Some bs else None)) ≡ Some rest → some_end (is_like ps) rest ≡ true
      at true q true e h = cc
      at true q false e h =
          let same : after_char bs ≡ rest = cc in
          subst (λ z. some_end (is_like ps) z ≡ true) same (char_first (is_like ps) b bs (sym (some_end_same (is_like (p ∷ ps)) (one_char (is_like ps)) (λ t. takes t ∙ rw q refl) (b ∷ bs)) ∙ k))
      at false q g true h =
          let same : bs ≡ rest = cc in
          subst (λ z. some_end (is_like ps) z ≡ true) same (byte_first (is_like ps) p b bs (sym (some_end_same (is_like (p ∷ ps)) (same_byte p (is_like ps)) (λ t. takes t ∙ rw q refl) (b ∷ bs)) ∙ k))
      at false q g false h = cc

-- what a slice pattern calls the rest
abbrev pub rest : List ℕ → List ℕ
rest ps = take (length ps - 1) (drop 1 ps)

rest_cons : (p : ℕ) (ps : List ℕ) → rest (p ∷ ps) ≡ ps
rest_cons p ps = grind (arith, common_steps)

is_not : (p q : ℕ) → (p ≡ q → ⊥) → (p == q) ≡ false
is_not p q h = grind (arith, nat_tests, h)

percent : (ps text : List ℕ) → 1 ≤ length ps → get_or ps 0 0 ≡ 37 → is_like ps text ≡ some_end (is_like (rest ps)) text
percent [] text h e = absurd (omega arith)
percent (p ∷ ps) text h e = rw (rest_cons p ps, e) refl

both_ways : (a b : Bool) → (a ≡ true → b ≡ true) → (b ≡ true → a ≡ true) → a ≡ b
both_ways true b f g = sym (f refl)
both_ways false true f g = g refl
both_ways false false f g = refl

-- at a `%`, after which what is left decides of the whole text and of its ends alike
pub ends_at_percent : (ps text pattern whole : List ℕ) → 1 ≤ length ps → get_or ps 0 0 ≡ 37 → is_like ps text ≡ is_like pattern whole
    → (some_end (is_like pattern) whole ≡ true → some_end (is_like ps) text ≡ true) → some_end (is_like pattern) whole ≡ some_end (is_like (rest ps)) text
ends_at_percent ps text pattern whole h e like first =
    let later : some_end (is_like ps) text ≡ some_end (is_like (rest ps)) text =
    some_end_same (is_like ps) (some_end (is_like (rest ps))) (λ t. percent ps t h e) text ∙ some_end_twice (is_like (rest ps)) text in
    both_ways _ _ (λ g. sym later ∙ first g) (λ g. at_whole (is_like pattern) whole (sym like ∙ percent ps text h e ∙ g))

pub like_at_percent : (ps text pattern whole : List ℕ) → 1 ≤ length ps → get_or ps 0 0 ≡ 37 → is_like ps text ≡ is_like pattern whole → some_end (is_like (rest ps)) text ≡ is_like pattern whole
like_at_percent ps text pattern whole h e like = sym (percent ps text h e) ∙ like

module _ (ps text : List ℕ) (some : 1 ≤ length ps) (other : get_or ps 0 0 ≡ 37 → ⊥) where
  next_none : taken (get_or ps 0 0) text ≡ None → is_like ps text ≡ false
  next_none k = at ps some other k
    where
      at : (ps : List ℕ) → 1 ≤ length ps → (get_or ps 0 0 ≡ 37 → ⊥) → taken (get_or ps 0 0) text ≡ None → is_like ps text ≡ false
      at [] h e k = absurd (omega (arith, h))
      at (p ∷ ps) h e k = like_none p ps (is_not p 37 e) text k

  pub next_some : (left : List ℕ) → taken (get_or ps 0 0) text ≡ Some left → is_like ps text ≡ is_like (rest ps) left
  next_some left k = at ps some other k
    where
      at : (ps : List ℕ) → 1 ≤ length ps → (get_or ps 0 0 ≡ 37 → ⊥) → taken (get_or ps 0 0) text ≡ Some left → is_like ps text ≡ is_like (rest ps) left
      at [] h e k = absurd (omega (arith, h))
      at (p ∷ ps) h e k = like_some p ps (is_not p 37 e) text left k ∙ ap (λ z. is_like z left) (sym (rest_cons p ps))

  pub next_first : (left : List ℕ) → taken (get_or ps 0 0) text ≡ Some left → some_end (is_like ps) text ≡ true → some_end (is_like (rest ps)) left ≡ true
  next_first left k = at ps some other k
    where
      at : (ps : List ℕ) → 1 ≤ length ps → (get_or ps 0 0 ≡ 37 → ⊥) → taken (get_or ps 0 0) text ≡ Some left → some_end (is_like ps) text ≡ true → some_end (is_like (rest ps)) left ≡ true
      at [] h e k g = absurd (omega (arith, h))
      at (p ∷ ps) h e k g = subst (λ z. some_end (is_like z) left ≡ true) (sym (rest_cons p ps)) (like_first p ps (is_not p 37 e) text left k g)
