-- When more bytes are wanted, and when nothing is left.
use Rattle.std.proofs.Common.{◌≡◌, ℕ, ◌+◌, Bool, true, false, ◌&&◌, ◌||◌, append_assoc, List, [], ◌∷◌, ◌++◌, refl, sym, ap, ◌∙◌, if◌then◌else◌}
use Rattle.std.specs.List.{list_all}
use Rattle.sql_tokens.specs.declared.token.Token.{Token}
use Rattle.sql_tokens.specs.declared.cut.Found.TheVariants.{Statement, More, End}
use Rattle.sql_tokens.specs.Cut.{found, statement, cuts}
use Rattle.sql_tokens.proofs.Stays.{any_cut}
use Rattle.sql_tokens.specs.Laws.{HasCut, MoreExactly, EndExactly}

-- a `;` somewhere
record Some_cut (ts : List Token) : Type 0 where
  middle : List Token
  last : Token
  rest : List Token
  is : ts ≡ middle ++ last ∷ rest
  cut : cuts last.kind ≡ true

-- where a `;` comes, More is not found

any_at : (front rest : List Token) (last : Token) → cuts last.kind ≡ true → any_cut (front ++ last ∷ rest) ≡ true
unfolding any_cut
any_at [] rest last h = rw h refl
any_at (t ∷ ts) rest last h = at (cuts t.kind) (any_at ts rest last h)
  where
    at : (c : Bool) → any_cut (ts ++ last ∷ rest) ≡ true → (c || any_cut (ts ++ last ∷ rest)) ≡ true
    at true i = refl
    at false i = i

statement_more : (ended : Bool) (size start : ℕ) (ts : List Token) → any_cut ts ≡ true → statement ended size start ts ≡ More → ⊥
unfolding any_cut
statement_more ended size start [] h e = cc
statement_more ended size start (t ∷ ts) h e = at (cuts t.kind) h e (statement_more ended size start ts)
  where
    at : (c : Bool) → (c || any_cut ts) ≡ true → (if c then Statement start t.start (t.start + 1) else statement ended size start ts) ≡ More
        → (any_cut ts ≡ true → statement ended size start ts ≡ More → ⊥) → ⊥
    at true h e f = cc
    at false h e f = f h e

found_more : (ended : Bool) (size : ℕ) (front middle rest : List Token) (first last : Token) → cuts first.kind ≡ false → cuts last.kind ≡ true
    → found ended size (front ++ first ∷ (middle ++ last ∷ rest)) ≡ More → ⊥
found_more ended size [] middle rest first last o h e =
    let i : statement ended size first.start (middle ++ last ∷ rest) ≡ More = rw o at e in
    statement_more ended size first.start _ (any_at middle rest last h) i
found_more ended size (t ∷ ts) middle rest first last o h e = at (cuts t.kind) e (found_more ended size ts middle rest first last o h)
  where
    all : any_cut (ts ++ first ∷ (middle ++ last ∷ rest)) ≡ true
    all = let j : (ts ++ first ∷ middle) ++ last ∷ rest ≡ ts ++ first ∷ (middle ++ last ∷ rest) = append_assoc ts (first ∷ middle) (last ∷ rest) in
        rw (← j) (any_at (ts ++ first ∷ middle) rest last h)

    at : (c : Bool) → (if c then found ended size (ts ++ first ∷ (middle ++ last ∷ rest)) else statement ended size t.start (ts ++ first ∷ (middle ++ last ∷ rest))) ≡ More
        → (found ended size (ts ++ first ∷ (middle ++ last ∷ rest)) ≡ More → ⊥) → ⊥
    at true e f = f e
    at false e f = statement_more ended size t.start _ all e

-- where none comes, it is

statement_open : (size start : ℕ) (ts : List Token) → (Some_cut ts → ⊥) → statement false size start ts ≡ More
statement_open size start [] f = refl
statement_open size start (t ∷ ts) f = at (cuts t.kind) refl (statement_open size start ts)
  where
    at : (c : Bool) → cuts t.kind ≡ c → ((Some_cut ts → ⊥) → statement false size start ts ≡ More)
        → (if c then Statement start t.start (t.start + 1) else statement false size start ts) ≡ More
    at true e g = absurd (f (record { middle = []; last = t; rest = ts; is = refl; cut = e }))
    at false e g = g (λ s. f (record { middle = t ∷ s.middle; last = s.last; rest = s.rest; is = ap (λ x. t ∷ x) s.is; cut = s.cut }))

found_open : (size : ℕ) (ts : List Token) → (HasCut ts → ⊥) → found false size ts ≡ More
found_open size [] f = refl
found_open size (t ∷ ts) f = at (cuts t.kind) refl (found_open size ts)
  where
    at : (c : Bool) → cuts t.kind ≡ c → ((HasCut ts → ⊥) → found false size ts ≡ More)
        → (if c then found false size ts else statement false size t.start ts) ≡ More
    at true e g = g (λ h. f (record { front = t ∷ h.front; first = h.first; middle = h.middle; last = h.last; rest = h.rest; is = ap (λ x. t ∷ x) h.is; other = h.other; cut = h.cut }))
    at false e g = statement_open size t.start ts
        (λ s. f (record { front = []; first = t; middle = s.middle; last = s.last; rest = s.rest; is = ap (λ x. t ∷ x) s.is; other = e; cut = s.cut }))

-- at the end it never is

statement_ended : (size start : ℕ) (ts : List Token) → statement true size start ts ≡ More → ⊥
statement_ended size start [] e = cc
statement_ended size start (t ∷ ts) e = at (cuts t.kind) e (statement_ended size start ts)
  where
    at : (c : Bool) → (if c then Statement start t.start (t.start + 1) else statement true size start ts) ≡ More → (statement true size start ts ≡ More → ⊥) → ⊥
    at true e f = cc
    at false e f = f e

found_ended : (size : ℕ) (ts : List Token) → found true size ts ≡ More → ⊥
found_ended size [] e = cc
found_ended size (t ∷ ts) e = at (cuts t.kind) e (found_ended size ts)
  where
    at : (c : Bool) → (if c then found true size ts else statement true size t.start ts) ≡ More → (found true size ts ≡ More → ⊥) → ⊥
    at true e f = f e
    at false e f = statement_ended size t.start ts e

pub more_exactly : MoreExactly
more_exactly true size ts = ((λ e. absurd (found_ended size ts e)), (λ h. let w : true ≡ false = h.0 in cc))
more_exactly false size ts = (
  (λ e. (refl, λ h. found_more false size h.front h.middle h.rest h.first h.last h.other h.cut (sym (ap (found false size) h.is) ∙ e))),
  (λ h. found_open size ts h.1),
)

-- ends

statement_no : (ended : Bool) (size start : ℕ) (ts : List Token) → statement ended size start ts ≡ End → ⊥
statement_no true size start [] e = cc
statement_no false size start [] e = cc
statement_no ended size start (t ∷ ts) e = at (cuts t.kind) e (statement_no ended size start ts)
  where
    at : (c : Bool) → (if c then Statement start t.start (t.start + 1) else statement ended size start ts) ≡ End → (statement ended size start ts ≡ End → ⊥) → ⊥
    at true e f = cc
    at false e f = f e

ends_to : (ended : Bool) (size : ℕ) (ts : List Token) → found ended size ts ≡ End → (ended ≡ true) × (list_all (λ t. cuts t.kind) ts ≡ true)
ends_to true size [] e = (refl, refl)
ends_to false size [] e = (cc, refl)
ends_to ended size (t ∷ ts) e = at (cuts t.kind) e (ends_to ended size ts)
  where
    at : (c : Bool) → (if c then found ended size ts else statement ended size t.start ts) ≡ End
        → (found ended size ts ≡ End → (ended ≡ true) × (list_all (λ t. cuts t.kind) ts ≡ true))
        → (ended ≡ true) × ((c && list_all (λ t. cuts t.kind) ts) ≡ true)
    at true e f = f e
    at false e f = absurd (statement_no ended size t.start ts e)

ends_from : (size : ℕ) (ts : List Token) → list_all (λ t. cuts t.kind) ts ≡ true → found true size ts ≡ End
ends_from size [] h = refl
ends_from size (t ∷ ts) h = at (cuts t.kind) h (ends_from size ts)
  where
    at : (c : Bool) → (c && list_all (λ t. cuts t.kind) ts) ≡ true → (list_all (λ t. cuts t.kind) ts ≡ true → found true size ts ≡ End)
        → (if c then found true size ts else statement true size t.start ts) ≡ End
    at true h f = f h
    at false h f = cc

pub end_exactly : EndExactly
end_exactly true size ts = (ends_to true size ts, λ h. ends_from size ts h.1)
end_exactly false size ts = (ends_to false size ts, λ h. let w : false ≡ true = h.0 in cc)
