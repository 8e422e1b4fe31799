-- A comment ends at its first `*/`.
use Rattle.std.proofs.lemmas.Bool.{eqb-false}
use Rattle.std.proofs.Common.{eqb-true, ◌≡◌, ℕ, ◌+◌, ◌≤◌, Bool, true, false, ◌==◌, List, [], ◌∷◌, ◌++◌, Option, Some, None, length, refl, sym, ap, ◌∙◌, arith, if◌then◌else◌, length-append}
use Rattle.sql_tokens.specs.Lengths.{commented, further}
use Rattle.sql_tokens.specs.Laws.{NoEnd, EndsComment, CommentEnds, begins}

short : (bytes : List ℕ) → length bytes ≤ 1 → NoEnd bytes
short bytes h xs ys e = omega (arith, ap length e, length-append xs (42 ∷ 47 ∷ ys))

-- one byte more in front, which begins no `*/`
more : (b : ℕ) (bytes : List ℕ) → (b ≡ 42 → begins 47 bytes ≡ false) → NoEnd bytes → NoEnd (b ∷ bytes)
more b bytes f h [] ys e =
    let i : b ≡ 42 = cc in
    let j : bytes ≡ 47 ∷ ys = cc in
    let k : begins 47 bytes ≡ true = rw j refl in
    let l : begins 47 bytes ≡ false = f i in
    let m : true ≡ false = sym k ∙ l in cc
more b bytes f h (x ∷ xs) ys e = let j : bytes ≡ xs ++ 42 ∷ 47 ∷ ys = cc in h xs ys j

more_ends : (b n : ℕ) (bytes : List ℕ) → (b ≡ 42 → begins 47 bytes ≡ false) → EndsComment n bytes → EndsComment (1 + n) (b ∷ bytes)
more_ends b n bytes f w = record {
  inside = b ∷ w.inside;
  rest = w.rest;
  is = ap (λ x. b ∷ x) w.is;
  ends = omega (arith, w.ends);
  first = more b (w.inside ++ 42 ∷ []) (λ i. front w.inside (f i) w.is) w.first;
}
  where
    front : (xs : List ℕ) → begins 47 bytes ≡ false → bytes ≡ xs ++ 42 ∷ 47 ∷ w.rest → begins 47 (xs ++ 42 ∷ []) ≡ false
    front [] h e = refl
    front (x ∷ xs) h e = rw e at h

-- the bytes with the `*` before them
abbrev body : Bool → List ℕ → List ℕ
body true bs = 42 ∷ bs
body false bs = bs

abbrev plus : Bool → ℕ → ℕ
plus true n = 1 + n
plus false n = n

record Says (star : Bool) (bs : List ℕ) : Type 0 where
  some : (n : ℕ) → commented star bs ≡ Some n → EndsComment (plus star n) (body star bs)
  none : commented star bs ≡ None → NoEnd (body star bs)

record Inner (o : Option ℕ) (n : ℕ) : Type 0 where
  m : ℕ
  is : o ≡ Some m
  next : n ≡ 1 + m

inner : (o : Option ℕ) (n : ℕ) → further 1 o ≡ Some n → Inner o n
inner None n e = cc
inner (Some m) n e = record { m = m; is = refl; next = cc }

outer : (o : Option ℕ) → further 1 o ≡ None → o ≡ None
outer None e = refl
outer (Some m) e = cc

-- what is said of the bytes after b is said of those from b on
record From (c : Bool) (b : ℕ) (bs : List ℕ) : Type 0 where
  some : (n : ℕ) → commented c bs ≡ Some n → EndsComment (1 + n) (b ∷ bs)
  none : commented c bs ≡ None → NoEnd (b ∷ bs)

from : (c : Bool) (b : ℕ) (bs : List ℕ) → (b == 42) ≡ c → Says c bs → From c b bs
from true b bs e s =
    let i : b ≡ 42 = eqb-true b 42 e in
    record { some = λ n h. rw i (s.some n h); none = λ h. rw i (s.none h) }
from false b bs e s =
    record {
      some = λ n h. more_ends b n bs (λ i. absurd (eqb-false b 42 e i)) (s.some n h);
      none = λ h. more b bs (λ i. absurd (eqb-false b 42 e i)) (s.none h);
    }

-- and of those from a `*` before it on, where b is no `/`
step_star : (b : ℕ) (bs : List ℕ) (c : Bool) → (b == 47) ≡ c → From (b == 42) b bs
    → ((n : ℕ) → (if c then Some 1 else further 1 (commented (b == 42) bs)) ≡ Some n → EndsComment (1 + n) (42 ∷ b ∷ bs))
step_star b bs true e s n h =
    let i : b ≡ 47 = eqb-true b 47 e in
    let j : n ≡ 1 = cc in
    rw i (record { inside = []; rest = bs; is = refl; ends = omega arith; first = short (42 ∷ []) (omega arith) })
step_star b bs false e s n h =
    let r = inner (commented (b == 42) bs) n h in
    rw r.next (more_ends 42 (1 + r.m) (b ∷ bs) (λ i. e) (s.some r.m r.is))

none_star : (b : ℕ) (bs : List ℕ) (c : Bool) → (b == 47) ≡ c → From (b == 42) b bs
    → (if c then Some 1 else further 1 (commented (b == 42) bs)) ≡ None → NoEnd (42 ∷ b ∷ bs)
none_star b bs true e s h = cc
none_star b bs false e s h = more 42 (b ∷ bs) (λ i. e) (s.none (outer (commented (b == 42) bs) h))

says : (star : Bool) (bs : List ℕ) → Says star bs
says true [] = record { some = λ n h. cc; none = λ h. short (42 ∷ []) (omega arith) }
says false [] = record { some = λ n h. cc; none = λ h. short [] (omega arith) }
says true (b ∷ bs) =
    let f = from (b == 42) b bs refl (says (b == 42) bs) in
    record { some = step_star b bs (b == 47) refl f; none = none_star b bs (b == 47) refl f }
says false (b ∷ bs) =
    let f = from (b == 42) b bs refl (says (b == 42) bs) in
    record {
      some = λ n h. let r = inner (commented (b == 42) bs) n h in rw r.next (f.some r.m r.is);
      none = λ h. f.none (outer (commented (b == 42) bs) h);
    }

pub comment_ends : CommentEnds
comment_ends bytes = let s = says false bytes in (s.some, s.none)
