-- Quotations as they are written and read.
use Rattle.std.proofs.Common.{inl, inr, ◌⊎◌, ◌≡◌, ℕ, suc, ◌+◌, Bool, true, false, not, ◌==◌, List, [], ◌∷◌, ◌++◌, Option, Some, None, arith, refl, sym, ap, length, if◌then◌else◌, eqb-true}
use Rattle.std.proofs.lemmas.Bool.{eq-eqb}
use Rattle.sql_tokens.specs.Lengths.{quoted, further}
use Rattle.sql_tokens.specs.Values.{single}
use Rattle.sql_tokens.specs.Laws.{doubled, begins, WrittenIsRead, IsWritten, ReadIsWritten}

same : (q : ℕ) → (q == q) ≡ true
same q = eq-eqb q q refl

-- written, then read

read_end : (q : ℕ) (rest : List ℕ) → begins q rest ≡ false → quoted q true rest ≡ Some 0
read_end q [] h = refl
read_end q (b ∷ bs) h = let e : (b == q) ≡ false = h in rw e refl

read_all : (q : ℕ) (text rest : List ℕ) → begins q rest ≡ false
    → quoted q false (doubled q text ++ q ∷ rest) ≡ Some (length (doubled q text) + 1)
read_all q [] rest h = rw (same q, read_end q rest h) refl
read_all q (b ∷ bs) rest h = at (b == q) refl (read_all q bs rest h)
  where
    at : (c : Bool) → (b == q) ≡ c → quoted q false (doubled q bs ++ q ∷ rest) ≡ Some (length (doubled q bs) + 1)
        → quoted q false ((if c then q ∷ q ∷ doubled q bs else b ∷ doubled q bs) ++ q ∷ rest) ≡ Some (length (if c then q ∷ q ∷ doubled q bs else b ∷ doubled q bs) + 1)
    at true e i =
        let n : 1 + (1 + (length (doubled q bs) + 1)) ≡ suc (suc (length (doubled q bs))) + 1 = omega arith in
        rw (same q, i) (ap (λ x. Some x) n)
    at false e i =
        let n : 1 + (length (doubled q bs) + 1) ≡ suc (length (doubled q bs)) + 1 = omega arith in
        rw (e, i) (ap (λ x. Some x) n)

said : (q : ℕ) (text : List ℕ) → single q false (doubled q text) ≡ text
said q [] = refl
said q (b ∷ bs) = at (b == q) refl (said q bs)
  where
    at : (c : Bool) → (b == q) ≡ c → single q false (doubled q bs) ≡ bs → single q false (if c then q ∷ q ∷ doubled q bs else b ∷ doubled q bs) ≡ b ∷ bs
    at true e i = rw (same q, i) (ap (λ x. x ∷ bs) (sym (eqb-true b q e)))
    at false e i = rw (e, i) refl

pub written_is_read : WrittenIsRead
written_is_read q text rest h = (read_all q text rest h, said q text)

-- read, so written

record Inner (o : Option ℕ) (n : ℕ) : Type 0 where
  m : ℕ
  is : o ≡ Some m
  next : n ≡ 1 + m

inner : (o : Option ℕ) (n : ℕ) → further 1 o ≡ Some n → Inner o n
inner None n e = cc
inner (Some m) n e = record { m = m; is = refl; next = cc }

record Goes (q n : ℕ) (bytes : List ℕ) : Type 0 where
  cs : List ℕ
  m : ℕ
  is : bytes ≡ q ∷ cs
  next : n ≡ 1 + m
  written : IsWritten q m cs

abbrev Reads : ℕ → Bool → ℕ → List ℕ → Type 0
Reads q false n bytes = IsWritten q n bytes
Reads q true n bytes = ((n ≡ 0) × (begins q bytes ≡ false)) ⊎ Goes q n bytes

plain : (q b n m : ℕ) (bs : List ℕ) → (b == q) ≡ false → n ≡ 1 + m → IsWritten q m bs → IsWritten q n (b ∷ bs)
plain q b n m bs e i w = record {
  text = b ∷ w.text;
  rest = w.rest;
  is = rw e (ap (λ x. b ∷ x) w.is);
  alone = w.alone;
  ends = rw e (omega (arith, w.ends));
}

pair : (q b n m : ℕ) (bs : List ℕ) → b ≡ q → n ≡ 1 + m → Reads q true m bs → IsWritten q n (b ∷ bs)
pair q b n m bs e i (inl h) = record { text = []; rest = bs; is = ap (λ x. x ∷ bs) e; alone = h.1; ends = omega (arith, h.0) }
pair q b n m bs e i (inr g) = record {
  text = q ∷ g.written.text;
  rest = g.written.rest;
  is = rw (same q, e, g.is, ← g.written.is) refl;
  alone = g.written.alone;
  ends = rw (same q) (omega (arith, g.next, g.written.ends));
}

reads : (q : ℕ) (shut : Bool) (n : ℕ) (bytes : List ℕ) → quoted q shut bytes ≡ Some n → Reads q shut n bytes
reads q true n [] h = inl (cc, refl)
reads q false n [] h = cc
reads q true n (b ∷ bs) h = at (b == q) refl h (λ m i. reads q false m bs i)
  where
    at : (c : Bool) → (b == q) ≡ c → (if not c then Some 0 else further 1 (quoted q false bs)) ≡ Some n
        → ((m : ℕ) → quoted q false bs ≡ Some m → IsWritten q m bs) → Reads q true n (b ∷ bs)
    at false e h f = inl (cc, e)
    at true e h f =
        let r = inner (quoted q false bs) n h in
        inr (record { cs = bs; m = r.m; is = ap (λ x. x ∷ bs) (eqb-true b q e); next = r.next; written = f r.m r.is })
reads q false n (b ∷ bs) h = at (b == q) refl h (λ c m i. reads q c m bs i)
  where
    at : (c : Bool) → (b == q) ≡ c → further 1 (quoted q c bs) ≡ Some n
        → ((d : Bool) (m : ℕ) → quoted q d bs ≡ Some m → Reads q d m bs) → IsWritten q n (b ∷ bs)
    at true e h f = let r = inner (quoted q true bs) n h in pair q b n r.m bs (eqb-true b q e) r.next (f true r.m r.is)
    at false e h f = let r = inner (quoted q false bs) n h in plain q b n r.m bs e r.next (f false r.m r.is)

pub read_is_written : ReadIsWritten
read_is_written q bytes n h = reads q false n bytes h
