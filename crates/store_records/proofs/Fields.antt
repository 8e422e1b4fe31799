-- Readers of fields: what was written is read again, and what is read was written so.
use Rattle.std.proofs.Common.{◌≡◌, ℕ, zero, suc, ◌+◌, ◌^◌, ◌<◌, ◌≤◌, Bool, true, false, cond, ltb, ◌&&◌, not, List, [], ◌∷◌, ◌++◌, length, get_or, take, drop, Option, Some, None, refl, sym, ap, subst, ◌∙◌, append_assoc, arith}
use Rattle.std.specs.Int.{Width, byte_len, from_be_bytes, to_be_bytes}
use Rattle.std.specs.List.{flat_map, list_all}
use Rattle.std.specs.Str.{is_utf8}
use Rattle.std.proofs.lemmas.Bool.{ltb-true, ltb-false, lt-ltb, le-ltb, and_parts, and_from, not-true}
use Rattle.std.proofs.lemmas.List.{take_at, drop_at, take-append-drop, length-append, length-take}
use Rattle.std.proofs.lemmas.List.Concat.{flat_map-cons}
use Rattle.store_records.specs.Fields.{◌>>=◌, Front, counted, lettered, is_short, is_text, number_at, letters_at, text_at, each_at, list_at}
use Rattle.store_records.proofs.Wide.{IsBytes, IsBytes-take, IsBytes-drop, IsWide}

-- what a reader took from the front, which has such bytes
pub record Takes (has : Bool) (text bytes rest : List ℕ) : Type 0 where
  pub fits : has ≡ true
  pub parts : bytes ≡ text ++ rest
  pub rest_fits : IsBytes rest

pub record Reads {A : Type 0} (bytes_of : A → List ℕ) (has : A → Bool) (at : List ℕ → Front A) : Type 0 where
  pub again : (a : A) (rest : List ℕ) → has a ≡ true → at (bytes_of a ++ rest) ≡ Some (a, rest)
  pub takes : (bytes : List ℕ) (found : A × List ℕ) → IsBytes bytes → at bytes ≡ Some found → Takes (has found.0) (bytes_of found.0) bytes found.1

-- the value of a step that found something
pub bind_some : {A B : Type 0} (o : Option A) (f : A → Option B) (y : B) → (o >>= f) ≡ Some y → (x : A) × (o ≡ Some x) × (f x ≡ Some y)
bind_some None f y e = absurd cc
bind_some (Some x) f y e = (x, refl, e)

pub some_is : {A : Type 0} (x y : A) → Some x ≡ Some y → x ≡ y
some_is x y e = cc

-- two fields, one behind the other
pub Takes-then : (h k : Bool) (a x b y c : List ℕ) → Takes h x a b → Takes k y b c → Takes (h && k) (x ++ y) a c
Takes-then h k a x b y c p q = record {
  fits = and_from h k p.fits q.fits;
  parts = p.parts ∙ ap (λ (t : List ℕ). x ++ t) q.parts ∙ sym (append_assoc x y c);
  rest_fits = q.rest_fits;
}

-- a test that found something
pub if_some : {A : Type 0} (b : Bool) (x y : A) → cond b (Some x) None ≡ Some y → (b ≡ true) × (x ≡ y)
if_some true x y e = (refl, cc)
if_some false x y e = absurd cc

if_none : {A : Type 0} (b : Bool) (x y : A) → cond b None (Some x) ≡ Some y → (b ≡ false) × (x ≡ y)
if_none true x y e = absurd cc
if_none false x y e = (refl, cc)

-- ---- numbers

number_again : (w : Width) (k : ℕ) (wide : IsWide w k) (n : ℕ) (rest : List ℕ) → ltb n (2 ^ k) ≡ true → number_at w (to_be_bytes w n ++ rest) ≡ Some (n, rest)
number_again w k wide n rest lt =
    let len = wide.len n in
    let long : ltb (length (to_be_bytes w n ++ rest)) (byte_len w) ≡ false = le-ltb _ _ (omega (arith, length-append (to_be_bytes w n) rest)) in
    rw (long, take_at (to_be_bytes w n) rest (byte_len w) len, drop_at (to_be_bytes w n) rest (byte_len w) len, wide.again n (ltb-true n (2 ^ k) lt)) refl

number_takes : (w : Width) (k : ℕ) (wide : IsWide w k) (bytes : List ℕ) (found : ℕ × List ℕ) → IsBytes bytes → number_at w bytes ≡ Some found → Takes (ltb found.0 (2 ^ k)) (to_be_bytes w found.0) bytes found.1
number_takes w k wide bytes found fits e =
    let front = take (byte_len w) bytes in
    let g = if_none (ltb (length bytes) (byte_len w)) (from_be_bytes w front, drop (byte_len w) bytes) found e in
    let long : byte_len w ≤ length bytes = ltb-false _ _ g.0 in
    let back = wide.back front (omega (arith, length-take (byte_len w) bytes)) (IsBytes-take (byte_len w) bytes fits) in
    subst (λ (f : ℕ × List ℕ). Takes (ltb f.0 (2 ^ k)) (to_be_bytes w f.0) bytes f.1) g.1 (record {
      fits = lt-ltb _ _ (wide.below front (IsBytes-take (byte_len w) bytes fits));
      parts = rw back (sym (take-append-drop (byte_len w) bytes));
      rest_fits = IsBytes-drop (byte_len w) bytes fits;
    })

pub number_reads : (w : Width) (k : ℕ) → IsWide w k → Reads (to_be_bytes w) (λ n. ltb n (2 ^ k)) (number_at w)
number_reads w k wide = record { again = number_again w k wide; takes = number_takes w k wide }

-- ---- texts

letters_again : (text rest : List ℕ) → is_utf8 text ≡ true → letters_at (length text) (text ++ rest) ≡ Some (text, rest)
unfolding letters_at
letters_again text rest utf8 =
    let long : ltb (length (text ++ rest)) (length text) ≡ false = le-ltb _ _ (omega (arith, length-append text rest)) in
    rw (long, take_at text rest (length text) refl, utf8, drop_at text rest (length text) refl) refl

letters_take : (len : ℕ) (bytes : List ℕ) (found : List ℕ × List ℕ) → IsBytes bytes → letters_at len bytes ≡ Some found → Takes (is_utf8 found.0) found.0 bytes found.1 × (length found.0 ≡ len)
unfolding letters_at
letters_take len bytes found fits e =
    let g = if_some (not (ltb (length bytes) len) && is_utf8 (take len bytes)) (take len bytes, drop len bytes) found e in
    let both = and_parts (not (ltb (length bytes) len)) (is_utf8 (take len bytes)) g.0 in
    let long : len ≤ length bytes = ltb-false _ _ (not-true _ both.0) in
    subst (λ (f : List ℕ × List ℕ). Takes (is_utf8 f.0) f.0 bytes f.1 × (length f.0 ≡ len)) g.1 (
      record {
        fits = both.1;
        parts = sym (take-append-drop len bytes);
        rest_fits = IsBytes-drop len bytes fits;
      },
      omega (arith, length-take len bytes),
    )

text_again : (w : Width) (k : ℕ) (wide : IsWide w k) (text rest : List ℕ) → is_text k text ≡ true → text_at w (lettered w text ++ rest) ≡ Some (text, rest)
text_again w k wide text rest has =
    let h = and_parts (is_short k text) (is_utf8 text) has in
    ap (text_at w) (append_assoc (to_be_bytes w (length text)) text rest)
    ∙ ap (λ (o : Front ℕ). o >>= λ n. letters_at n.0 n.1) (number_again w k wide (length text) (text ++ rest) h.0)
    ∙ letters_again text rest h.1

text_takes : (w : Width) (k : ℕ) (wide : IsWide w k) (bytes : List ℕ) (found : List ℕ × List ℕ) → IsBytes bytes → text_at w bytes ≡ Some found → Takes (is_text k found.0) (lettered w found.0) bytes found.1
text_takes w k wide bytes found fits e =
    let n = bind_some (number_at w bytes) (λ n. letters_at n.0 n.1) found e in
    let first = number_takes w k wide bytes n.0 fits n.1 in
    let second = letters_take n.0.0 n.0.1 found first.rest_fits n.2 in
    subst (λ (m : ℕ). Takes (ltb m (2 ^ k) && is_utf8 found.0) (to_be_bytes w m ++ found.0) bytes found.1) (sym second.1)
    (Takes-then (ltb n.0.0 (2 ^ k)) (is_utf8 found.0) bytes (to_be_bytes w n.0.0) n.0.1 found.0 found.1 first second.0)

pub text_reads : (w : Width) (k : ℕ) → IsWide w k → Reads (lettered w) (is_text k) (text_at w)
text_reads w k wide = record { again = text_again w k wide; takes = text_takes w k wide }

-- ---- lists

module _ {A : Type 0} (bytes_of : A → List ℕ) (has : A → Bool) (at : List ℕ → Front A) (reads : Reads bytes_of has at) where
  each_again : (items : List A) (rest : List ℕ) → list_all has items ≡ true → each_at at (length items) (flat_map bytes_of items ++ rest) ≡ Some (items, rest)
  unfolding each_at
  each_again [] rest h = refl
  each_again (x ∷ items) rest h =
      let p = and_parts (has x) (list_all has items) h in
      let regrouped : flat_map bytes_of (x ∷ items) ++ rest ≡ bytes_of x ++ (flat_map bytes_of items ++ rest) = ap (λ (t : List ℕ). t ++ rest) (flat_map-cons bytes_of x items) ∙ append_assoc (bytes_of x) (flat_map bytes_of items) rest in
      ap (each_at at (suc (length items))) regrouped ∙ rw (reads.again x (flat_map bytes_of items ++ rest) p.0, each_again items rest p.1) refl

  each_takes : (n : ℕ) (bytes : List ℕ) (found : List A × List ℕ) → IsBytes bytes → each_at at n bytes ≡ Some found → Takes (list_all has found.0) (flat_map bytes_of found.0) bytes found.1 × (length found.0 ≡ n)
  unfolding each_at
  each_takes zero bytes found fits e =
      subst (λ (f : List A × List ℕ). Takes (list_all has f.0) (flat_map bytes_of f.0) bytes f.1 × (length f.0 ≡ 0)) (some_is ([], bytes) found e) (record { fits = refl; parts = refl; rest_fits = fits }, refl)
  each_takes (suc n) bytes found fits e =
      let a = bind_some (at bytes) (λ first. each_at at n first.1 >>= λ others. Some (first.0 ∷ others.0, others.1)) found e in
      let b = bind_some (each_at at n a.0.1) (λ others. Some (a.0.0 ∷ others.0, others.1)) found a.2 in
      let first = reads.takes bytes a.0 fits a.1 in
      let second = each_takes n a.0.1 b.0 first.rest_fits b.1 in
      let both = Takes-then (has a.0.0) (list_all has b.0.0) bytes (bytes_of a.0.0) a.0.1 (flat_map bytes_of b.0.0) b.0.1 first second.0 in
      subst (λ (f : List A × List ℕ). Takes (list_all has f.0) (flat_map bytes_of f.0) bytes f.1 × (length f.0 ≡ suc n)) (some_is (a.0.0 ∷ b.0.0, b.0.1) found b.2) (rw flat_map-cons both, ap suc second.1)

  module _ (w : Width) (k : ℕ) (wide : IsWide w k) where
    list_again : (items : List A) (rest : List ℕ) → (is_short k items && list_all has items) ≡ true → list_at w at (counted w bytes_of items ++ rest) ≡ Some (items, rest)
    list_again items rest h =
        let p = and_parts (is_short k items) (list_all has items) h in
        ap (list_at w at) (append_assoc (to_be_bytes w (length items)) (flat_map bytes_of items) rest)
        ∙ ap (λ (o : Front ℕ). o >>= λ n. each_at at n.0 n.1) (number_again w k wide (length items) (flat_map bytes_of items ++ rest) p.0)
        ∙ each_again items rest p.1

    list_takes : (bytes : List ℕ) (found : List A × List ℕ) → IsBytes bytes → list_at w at bytes ≡ Some found → Takes (is_short k found.0 && list_all has found.0) (counted w bytes_of found.0) bytes found.1
    list_takes bytes found fits e =
        let n = bind_some (number_at w bytes) (λ n. each_at at n.0 n.1) found e in
        let first = number_takes w k wide bytes n.0 fits n.1 in
        let second = each_takes n.0.0 n.0.1 found first.rest_fits n.2 in
        subst (λ (m : ℕ). Takes (ltb m (2 ^ k) && list_all has found.0) (to_be_bytes w m ++ flat_map bytes_of found.0) bytes found.1) (sym second.1)
        (Takes-then (ltb n.0.0 (2 ^ k)) (list_all has found.0) bytes (to_be_bytes w n.0.0) n.0.1 (flat_map bytes_of found.0) found.1 first second.0)

    pub list_reads : Reads (counted w bytes_of) (λ items. is_short k items && list_all has items) (list_at w at)
    list_reads = record { again = list_again; takes = list_takes }
