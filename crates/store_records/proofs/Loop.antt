-- Reading one element after the other, as a loop does.
use Rattle.std.proofs.Common.{◌≡◌, ℕ, zero, suc, ◌-◌, ◌+◌, ◌≤◌, ◌<◌, List, [], ◌∷◌, ◌++◌, Option, Some, None, refl, sym, ap, ◌∙◌, append_assoc, arith}
use Rattle.std.proofs.lemmas.List.{append-nil}
use Rattle.store_records.specs.declared.reading.ReadFault.{ReadFault}
use Rattle.store_records.specs.declared.reading.ReadFault.TheVariants as fault
use Rattle.store_records.specs.Fields.{◌>>=◌, Front, each_at}
use Rattle.store_records.specs.Reading.{Fails}

-- what was read before, and what is still read
abbrev pub with_front : {A : Type 0} → List A → Front (List A) → Front (List A)
with_front front read = read >>= λ x. Some (front ++ x.0, x.1)

regroup : {A : Type 0} (front : List A) (a : A) (read : Front (List A)) → with_front front (read >>= λ x. Some (a ∷ x.0, x.1)) ≡ with_front (front ++ a ∷ []) read
regroup {A} front a (Some x) = ap (λ (items : List A). Some (items, x.1)) (simp append_assoc)
regroup front a None = refl

module _ {A : Type 0} (at : List ℕ → Front A) where
  pub goes_on : (front : List A) (count i : ℕ) (bytes : List ℕ) (a : A) (after : List ℕ) (total : Front (List A)) → i < count → at bytes ≡ Some (a, after)
      → with_front front (each_at at (count - i) bytes) ≡ total → with_front (front ++ a ∷ []) (each_at at (count - (i + 1)) after) ≡ total
  unfolding each_at
  goes_on front count i bytes a after total lt h so_far =
      let k : count - i ≡ suc (count - (i + 1)) = omega arith in
      let once : with_front front (each_at at (count - i) bytes) ≡ with_front (front ++ a ∷ []) (each_at at (count - (i + 1)) after) = rw (k, h) (regroup front a (each_at at (count - (i + 1)) after)) in
      sym once ∙ so_far

  pub ends : (e : ReadFault) (front : List A) (count i : ℕ) (bytes : List ℕ) (total : Front (List A)) → i < count → Fails e (at bytes)
      → with_front front (each_at at (count - i) bytes) ≡ total → Fails e total
  unfolding each_at
  ends fault.Memory front count i bytes total lt h so_far = tt
  ends fault.Broken front count i bytes total lt h so_far =
      let k : count - i ≡ suc (count - (i + 1)) = omega arith in
      let once : with_front front (each_at at (count - i) bytes) ≡ None = rw (k, h) refl in
      sym so_far ∙ once

  pub is_done : (front : List A) (count i : ℕ) (bytes : List ℕ) (total : Front (List A)) → count ≤ i → with_front front (each_at at (count - i) bytes) ≡ total → total ≡ Some (front, bytes)
  unfolding each_at
  is_done front count i bytes total le so_far =
      let k : count - i ≡ 0 = omega arith in
      let once : with_front front (each_at at (count - i) bytes) ≡ Some (front, bytes) = rw k (ap (λ (items : List A). Some (items, bytes)) (append-nil front)) in
      sym so_far ∙ once
