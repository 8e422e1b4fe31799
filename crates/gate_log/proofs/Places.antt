-- The bytes of a log, place by place.
use Rattle.std.proofs.Common.{◌≡◌, ◌≢◌, ℕ, zero, suc, ◌+◌, ◌<◌, ◌≤◌, inl, inr, List, [], ◌∷◌, ◌++◌, length, get_or, take, drop, Some, None, option_map, refl, sym, ◌∙◌, ap, arith, append_assoc, length-append, length-drop, take-append-drop, length-take-le}
use Rattle.std.proofs.lemmas.List.{append-nil, length-take, take_at, drop-drop, drop_more, get_or-take, get_or-drop, get_or_default}
use Rattle.std.proofs.lemmas.Bool.{cases_lt}
use Rattle.std.proofs.lemmas.Nat.{be_bytes_4}
use Rattle.std.proofs.Math.Seq.{take-add}
use Rattle.std.specs.Int.{w32, to_be_bytes, from_be_bytes}
use Rattle.gate_log.specs.Records.{header, log_limit, body, opened, size_in, gated, records_from, records}
use Rattle.gate_log.specs.Scanning.{Walked, OpenAt}
use Rattle.gate_log.specs.Log.{EndsAt}
use Rattle.gate_log.proofs.Records.{split_none, gated_closed, gated_broken, opened-append, no_records, records_short, records_front}

-- the place behind a log's first records
pub place_of : (bytes : List ℕ) (ps : List (List ℕ)) (at : ℕ) → take at bytes ≡ header ++ opened ps → at ≤ length bytes → at ≡ 8 + length (opened ps)
place_of bytes ps at front le = omega (arith, length-take-le at bytes le, ap length front)

pub records_at : (bytes : List ℕ) (ps : List (List ℕ)) (at : ℕ) → take at bytes ≡ header ++ opened ps → at < length bytes → 9 < length bytes → length bytes ≤ log_limit → records bytes ≡ option_map (λ qs. ps ++ qs) (records_from at bytes)
unfolding records_from
records_at bytes ps at front within long short =
    let whole : (header ++ opened ps) ++ drop at bytes ≡ bytes = ap (λ (l : List ℕ). l ++ drop at bytes) (sym front) ∙ take-append-drop at bytes in
    let size = ap length whole in
    let rest = length-drop at bytes in
    ap records (sym whole) ∙ records_front ps (drop at bytes) (length bytes) (omega arith) (omega arith) (omega arith) (omega arith)

pub from_closed : (bytes : List ℕ) (at : ℕ) → at < length bytes → get_or bytes at 1 ≢ 1 → records_from at bytes ≡ Some []
unfolding records_from
from_closed bytes at within closed = ap (gated (length bytes)) (drop_more bytes at 1 within) ∙ gated_closed (length bytes) (get_or bytes at 1) (drop (at + 1) bytes) closed (omega arith)

-- the records end at a closed gate
pub records_closed : (bytes : List ℕ) (ps : List (List ℕ)) (end : ℕ) → take end bytes ≡ header ++ opened ps → end < length bytes → get_or bytes end 1 ≢ 1 → length bytes ≤ log_limit → records bytes ≡ Some ps
records_closed bytes ps end front within closed short = elim (cases_lt 9 (length bytes)) [ inl gt ↦ large gt | inr le ↦ small le ]
  where
    small : length bytes ≤ 9 → records bytes ≡ Some ps
    small le = records_short bytes le ∙ ap Some (sym (no_records ps (omega (arith, place_of bytes ps end front (omega arith)))))

    large : 9 < length bytes → records bytes ≡ Some ps
    large gt = records_at bytes ps end front within gt short ∙ ap (option_map (λ qs. ps ++ qs)) (from_closed bytes end within closed) ∙ ap Some (append-nil ps)

pub ends_at : (bytes : List ℕ) (ps : List (List ℕ)) (end : ℕ) → take end bytes ≡ header ++ opened ps → end < length bytes → get_or bytes end 1 ≢ 1 → length bytes ≤ log_limit → EndsAt end bytes
ends_at bytes ps end front within closed short = record {
  payloads = ps;
  are = records_closed bytes ps end front within closed short;
  front = front;
  within = within;
  closed = closed;
  no_longer = short;
}

-- on the way to the last gate

pub walked_first : (bytes : List ℕ) → take 8 bytes ≡ header → Walked 8 bytes
walked_first bytes e = record { payloads = []; front = e ∙ sym (append-nil header) }

pub walked_more : (bytes : List ℕ) (at next : ℕ) → Walked at bytes → OpenAt at next bytes → Walked next bytes
walked_more bytes at next w o = record {
  payloads = w.payloads ++ o.payload ∷ [];
  front = o.is
      ∙ ap (λ (l : List ℕ). l ++ 1 ∷ body o.payload) w.front
      ∙ append_assoc header (opened w.payloads) (1 ∷ body o.payload)
      ∙ ap (λ (l : List ℕ). header ++ (opened w.payloads ++ 1 ∷ l)) (sym (append-nil (body o.payload)))
      ∙ ap (λ (l : List ℕ). header ++ l) (sym (opened-append w.payloads (o.payload ∷ [])));
}

pub broken_at : (bytes : List ℕ) (ps : List (List ℕ)) (at : ℕ) → take at bytes ≡ header ++ opened ps → at < length bytes → 9 < length bytes → length bytes ≤ log_limit → records_from at bytes ≡ None → records bytes ≡ None
broken_at bytes ps at front within long short none = records_at bytes ps at front within long short ∙ ap (option_map (λ qs. ps ++ qs)) none

-- what the first bytes from a gate on say

pub gate_byte : (bytes head : List ℕ) (at n : ℕ) → head ≡ take n (drop at bytes) → 0 < n → at < length bytes → get_or head 0 0 ≡ get_or bytes at 1
gate_byte bytes head at n e some within = ap (λ (l : List ℕ). get_or l 0 0) e ∙ get_or-take n (drop at bytes) 0 0 some ∙ get_or-drop at bytes 0 0 ∙ ap (λ k. get_or bytes k 0) (omega arith) ∙ get_or_default bytes at 0 1 within

-- an open gate with too few bytes behind it for a length
pub broken_short : (bytes : List ℕ) (at : ℕ) → at < length bytes → length bytes < at + 5 → get_or bytes at 1 ≡ 1 → records_from at bytes ≡ None
unfolding records_from
broken_short bytes at within short is =
    let rest = drop (at + 1) bytes in
    ap (gated (length bytes)) (drop_more bytes at 1 within ∙ ap (λ gate. gate ∷ rest) is) ∙ gated_broken (length bytes) rest (split_none rest (size_in rest) refl (omega (arith, length-drop (at + 1) bytes)))

-- an open gate and the 4 bytes behind it
module _ (bytes quad : List ℕ) (at : ℕ) (four : length quad ≡ 4) (head : take 5 (drop at bytes) ≡ 1 ∷ quad) where
  within : at + 5 ≤ length bytes
  within = omega (arith, ap length head, length-take 5 (drop at bytes), length-drop at bytes)

  behind : drop at bytes ≡ 1 ∷ (quad ++ drop (at + 5) bytes)
  behind = sym (take-append-drop 5 (drop at bytes)) ∙ ap (λ (l : List ℕ). l ++ drop 5 (drop at bytes)) head ∙ ap (λ (l : List ℕ). 1 ∷ (quad ++ l)) (drop-drop 5 at bytes)

  pub broken_long : length bytes ≤ at + 5 + from_be_bytes w32 quad → records_from at bytes ≡ None
  unfolding records_from size_in
  broken_long le =
      let rest = quad ++ drop (at + 5) bytes in
      let size = ap (from_be_bytes w32) (take_at quad (drop (at + 5) bytes) 4 four) in
      ap (gated (length bytes)) behind ∙ gated_broken (length bytes) rest (split_none rest (from_be_bytes w32 quad) size (omega (arith, length-append quad (drop (at + 5) bytes), length-drop (at + 5) bytes)))

  pub open_at : (next : ℕ) → ((i : ℕ) → get_or quad i 0 < 256) → next ≡ at + 5 + from_be_bytes w32 quad → next < length bytes → OpenAt at next bytes
  unfolding body
  open_at next small is lt =
      let n = from_be_bytes w32 quad in
      let payload = take n (drop (at + 5) bytes) in
      let size : length payload ≡ n = length-take-le n (drop (at + 5) bytes) (omega (arith, length-drop (at + 5) bytes)) in
      record {
        payload = payload;
        is = ap (λ k. take k bytes) (is ∙ omega arith)
            ∙ take-add at (5 + n) bytes
            ∙ ap (λ (l : List ℕ). take at bytes ++ l) (
            take-add 5 n (drop at bytes)
            ∙ ap (λ (l : List ℕ). l ++ take n (drop 5 (drop at bytes))) head
            ∙ ap (λ (l : List ℕ). 1 ∷ (quad ++ take n l)) (drop-drop 5 at bytes)
            ∙ ap (λ (l : List ℕ). 1 ∷ (l ++ payload)) (sym (be_bytes_4 quad n four small refl) ∙ ap (to_be_bytes w32) (sym size))
            );
      }

-- a list of 5 bytes, one by one
pub five : (head : List ℕ) → length head ≡ 5 → head ≡ get_or head 0 0 ∷ get_or head 1 0 ∷ get_or head 2 0 ∷ get_or head 3 0 ∷ get_or head 4 0 ∷ []
five [] e = absurd (omega arith)
five (a ∷ []) e = absurd (omega arith)
five (a ∷ b ∷ []) e = absurd (omega arith)
five (a ∷ b ∷ c ∷ []) e = absurd (omega arith)
five (a ∷ b ∷ c ∷ d ∷ []) e = absurd (omega arith)
five (a ∷ b ∷ c ∷ d ∷ x ∷ []) e = refl
five (a ∷ b ∷ c ∷ d ∷ x ∷ y ∷ rest) e = absurd (omega arith)

pub four_small : (a b c d : ℕ) → a < 256 → b < 256 → c < 256 → d < 256 → (i : ℕ) → get_or (a ∷ b ∷ c ∷ d ∷ []) i 0 < 256
four_small a b c d pa pb pc pd zero = pa
four_small a b c d pa pb pc pd (suc zero) = pb
four_small a b c d pa pb pc pd (suc (suc zero)) = pc
four_small a b c d pa pb pc pd (suc (suc (suc zero))) = pd
four_small a b c d pa pb pc pd (suc (suc (suc (suc i)))) = omega arith
