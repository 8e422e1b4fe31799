-- What stands at a gate and in a payload of a log.
use Rattle.std.proofs.Common.{◌≡◌, ℕ, ◌+◌, ◌-◌, ◌^◌, ◌<◌, ◌≤◌, List, [], ◌∷◌, ◌++◌, length, take, drop, Some, None, option_map, refl, sym, ◌∙◌, ap, arith, append_assoc, length-append, length-drop, take-append-drop}
use Rattle.std.proofs.lemmas.List.{append-nil, drop_at, take-append-le, drop-append-le, drop-drop}
use Rattle.std.specs.Int.{w32, from_be_bytes}
use Rattle.gate_log.specs.Records.{header, body, opened, size_in, gated, records_from, records}
use Rattle.gate_log.specs.Log.{EndsAt}
use Rattle.gate_log.specs.Walking.{gate_behind, IsGate, IsInPayload, FoundRecord, NextIs}
use Rattle.gate_log.proofs.Records.{gated-opened, opened-append, no_records, length-body, size_in-body, behind-body}
use Rattle.gate_log.proofs.Places.{from_closed, place_of}

module _ (bytes : List ℕ) (end : ℕ) (ends : EndsAt end bytes) (before after : List (List ℕ)) (all : records bytes ≡ Some (before ++ after)) where
  -- the bytes from the gate behind the first records on
  behind : drop (gate_behind before) bytes ≡ opened after ++ drop end bytes
  behind =
      let same : ends.payloads ≡ before ++ after = cc (ends.are, all) in
      let front : take end bytes ≡ (header ++ opened before) ++ opened after = ends.front ∙ ap (λ ps. header ++ opened ps) same ∙ ap (λ (l : List ℕ). header ++ l) (opened-append before after) in
      let whole : bytes ≡ (header ++ opened before) ++ (opened after ++ drop end bytes) =
      sym (take-append-drop end bytes) ∙ ap (λ (l : List ℕ). l ++ drop end bytes) front ∙ append_assoc (header ++ opened before) (opened after) (drop end bytes) in
      ap (drop (gate_behind before)) whole ∙ drop_at (header ++ opened before) (opened after ++ drop end bytes) (gate_behind before) (omega arith)

  pub end_behind : end ≡ gate_behind before + length (opened after)
  end_behind =
      let same : ends.payloads ≡ before ++ after = cc (ends.are, all) in
      let within = ends.within in
      omega (arith, place_of bytes ends.payloads end ends.front (omega arith), ap (λ ps. length (opened ps)) same, ap length (opened-append before after), length-append (opened before) (opened after))

  pub from_gate : records_from (gate_behind before) bytes ≡ Some after
  unfolding records_from
  from_gate =
      let within = ends.within in
      let short = ends.no_longer in
      let rest = length-drop end bytes in
      let size = length-append (opened after) (drop end bytes) in
      ap (gated (length bytes)) behind
      ∙ gated-opened after (drop end bytes) (length bytes) (length bytes) (omega (arith, end_behind)) (omega arith) (omega (arith, end_behind)) (omega arith)
      ∙ ap (option_map (λ qs. after ++ qs)) (from_closed bytes end within ends.closed)
      ∙ ap Some (append-nil after)

module _ (bytes : List ℕ) (end : ℕ) (ends : EndsAt end bytes) (before : List (List ℕ)) (payload : List ℕ) (after : List (List ℕ)) (all : records bytes ≡ Some (before ++ payload ∷ after)) where
  -- the body of a record, and what follows it
  body_behind : drop (gate_behind before + 1) bytes ≡ body payload ++ (opened after ++ drop end bytes)
  body_behind = sym (drop-drop 1 (gate_behind before) bytes) ∙ ap (drop 1) (behind bytes end ends before (payload ∷ after) all) ∙ append_assoc (body payload) (opened after) (drop end bytes)

  pub ends_behind : gate_behind before + 5 + length payload ≤ end
  ends_behind = omega (arith, end_behind bytes end ends before (payload ∷ after) all, length-append (body payload) (opened after), length-body payload)

  pub payload_behind : drop (gate_behind before + 5) bytes ≡ payload ++ (opened after ++ drop end bytes)
  payload_behind =
      ap (λ k. drop k bytes) (omega arith)
      ∙ sym (drop-drop 4 (gate_behind before + 1) bytes)
      ∙ ap (drop 4) body_behind
      ∙ behind-body payload (opened after ++ drop end bytes)

  small : length payload < 2 ^ 32
  small = let within = ends.within in let short = ends.no_longer in omega (arith, ends_behind)

  pub size_behind : size_in (drop (gate_behind before + 1) bytes) ≡ length payload
  size_behind = ap size_in body_behind ∙ size_in-body payload (opened after ++ drop end bytes) small

  pub found_record : FoundRecord (gate_behind before) (record { start = gate_behind before + 5; len = length payload; next = gate_behind before + 5 + length payload }) bytes
  found_record =
      let regroup : before ++ payload ∷ after ≡ (before ++ payload ∷ []) ++ after = sym (append_assoc before (payload ∷ []) after) in
      let all_again : records bytes ≡ Some ((before ++ payload ∷ []) ++ after) = all ∙ ap Some regroup in
      let place : gate_behind before + 5 + length payload ≡ gate_behind (before ++ payload ∷ []) =
      omega (arith, ap length (opened-append before (payload ∷ [])), length-append (opened before) (opened (payload ∷ [])), length-append (body payload) [], length-body payload) in
      record {
        payload = payload;
        after = after;
        here = from_gate bytes end ends before (payload ∷ after) all;
        rest = ap (λ k. records_from k bytes) place ∙ from_gate bytes end ends (before ++ payload ∷ []) after all_again;
        span_is = refl;
        payload_at = record { before = before; after = after; all = all; place = refl };
        gate = record { before = before ++ payload ∷ []; after = after; all = all_again; place = place };
      }

module _ (bytes : List ℕ) (end at : ℕ) (ends : EndsAt end bytes) where
  -- a gate at the end or behind it has no record
  pub next_none : IsGate at bytes → end ≤ at → NextIs at None bytes
  next_none gate le =
      let none = no_records gate.after (omega (arith, end_behind bytes end ends gate.before gate.after gate.all, gate.place)) in
      ap (λ k. records_from k bytes) gate.place ∙ from_gate bytes end ends gate.before gate.after gate.all ∙ ap Some none

  -- a gate before the end has one
  pub next_within : IsGate at bytes → at < end → at + 5 ≤ length bytes
  next_within gate lt = go gate.after gate.all
    where
      go : (after : List (List ℕ)) → records bytes ≡ Some (gate.before ++ after) → at + 5 ≤ length bytes
      go [] all = absurd (omega (arith, end_behind bytes end ends gate.before [] all, gate.place))
      go (payload ∷ after) all = let within = ends.within in omega (arith, ends_behind bytes end ends gate.before payload after all, gate.place)

  pub next_some : IsGate at bytes → at < end → (head : List ℕ) (len : ℕ) → head ≡ take 4 (drop (at + 1) bytes) → len ≡ from_be_bytes w32 head → NextIs at (Some (record { start = at + 5; len = len; next = at + 5 + len })) bytes
  unfolding size_in
  next_some gate lt head len read is = go gate.after gate.all
    where
      go : (after : List (List ℕ)) → records bytes ≡ Some (gate.before ++ after) → FoundRecord at (record { start = at + 5; len = len; next = at + 5 + len }) bytes
      go [] all = absurd (omega (arith, end_behind bytes end ends gate.before [] all, gate.place))
      go (payload ∷ after) all =
          let size : len ≡ length payload = is ∙ ap (from_be_bytes w32) read ∙ ap (λ k. size_in (drop (k + 1) bytes)) gate.place ∙ size_behind bytes end ends gate.before payload after all in
          rw (gate.place, size) (found_record bytes end ends gate.before payload after all)

-- bytes of a payload
module _ (bytes : List ℕ) (end : ℕ) (ends : EndsAt end bytes) where
  pub in_payload : (start count : ℕ) (found : IsInPayload start count bytes) → start + count ≤ length bytes
  in_payload start count found =
      let within = ends.within in
      let here = found.here in
      omega (arith, found.high, found.here.place, ends_behind bytes end ends found.here.before found.payload found.here.after found.here.all)

  pub part_of : (start count : ℕ) (found : IsInPayload start count bytes) → take count (drop start bytes) ≡ take count (drop (start - found.begin) found.payload)
  part_of start count found =
      let low = found.low in
      let high = found.high in
      let rest = opened found.here.after ++ drop end bytes in
      let begins : drop found.begin bytes ≡ found.payload ++ rest = ap (λ k. drop k bytes) found.here.place ∙ payload_behind bytes end ends found.here.before found.payload found.here.after found.here.all in
      let from : drop start bytes ≡ drop (start - found.begin) found.payload ++ rest =
      ap (λ k. drop k bytes) (omega arith) ∙ sym (drop-drop (start - found.begin) found.begin bytes) ∙ ap (drop (start - found.begin)) begins ∙ drop-append-le (start - found.begin) found.payload rest (omega arith) in
      ap (take count) from ∙ take-append-le count (drop (start - found.begin) found.payload) rest (omega (arith, length-drop (start - found.begin) found.payload))

-- the place where a caller's walk begins
pub first_gate : (bytes : List ℕ) (end : ℕ) → EndsAt end bytes → IsGate 8 bytes
first_gate bytes end ends = record { before = []; after = ends.payloads; all = ends.are; place = refl }
