-- A walk through the records of a log.
use Rattle.std.proofs.Common.{◌≡◌, ℕ, ◌+◌, ◌-◌, List, [], ◌∷◌, ◌++◌, length, take, drop, Option, Some, None, Ok, Err, refl, sym, ap, subst, ◌∙◌, arith}
use Rattle.std.specs.Prelude.{IsSomeAnd}
use Rattle.std.proofs.lemmas.List.{take_all, take_at}
use Rattle.gate_log.specs.Records.{records_from}
use Rattle.gate_log.specs.Log.{EndsAt}
use Rattle.gate_log.specs.Walking.{IsGate, IsInPayload, IsPartOf, FoundRecord, NextIs}
use Rattle.gate_log.specs.declared.log.Span.{Span}
use Rattle.gate_log.proofs.Walks.{from_gate, first_gate}
use Rattle.store_records.specs.declared.reading.ReadFault.TheVariants as read
use Rattle.store_records.specs.Fields.{◌>>=◌}
use Rattle.store_replay.specs.Replay.{Replayed, nothing, replay, after_payload}
use Rattle.store_replay.specs.Walking.{Follows, Spans, TakenTo, TakesAll, StepsTo, IsOfReading, all_of}
use Rattle.store_replay.specs.declared.walk.Place.{Place}
use Rattle.store_replay.specs.declared.walk.WalkFault.{WalkFault}
use Rattle.store_replay.specs.declared.walk.WalkFault.TheVariants as walk

-- ---- a payload

-- a span of a payload lies within it, from its first byte to its last
pub in_span : (span : Span) (payload bytes : List ℕ) (n : ℕ) → Spans span payload bytes → n ≡ span.len → IsInPayload span.start n bytes
in_span span payload bytes n s is = record { payload = payload; begin = span.start; here = s.here; low = omega arith; high = omega (arith, s.len, is) }

pub span_read : (span : Span) (payload bytes read : List ℕ) (n : ℕ) → Spans span payload bytes → n ≡ span.len → IsPartOf span.start n bytes read → read ≡ payload
unfolding in_span
span_read span payload bytes read n s is part =
    let none : span.start - span.start ≡ 0 = omega arith in
    part (in_span span payload bytes n s is) ∙ ap (λ k. take n (drop k payload)) none ∙ take_all n payload (omega (arith, s.len, is))

-- what is read into a buffer as long as the span
pub buffer_read : (span : Span) (payload bytes read items : List ℕ) (len n : ℕ) → Spans span payload bytes → n ≡ span.len → len ≡ n → length read ≡ n
    → IsPartOf span.start n bytes read → take len (read ++ drop (length read) items) ≡ payload
buffer_read span payload bytes read items len n s is same size part =
    take_at read (drop (length read) items) len (size ∙ sym same) ∙ span_read span payload bytes read n s is part

pub found_span : (at : ℕ) (span : Span) (bytes : List ℕ) (f : FoundRecord at span bytes) → Spans span f.payload bytes
found_span at span bytes f = record { here = f.payload_at; len = ap (λ (s : Span). s.len) f.span_is }

-- ---- the start

module _ {T : Type 0} (has : Replayed → T → Type 0) where
  pub taken_none : (bytes : List ℕ) (end : ℕ) (state : T) → EndsAt end bytes → has nothing state → TakenTo has (record { at = 8; taken = 0 }) state bytes
  taken_none bytes end state ends blank = record {
    payloads = ends.payloads;
    after = ends.payloads;
    r = nothing;
    are = ends.are;
    gate = first_gate bytes end ends;
    here = from_gate bytes end ends [] ends.payloads ends.are;
    leaves = refl;
    count = omega arith;
    held = blank;
  }

  -- ---- one record

  module _ (place : Place) (old : T) (bytes : List ℕ) (so_far : TakenTo has place old bytes) where
    same_some : (xs ys : List (List ℕ)) → Some xs ≡ Some ys → xs ≡ ys
    same_some xs ys e = cc

    pub taken_all : NextIs place.at None bytes → TakesAll has place.taken old bytes
    taken_all none =
        let left : so_far.after ≡ [] = same_some so_far.after [] (sym so_far.here ∙ none) in
        record {
          payloads = so_far.payloads;
          r = so_far.r;
          are = so_far.are;
          count = omega (arith, so_far.count, ap length left);
          leaves = so_far.leaves ∙ ap (λ ps. replay ps so_far.r) left;
          held = so_far.held;
        }

    module _ (span : Span) (f : FoundRecord place.at span bytes) where
      next_is : so_far.after ≡ f.payload ∷ f.after
      next_is = same_some so_far.after (f.payload ∷ f.after) (sym so_far.here ∙ f.here)

      abbrev step : Option Replayed
      step = after_payload f.payload so_far.r

      leaves_is : replay so_far.payloads nothing ≡ (step >>= λ next. replay f.after next)
      leaves_is = so_far.leaves ∙ ap (λ ps. replay ps so_far.r) next_is

      pub taken_broken : step ≡ None → all_of bytes ≡ None
      taken_broken none =
          ap (λ (o : Option (List (List ℕ))). o >>= λ ps. replay ps nothing) so_far.are ∙ leaves_is
          ∙ ap (λ (o : Option Replayed). o >>= λ next. replay f.after next) none

      pub taken_one : (next : Place) (new : T) → next.at ≡ span.next → next.taken ≡ place.taken + 1 → IsSomeAnd step (λ r. has r new) → TakenTo has next new bytes
      taken_one next new at more has_new = by step refl has_new
        where
          by : (o : Option Replayed) → step ≡ o → IsSomeAnd o (λ r. has r new) → TakenTo has next new bytes
          by None is h = absurd h
          by (Some r) is h = record {
            payloads = so_far.payloads;
            after = f.after;
            r = r;
            are = so_far.are;
            gate = subst (λ k. IsGate k bytes) (sym at) f.gate;
            here = subst (λ k. records_from k bytes ≡ Some f.after) (sym at) f.rest;
            leaves = leaves_is ∙ ap (λ (o : Option Replayed). o >>= λ next. replay f.after next) is;
            count = omega (arith, so_far.count, ap length next_is, more);
            held = h;
          }

-- ---- what a step answers

module _ {T : Type 0} (has : Replayed → T → Type 0) (place : Place) where
  pub steps_fault : (new : T) (fault : WalkFault) (bytes : List ℕ) → IsOfReading fault → StepsTo has place new (Err fault) bytes
  steps_fault new walk.Broken bytes h = absurd h
  steps_fault new walk.Failed bytes h = tt
  steps_fault new walk.Memory bytes h = tt

  module _ (old new : T) (bytes : List ℕ) (so_far : TakenTo has place old bytes) (span : Span) (f : FoundRecord place.at span bytes) (slice found : List ℕ) (same : slice ≡ found)
      (exact : (payload : List ℕ) → Spans span payload bytes → found ≡ payload) where
    is_payload : slice ≡ f.payload
    is_payload = same ∙ exact f.payload (found_span place.at span bytes f)

    pub steps_on : (next : Place) → next.at ≡ span.next → next.taken ≡ place.taken + 1 → ((r : Replayed) → has r old → Follows has (after_payload slice r) new (Ok tt)) → TakenTo has next new bytes
    steps_on next at more goes_on =
        taken_one has place old bytes so_far span f next new at more (subst (λ ps. IsSomeAnd (after_payload ps so_far.r) (λ r. has r new)) is_payload (goes_on so_far.r so_far.held))

    pub steps_broken : ((r : Replayed) → has r old → Follows has (after_payload slice r) new (Err read.Broken)) → all_of bytes ≡ None
    steps_broken goes_on = taken_broken has place old bytes so_far span f (ap (λ ps. after_payload ps so_far.r) (sym is_payload) ∙ goes_on so_far.r so_far.held)
