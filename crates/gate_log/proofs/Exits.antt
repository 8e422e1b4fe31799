-- What an append leaves after each of its writes.
use Rattle.std.proofs.Common.{◌≡◌, inl, ℕ, ◌+◌, ◌<◌, List, [], ◌∷◌, length, Option, Some, None, option_map, IfSome, refl, sym, ◌∙◌, ap, subst}
use Rattle.gate_log.specs.Disk.{DiskTold, overwritten}
use Rattle.gate_log.specs.Stops.{Torn, Follows, Only}
use Rattle.gate_log.specs.Records.{log_limit, records}
use Rattle.gate_log.specs.Log.{IsOpenAt}
use Rattle.gate_log.specs.Appending.{IsFrame, payload_of, with_record, HasRecord, MayHaveRecord, Appended}
use Rattle.gate_log.proofs.Told.{if_told, at_told}
use Rattle.gate_log.proofs.Added.{torn_frame, torn_gate, added}

module _ (old : DiskTold) (before : List ℕ → Type 0) (gate : ℕ) (frame : List ℕ) (ready : IfSome old.bytes (IsOpenAt gate before)) (form : IsFrame frame) (fits : gate + length frame < log_limit) where
  -- the frame was being written
  pub at_frame : (now : List ℕ → Type 0) → Follows (Torn (gate + 1) (length frame)) before now → IfSome old.bytes (MayHaveRecord (payload_of frame) now)
  at_frame now follows = if_told old.bytes (MayHaveRecord (payload_of frame) now) (λ bytes e c left.
      let open_at = at_told old.bytes bytes (IsOpenAt gate before) e ready in
      let from = follows c left in
      inl (torn_frame bytes frame (payload_of frame) gate open_at.ends form fits c (subst (λ d. Torn (gate + 1) (length frame) d c) (open_at.only.only from.0 from.1) from.2)))

  module _ (mid : DiskTold) (between : List ℕ → Type 0) (wrote : mid ≡ record old { bytes = option_map (overwritten (gate + 1) frame) old.bytes }) where
    -- the frame stood there, and the gate was being written
    pub at_gate : (now : List ℕ → Type 0) → IfSome mid.bytes (λ bytes. Only bytes between) → Follows (Torn gate 1) between now → IfSome old.bytes (MayHaveRecord (payload_of frame) now)
    at_gate now safe follows = if_told old.bytes (MayHaveRecord (payload_of frame) now) (λ bytes e c left.
        let open_at = at_told old.bytes bytes (IsOpenAt gate before) e ready in
        let staged : mid.bytes ≡ Some (overwritten (gate + 1) frame bytes) = ap (λ (t : DiskTold). t.bytes) wrote ∙ ap (option_map (overwritten (gate + 1) frame)) e in
        let only = at_told mid.bytes (overwritten (gate + 1) frame bytes) (λ b. Only b between) staged safe in
        let from = follows c left in
        torn_gate bytes frame (payload_of frame) gate open_at.ends form fits c (subst (λ d. Torn gate 1 d c) (only.only from.0 from.1) from.2))

    module _ (new : DiskTold) (now : List ℕ → Type 0) (opened : new ≡ record mid { bytes = option_map (overwritten gate (1 ∷ [])) mid.bytes }) (safe : IfSome new.bytes (λ bytes. Only bytes now)) where
      abbrev both : List ℕ → List ℕ
      both bytes = overwritten gate (1 ∷ []) (overwritten (gate + 1) frame bytes)

      both_is : new.bytes ≡ option_map both old.bytes
      both_is = ap (λ (t : DiskTold). t.bytes) opened ∙ ap (λ (t : DiskTold). option_map (overwritten gate (1 ∷ [])) t.bytes) wrote ∙ twice old.bytes
        where
          twice : (o : Option (List ℕ)) → option_map (overwritten gate (1 ∷ [])) (option_map (overwritten (gate + 1) frame) o) ≡ option_map both o
          twice None = refl
          twice (Some bytes) = refl

      pub appended : Appended (payload_of frame) old new
      appended = record {
        faults = ap (λ (t : DiskTold). t.faults) opened ∙ ap (λ (t : DiskTold). t.faults) wrote;
        more = ap (option_map records) both_is ∙ more old.bytes ready;
      }
        where
          more : (o : Option (List ℕ)) → IfSome o (IsOpenAt gate before) → option_map records (option_map both o) ≡ option_map (with_record (payload_of frame)) o
          more None r = refl
          more (Some bytes) r = ap Some (added bytes frame (payload_of frame) gate r.ends form fits).0

      pub has_record : IfSome old.bytes (HasRecord (payload_of frame) now)
      has_record = if_told old.bytes (HasRecord (payload_of frame) now) (λ bytes e c left.
          let open_at = at_told old.bytes bytes (IsOpenAt gate before) e ready in
          let only = at_told new.bytes (both bytes) (λ b. Only b now) (both_is ∙ ap (option_map both) e) safe in
          ap records (only.only c left) ∙ (added bytes frame (payload_of frame) gate open_at.ends form fits).0)

      pub open_again : IfSome new.bytes (IsOpenAt (gate + length frame) now)
      open_again = again old.bytes new.bytes both_is ready safe
        where
          again : (o n : Option (List ℕ)) → n ≡ option_map both o → IfSome o (IsOpenAt gate before) → IfSome n (λ bytes. Only bytes now) → IfSome n (IsOpenAt (gate + length frame) now)
          again None n e r s = subst (λ (m : Option (List ℕ)). IfSome m (IsOpenAt (gate + length frame) now)) (sym e) tt
          again (Some bytes) n e r s = subst (λ (m : Option (List ℕ)). IfSome m (IsOpenAt (gate + length frame) now)) (sym e)
              (record { ends = (added bytes frame (payload_of frame) gate r.ends form fits).1; only = at_told n (both bytes) (λ b. Only b now) e s })
