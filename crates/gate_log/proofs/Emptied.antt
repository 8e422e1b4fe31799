-- A short file that becomes the empty log.
use Rattle.std.proofs.Common.{◌≡◌, ℕ, ◌≤◌, List, [], ◌∷◌, ◌++◌, length, Option, Some, None, option_map, IfSome, refl, sym, ◌∙◌, ap, subst, arith}
use Rattle.gate_log.specs.Disk.{DiskTold}
use Rattle.gate_log.specs.Stops.{Within, Only}
use Rattle.gate_log.specs.Records.{header, records}
use Rattle.gate_log.specs.Log.{EndsAt, IsOpenAt}
use Rattle.gate_log.specs.Opening.{Keeps, Entered}
use Rattle.gate_log.proofs.Told.{if_told, at_told, told_map}
use Rattle.gate_log.proofs.Records.{records_short}
use Rattle.gate_log.proofs.Places.{ends_at}

-- the empty log
abbrev blank : List ℕ
blank = header ++ 0 ∷ []

blank_ends : EndsAt 8 blank
blank_ends = ends_at blank [] 8 refl (omega arith) (λ (e : 0 ≡ 1). omega arith) (omega arith)

module _ (old : DiskTold) (before synced now : List ℕ → Type 0) (within : Within before synced) (only : IfSome old.bytes (λ bytes. Only bytes synced)) (len : ℕ) (few : len ≤ 9) (counts : IfSome old.bytes (λ bytes. len ≡ length bytes)) where
  short : IfSome old.bytes (λ bytes. length bytes ≤ 9)
  short = told_map old.bytes (λ bytes. len ≡ length bytes) (λ bytes. length bytes ≤ 9) (λ (bytes : List ℕ) (e : len ≡ length bytes). omega arith) counts

  stood : IfSome old.bytes before
  stood = if_told old.bytes before (λ bytes e. within bytes (at_told old.bytes bytes (λ b. Only b synced) e only).is)

  -- short files stand for no record, whatever their bytes
  pub keeps_short : IfSome old.bytes (λ bytes. (c : List ℕ) → now c → length c ≤ 9) → Keeps old before now
  keeps_short small = if_told old.bytes _ (λ bytes e c left. (
    bytes,
    at_told old.bytes bytes before e stood,
    records_short c (at_told old.bytes bytes (λ b. (c : List ℕ) → now c → length c ≤ 9) e small c left) ∙ sym (records_short bytes (at_told old.bytes bytes (λ b. length b ≤ 9) e short)),
  ))

  pub entered_blank : (new : DiskTold) → new ≡ record old { bytes = option_map (λ bytes. blank) old.bytes } → IfSome new.bytes (λ bytes. Only bytes now) → Entered 8 old new before now
  entered_blank new is safe = record {
    faults = ap (λ (t : DiskTold). t.faults) is;
    stood = stood;
    same = ap (λ (t : DiskTold). option_map records t.bytes) is ∙ same_records old.bytes short;
    is_open = if_told new.bytes (IsOpenAt 8 now) (λ bytes e.
        let is_blank = blank_only old.bytes bytes (sym (ap (λ (t : DiskTold). t.bytes) is) ∙ e) in
        record { ends = subst (EndsAt 8) (sym is_blank) blank_ends; only = at_told new.bytes bytes (λ b. Only b now) e safe });
  }
    where
      same_records : (o : Option (List ℕ)) → IfSome o (λ bytes. length bytes ≤ 9) → option_map records (option_map (λ (bytes : List ℕ). blank) o) ≡ option_map records o
      same_records None s = refl
      same_records (Some bytes) s = ap Some (records_short blank (omega arith) ∙ sym (records_short bytes s))

      blank_only : (o : Option (List ℕ)) (bytes : List ℕ) → option_map (λ (b : List ℕ). blank) o ≡ Some bytes → bytes ≡ blank
      blank_only None bytes e = cc
      blank_only (Some b) bytes e = cc
