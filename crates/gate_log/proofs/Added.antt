-- A frame behind the closed gate of a log, and then the gate opened.
use Rattle.std.proofs.Common.{◌≡◌, ◌≢◌, ℕ, ◌+◌, ◌<◌, ◌≤◌, ◌⊎◌, inl, inr, List, [], ◌∷◌, ◌++◌, length, get_or, take, drop, Some, option_map, sym, ◌∙◌, ap, arith, append_assoc, length-append, length-take-le, take-append-drop}
use Rattle.std.proofs.lemmas.List.{append-nil, take_at, drop_at, drop_more, get_or-take, get_or_at, take-take}
use Rattle.std.proofs.lemmas.Bool.{cases_eq}
use Rattle.gate_log.specs.Disk.{overwritten}
use Rattle.gate_log.specs.Stops.{Torn}
use Rattle.gate_log.specs.Records.{header, log_limit, body, opened, records}
use Rattle.gate_log.specs.Log.{EndsAt}
use Rattle.gate_log.specs.Appending.{framed, with_record}
use Rattle.gate_log.proofs.Stops.{Torn-overwritten}
use Rattle.gate_log.proofs.Records.{opened-append, length-body}
use Rattle.gate_log.proofs.Places.{records_closed, ends_at}

-- bytes in which an open gate and a frame stand behind records
framed_ends : (c : List ℕ) (ps : List (List ℕ)) (p frame rest : List ℕ) (end : ℕ) → frame ≡ framed p → take end c ≡ header ++ opened ps → end < length c → get_or c end 1 ≡ 1 → drop (end + 1) c ≡ frame ++ rest → length c ≤ log_limit
    → (records c ≡ Some (ps ++ p ∷ [])) × EndsAt (end + length frame) c
framed_ends c ps p frame rest end form front within opens behind short =
    let qs = ps ++ p ∷ [] in
    let log = header ++ opened qs in
    let size = length-body p in
    let sizes = length-append (body p) (0 ∷ []) in
    let log_is : (header ++ opened ps) ++ 1 ∷ body p ≡ log =
    append_assoc header (opened ps) (1 ∷ body p)
    ∙ ap (λ (l : List ℕ). header ++ (opened ps ++ 1 ∷ l)) (sym (append-nil (body p)))
    ∙ ap (λ (l : List ℕ). header ++ l) (sym (opened-append ps (p ∷ []))) in
    let whole : c ≡ log ++ 0 ∷ rest =
    sym (take-append-drop end c)
    ∙ ap (λ (l : List ℕ). take end c ++ l) (drop_more c end 1 within)
    ∙ ap (λ (l : List ℕ). l ++ get_or c end 1 ∷ drop (end + 1) c) front
    ∙ ap (λ gate. (header ++ opened ps) ++ gate ∷ drop (end + 1) c) opens
    ∙ ap (λ (l : List ℕ). (header ++ opened ps) ++ 1 ∷ l) (behind ∙ ap (λ (l : List ℕ). l ++ rest) form ∙ append_assoc (body p) (0 ∷ []) rest)
    ∙ sym (append_assoc (header ++ opened ps) (1 ∷ body p) (0 ∷ rest))
    ∙ ap (λ (l : List ℕ). l ++ 0 ∷ rest) log_is in
    let long : length log ≡ end + length frame = omega (arith, ap length log_is, length-append (header ++ opened ps) (1 ∷ body p), ap length front, length-take-le end c (omega arith), ap length form) in
    let log_front : take (end + length frame) c ≡ log = ap (take (end + length frame)) whole ∙ take_at log (0 ∷ rest) (end + length frame) long in
    let gate : get_or c (end + length frame) 1 ≡ 0 = ap (λ (l : List ℕ). get_or l (end + length frame) 1) whole ∙ get_or_at log 0 rest 1 (end + length frame) long in
    let room : end + length frame < length c = omega (arith, ap length whole, length-append log (0 ∷ rest)) in
    let closed : get_or c (end + length frame) 1 ≢ 1 = λ e. omega arith in
    (records_closed c qs (end + length frame) log_front room closed short, ends_at c qs (end + length frame) log_front room closed short)

module _ (bytes frame p : List ℕ) (end : ℕ) (ends : EndsAt end bytes) (form : frame ≡ framed p) (fits : end + length frame < log_limit) where
  abbrev pub staged : List ℕ
  staged = overwritten (end + 1) frame bytes

  -- whatever a torn write of the frame leaves, the gate before it is closed
  pub torn_frame : (c : List ℕ) → Torn (end + 1) (length frame) bytes c → records c ≡ records bytes
  torn_frame c torn =
      let within = ends.within in
      let short = ends.no_longer in
      let longer = torn.no_shorter in
      let shorter = torn.no_longer in
      records_closed c ends.payloads end
      (sym (take-take end (end + 1) c (omega arith)) ∙ ap (take end) torn.before ∙ take-take end (end + 1) bytes (omega arith) ∙ ends.front)
      (omega arith)
      (λ e. ends.closed (sym (get_or-take (end + 1) bytes end 1 (omega arith)) ∙ ap (λ (l : List ℕ). get_or l end 1) (sym torn.before) ∙ get_or-take (end + 1) c end 1 (omega arith) ∙ e))
      (omega arith)
      ∙ sym ends.are

  staged_torn : Torn (end + 1) (length frame) bytes staged
  staged_torn = let within = ends.within in Torn-overwritten (end + 1) frame bytes (omega arith)

  staged_front : take end staged ≡ header ++ opened ends.payloads
  staged_front = sym (take-take end (end + 1) staged (omega arith)) ∙ ap (take end) staged_torn.before ∙ take-take end (end + 1) bytes (omega arith) ∙ ends.front

  staged_behind : drop (end + 1) staged ≡ frame ++ drop (end + 1 + length frame) bytes
  staged_behind =
      let within = ends.within in
      ap (drop (end + 1)) (append_assoc (take (end + 1) bytes) frame (drop (end + 1 + length frame) bytes))
      ∙ drop_at (take (end + 1) bytes) (frame ++ drop (end + 1 + length frame) bytes) (end + 1) (length-take-le (end + 1) bytes (omega arith))

  with_record_is : with_record p bytes ≡ Some (ends.payloads ++ p ∷ [])
  with_record_is = ap (option_map (λ payloads. payloads ++ p ∷ [])) ends.are

  -- the frame behind an open gate is a record
  gate_opened : (c : List ℕ) → Torn end 1 staged c → get_or c end 1 ≡ 1 → (records c ≡ with_record p bytes) × EndsAt (end + length frame) c
  gate_opened c torn opens =
      let within = ends.within in
      let short = ends.no_longer in
      let first = staged_torn in
      let long = first.no_shorter in
      let longer = first.no_longer in
      let again = torn.no_shorter in
      let shorter = torn.no_longer in
      let found = framed_ends c ends.payloads p frame (drop (end + 1 + length frame) bytes) end form (torn.before ∙ staged_front) (omega arith) opens (torn.after ∙ staged_behind) (omega arith) in
      (found.0 ∙ sym with_record_is, found.1)

  -- whatever a torn write of the gate leaves, the record is there or it isn't
  pub torn_gate : (c : List ℕ) → Torn end 1 staged c → (records c ≡ records bytes) ⊎ (records c ≡ with_record p bytes)
  torn_gate c torn =
      let within = ends.within in
      let short = ends.no_longer in
      let first = staged_torn in
      let long = first.no_shorter in
      let longer = first.no_longer in
      let again = torn.no_shorter in
      let shorter = torn.no_longer in
      elim (cases_eq (get_or c end 1) 1) [
        | inl opens ↦ inr (gate_opened c torn opens).0
        | inr closed ↦ inl (records_closed c ends.payloads end (torn.before ∙ staged_front) (omega arith) closed (omega arith) ∙ sym ends.are)
      ]

  -- both writes done
  pub added : (records (overwritten end (1 ∷ []) staged) ≡ with_record p bytes) × EndsAt (end + length frame) (overwritten end (1 ∷ []) staged)
  added =
      let within = ends.within in
      let first = staged_torn in
      let long = first.no_shorter in
      let size = length-take-le end staged (omega arith) in
      gate_opened (overwritten end (1 ∷ []) staged) (Torn-overwritten end (1 ∷ []) staged (omega arith))
      (ap (λ (l : List ℕ). get_or l end 1) (append_assoc (take end staged) (1 ∷ []) (drop (end + 1) staged)) ∙ get_or_at (take end staged) 1 (drop (end + 1) staged) 1 end size)
