-- What the record of each call leads to, and what a store keeps of a log that the call leaves alone.
use Rattle.std.proofs.Common.{◌≡◌, ℕ, ◌+◌, ◌-◌, ◌≤◌, true, false, List, [], ◌∷◌, ◌++◌, length, Option, Some, None, option_map, is_some, IfSome, refl, sym, ap, subst, ◌∙◌, arith}
use Rattle.std.specs.List.{list_all}
use Rattle.vdb_model.specs.declared.source.Delta.{Delta}
use Rattle.vdb_model.specs.declared.source.Xid.{Xid}
use Rattle.vdb_model.specs.declared.table.TableDef.{TableDef}
use Rattle.vdb_model.specs.Defs.{is_defined}
use Rattle.vdb_model.specs.Deltas.{after_deltas}
use Rattle.vdb_model.specs.Rows.{Cells}
use Rattle.gate_log.specs.Appending.{HasRecord, MayHaveRecord, payload_of, with_record}
use Rattle.gate_log.specs.Log.{IsOpenAt}
use Rattle.gate_log.specs.Records.{log_limit, records}
use Rattle.resource.specs.declared.resource.ResState.{ResState}
use Rattle.resource.specs.declared.resource.ResState.TheVariants as state
use Rattle.resource.proofs.ByName.{all_seen}
use Rattle.resource.specs.Images.{Image, Only, Or}
use Rattle.resource.specs.Reading.{Sound}
use Rattle.resource.specs.Stored.{tables_in, after_stored}
use Rattle.resource.specs.Told.{Contents, is_lost}
use Rattle.store_records.specs.declared.entry.Entry.TheVariants.{Prepared, Committed, RolledBack, OnePhase}
use Rattle.store_records.specs.Framing.{Frames}
use Rattle.mem_store.specs.Changes.{stored_as}
use Rattle.store_replay.specs.Replay.{room_behind}
use Rattle.store_replay.specs.Replaying.{AreApart}
use Rattle.mem_store.specs.Standing.{Knows, Lost}
use Rattle.mem_store.specs.Store.{kept_by, contents_in, images_read}
use Rattle.mem_store.specs.Writing.{one_more}
use Rattle.mem_store.proofs.MoreRecords.{replay_prepared, replay_one_phase, replay_committed, replay_rolled_back, IsPayload-Frames, payload_of-Frames, length-Frames, room_more, numbered_stored, tables_after_stored}
use Rattle.mem_store.proofs.RecordSteps.{some_is, end_behind, kept_known, branch_read, HasEnding, Leaves, known_leaves, leaves_reads, knows_more, only_new, or_new, lost_more, kept_lost}

module _ (s : ResState) (n end : ℕ) (defs : List TableDef) (kept : List (List Cells)) (deltas : List Delta) (now : List ℕ → Type 0) (bytes : List ℕ) (k : Knows s n end defs kept deltas now bytes) where
  -- the room behind the known records is what is left of the log
  pub known_room : room_behind k.payloads ≡ log_limit - (end + 1)
  known_room = ap (λ place. log_limit - (place + 1)) (sym (end_behind end bytes k.payloads k.is_open.ends k.are))

module _ (x : Xid) (n end : ℕ) (defs : List TableDef) (kept : List (List Cells)) (deltas : List Delta) (now : List ℕ → Type 0) (frame : List ℕ) (apart : AreApart defs) where
  pub next_prepared : Frames (Prepared x (stored_as defs deltas)) frame → list_all (λ delta. is_defined defs delta.table) deltas ≡ true → length frame + 22 ≤ log_limit - (end + 1)
      → (bytes : List ℕ) (k : Knows (state.Ended x) n end defs kept deltas now bytes) → Leaves (state.Prepared x) defs kept deltas (k.payloads ++ payload_of frame ∷ [])
  next_prepared frames defined fits bytes k =
      let e = Prepared x (stored_as defs deltas) in
      let p = payload_of frame in
      let size : length p + 5 ≡ length frame = omega (arith, ap length (payload_of-Frames e frame frames), length-Frames e frame frames) in
      let room = known_room (state.Ended x) n end defs kept deltas now bytes k in
      record {
        r = record k.r { branch = Some (record { xid = x; deltas = stored_as defs deltas }) };
        leaves = replay_prepared k.payloads p x (stored_as defs deltas) k.r k.leaves k.branch (IsPayload-Frames e frame frames);
        kept_is = k.kept_is;
        branch = record { stored = stored_as defs deltas; is = refl; deltas_are = sym (numbered_stored defs deltas apart.names defined) };
        kept_fits = k.kept_fits;
        seen_fits = k.seen_fits;
        room = omega (arith, room_more k.payloads p (omega (arith, size, room, fits)), size, room, fits);
      }

  pub next_one_phase : Frames (OnePhase x (stored_as defs deltas)) frame → list_all (λ delta. is_defined defs delta.table) deltas ≡ true
      → (bytes : List ℕ) (k : Knows (state.Ended x) n end defs kept deltas now bytes) → Leaves state.Idle defs (after_deltas defs kept deltas) [] (k.payloads ++ payload_of frame ∷ [])
  next_one_phase frames defined bytes k =
      let stored = stored_as defs deltas in
      record {
        r = record k.r { tables = after_stored k.r.tables stored };
        leaves = replay_one_phase k.payloads (payload_of frame) x stored k.r k.leaves k.branch (IsPayload-Frames (OnePhase x stored) frame frames);
        kept_is = ap (λ tables. after_deltas defs tables deltas) k.kept_is ∙ sym (tables_after_stored k.r.tables deltas defs apart.numbers apart.names defined);
        branch = k.branch;
        kept_fits = k.seen_fits;
        seen_fits = k.seen_fits;
        room = tt;
      }

  pub next_committed : Frames (Committed x) frame
      → (bytes : List ℕ) (k : Knows (state.Prepared x) n end defs kept deltas now bytes) → Leaves state.Idle defs (after_deltas defs kept deltas) [] (k.payloads ++ payload_of frame ∷ [])
  next_committed frames bytes k =
      let stored = k.branch.stored in
      record {
        r = record { tables = after_stored k.r.tables stored; branch = None };
        leaves = replay_committed k.payloads (payload_of frame) x (record { xid = x; deltas = stored }) k.r k.leaves k.branch.is refl (IsPayload-Frames (Committed x) frame frames);
        kept_is = ap (λ tables. after_deltas defs tables deltas) k.kept_is ∙ ap (after_deltas defs (tables_in k.r.tables defs)) k.branch.deltas_are ∙ sym (all_seen stored k.r.tables defs apart.numbers apart.names);
        branch = refl;
        kept_fits = k.seen_fits;
        seen_fits = k.seen_fits;
        room = tt;
      }

  pub next_rolled_back : Frames (RolledBack x) frame
      → (bytes : List ℕ) (k : Knows (state.Prepared x) n end defs kept deltas now bytes) → Leaves state.Idle defs kept [] (k.payloads ++ payload_of frame ∷ [])
  next_rolled_back frames bytes k =
      let stored = k.branch.stored in
      record {
        r = record { tables = k.r.tables; branch = None };
        leaves = replay_rolled_back k.payloads (payload_of frame) x (record { xid = x; deltas = stored }) k.r k.leaves k.branch.is refl (IsPayload-Frames (RolledBack x) frame frames);
        kept_is = k.kept_is;
        branch = refl;
        kept_fits = k.kept_fits;
        seen_fits = k.kept_fits;
        room = tt;
      }

-- whether bytes are told stays
pub told_both : (p : List ℕ) (old new : Option (List ℕ)) → option_map records new ≡ option_map (with_record p) old → is_some new ≡ is_some old
told_both p None None e = refl
told_both p None (Some c) e = ap is_some e
told_both p (Some b) None e = ap is_some e
told_both p (Some b) (Some c) e = refl

-- a fact of told bytes that doesn't name them
pub still : (P : Type 0) (old new : Option (List ℕ)) → is_some new ≡ is_some old → IfSome old (λ b. P) → IfSome new (λ c. P)
still P None None e h = tt
still P None (Some c) e h = cc
still P (Some b) None e h = tt
still P (Some b) (Some c) e h = h

-- the contents, by the known records
module _ (n : ℕ) (defs : List TableDef) (kept : List (List Cells)) (deltas : List Delta) where
  pub contents_are : (bytes : Option (List ℕ)) → IfSome bytes (λ b. kept_by n b defs ≡ kept) → option_map (contents_in n (Some defs) deltas) bytes ≡ option_map (λ b. record { kept = kept; deltas = deltas }) bytes
  contents_are None h = refl
  contents_are (Some b) h = ap (λ tables. Some (record { kept = tables; deltas = deltas })) h

  pub at_contents : (bytes : Option (List ℕ)) (P : Contents → Type 0) → IfSome bytes (λ b. kept_by n b defs ≡ kept) → IfSome bytes (λ b. P (record { kept = kept; deltas = deltas })) → IfSome (option_map (contents_in n (Some defs) deltas) bytes) P
  at_contents None P h holds = tt
  at_contents (Some b) P h holds = subst (λ tables. P (record { kept = tables; deltas = deltas })) (sym h) holds

pub one_content : (c : Contents) (old new : Option (List ℕ)) → is_some new ≡ is_some old → option_map (λ b. c) new ≡ option_map (λ b. c) old
one_content c None None e = refl
one_content c None (Some b) e = cc
one_content c (Some b) None e = cc
one_content c (Some b) (Some d) e = refl

pub content_ends : (ends : Contents → Contents) (c d : Contents) (bytes : Option (List ℕ)) → ends c ≡ d → option_map ends (option_map (λ (b : List ℕ). c) bytes) ≡ option_map (λ b. d) bytes
content_ends ends c d None e = refl
content_ends ends c d (Some b) e = ap Some e

pub kept_told : (s : ResState) (n end : ℕ) (defs : List TableDef) (kept : List (List Cells)) (deltas : List Delta) (now : List ℕ → Type 0) (bytes : Option (List ℕ)) → IfSome bytes (Knows s n end defs kept deltas now) → IfSome bytes (λ b. kept_by n b defs ≡ kept)
kept_told s n end defs kept deltas now None k = tt
kept_told s n end defs kept deltas now (Some b) k = kept_known s n end defs kept deltas now b k

-- a step from what is known, where bytes are told
module _ (s then : ResState) (here : is_lost s ≡ false) (there : is_lost then ≡ false) (n end : ℕ) (defs : List TableDef) (kept after : List (List Cells)) (deltas rest : List Delta) (p : List ℕ) (before now : List ℕ → Type 0)
    (room : (b : List ℕ) (k : Knows s n end defs kept deltas before b) → HasEnding s (room_behind k.payloads))
    (next : (b : List ℕ) (k : Knows s n end defs kept deltas before b) → Leaves then defs after rest (k.payloads ++ p ∷ [])) where
  pub told_more : (after_end : ℕ) (old new : Option (List ℕ)) → option_map records new ≡ option_map (with_record p) old → IfSome old (Knows s n end defs kept deltas before) → IfSome new (IsOpenAt after_end now) → IfSome new (Knows then (one_more n) after_end defs after rest now)
  told_more after_end None None e k o = tt
  told_more after_end None (Some c) e k o = cc
  told_more after_end (Some b) None e k o = tt
  told_more after_end (Some b) (Some c) e k o =
      knows_more s then here there n end defs kept after deltas rest p before now b k (room b k) (next b k) after_end c (some_is (records c) (with_record p b) e) o

  pub told_only : (after_end : ℕ) (old new : Option (List ℕ)) → is_some new ≡ is_some old → IfSome old (Knows s n end defs kept deltas before) → IfSome old (HasRecord p now) → IfSome new (IsOpenAt after_end now)
      → IfSome old (λ b. Only defs (Sound after (branch_read then rest)) (images_read new now))
  told_only after_end None new e k has o = tt
  told_only after_end (Some b) None e k has o = cc
  told_only after_end (Some b) (Some c) e k has o =
      only_new s then here there n end defs kept after deltas rest p before now b k (room b k) (next b k) c o.only.is has

  pub told_or : (old new : Option (List ℕ)) → is_some new ≡ is_some old → IfSome old (Knows s n end defs kept deltas before) → IfSome old (MayHaveRecord p now)
      → IfSome old (λ b. Or defs (Sound after (branch_read then rest)) (images_read old before) (images_read new now))
  told_or None new e k may = tt
  told_or (Some b) None e k may = cc
  told_or (Some b) (Some c) e k may = or_new s then here there n end defs kept after deltas rest p before now b k (room b k) (next b k) c may

  pub told_lost : (old new : Option (List ℕ)) → is_some new ≡ is_some old → IfSome old (Knows s n end defs kept deltas before) → IfSome old (MayHaveRecord p now) → IfSome new now → IfSome new (Lost n defs now)
  told_lost None None e k may stands = tt
  told_lost None (Some c) e k may stands = cc
  told_lost (Some b) None e k may stands = tt
  told_lost (Some b) (Some c) e k may stands = lost_more s then here there n end defs kept after deltas rest p before now b k (room b k) (next b k) c stands may

  pub told_kept : (old new : Option (List ℕ)) → is_some new ≡ is_some old → IfSome old (Knows s n end defs kept deltas before) → IfSome old (MayHaveRecord p now) → IfSome new now → IfSome new (λ c. kept_by n c defs ≡ kept)
  told_kept None None e k may stands = tt
  told_kept None (Some c) e k may stands = cc
  told_kept (Some b) None e k may stands = tt
  told_kept (Some b) (Some c) e k may stands = kept_lost s then here there n end defs kept after deltas rest p before now b k (room b k) (next b k) c stands may

-- nothing is written, and the branch is gone
module _ (s : ResState) (here : is_lost s ≡ false) (n end : ℕ) (defs : List TableDef) (kept : List (List Cells)) (deltas : List Delta) (now : List ℕ → Type 0) where
  quiet_knows : (bytes : List ℕ) (k : Knows s n end defs kept deltas now bytes) → k.r.branch ≡ None → Knows state.Idle n end defs kept [] now bytes
  quiet_knows bytes k none = record {
    payloads = k.payloads;
    r = k.r;
    are = k.are;
    count = k.count;
    leaves = k.leaves;
    kept_is = k.kept_is;
    branch = none;
    kept_fits = k.kept_fits;
    seen_fits = k.kept_fits;
    is_open = k.is_open;
  }

  pub quiet_told : ((b : List ℕ) (k : Knows s n end defs kept deltas now b) → k.r.branch ≡ None) → (bytes : Option (List ℕ)) → IfSome bytes (Knows s n end defs kept deltas now) → IfSome bytes (Knows state.Idle n end defs kept [] now)
  quiet_told none None k = tt
  quiet_told none (Some b) k = quiet_knows b k (none b k)

-- an idle store reads as what is kept
pub idle_only : (n end : ℕ) (defs : List TableDef) (kept : List (List Cells)) (now : List ℕ → Type 0) (bytes : Option (List ℕ)) → IfSome bytes (Knows state.Idle n end defs kept [] now) → IfSome bytes (λ b. Only defs (Sound kept None) (images_read bytes now))
idle_only n end defs kept now None k = tt
idle_only n end defs kept now (Some b) k = record {
  some = (_, (b, k.is_open.only.is, refl));
  each = λ i from.
      ap (λ (j : Image). j defs) from.2
      ∙ leaves_reads state.Idle defs kept [] k.payloads refl (known_leaves state.Idle n end defs kept [] now b k tt) from.0 (ap records (k.is_open.only.only from.0 from.1) ∙ k.are);
}
