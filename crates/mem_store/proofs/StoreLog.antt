-- The log of a journaled store: what its bytes read as, and one record more.
use Rattle.std.proofs.Common.{◌≡◌, ℕ, ◌+◌, ◌-◌, ◌≤◌, true, List, [], ◌∷◌, ◌++◌, length, take, Option, Some, None, refl, sym, ap, ◌∙◌, arith}
use Rattle.std.proofs.lemmas.List.{append-nil, take_at}
use Rattle.std.specs.List.{list_all}
use Rattle.std.specs.Option.{unwrap_or}
use Rattle.vdb_model.specs.declared.source.Delta.{Delta}
use Rattle.vdb_model.specs.declared.source.Xid.{Xid}
use Rattle.vdb_model.specs.declared.table.TableDef.{TableDef}
use Rattle.vdb_model.specs.Defs.{is_defined}
use Rattle.vdb_model.specs.Deltas.{after_deltas}
use Rattle.vdb_model.specs.Rows.{Cells}
use Rattle.vdb_model.specs.World.{is_world}
use Rattle.gate_log.specs.Appending.{payload_of}
use Rattle.gate_log.specs.Log.{EndsAt}
use Rattle.gate_log.specs.Records.{log_limit, opened, records}
use Rattle.gate_log.proofs.Places.{place_of}
use Rattle.resource.specs.declared.resource.ResState.{ResState}
use Rattle.resource.specs.Reading.{Branch, Sound}
use Rattle.resource.specs.Stored.{StoredBranch, tables_in, after_stored, numbered}
use Rattle.resource.proofs.ByName.{all_seen}
use Rattle.store_records.specs.declared.entry.Entry.TheVariants.{Prepared, Committed, RolledBack, OnePhase}
use Rattle.store_records.specs.Fields.{◌>>=◌}
use Rattle.store_records.specs.Framing.{Frames}
use Rattle.mem_store.specs.Changes.{stored_as}
use Rattle.store_replay.specs.Replay.{Replayed, nothing, replay, room_behind, read_bytes}
use Rattle.store_replay.specs.Replaying.{AreApart}
use Rattle.mem_store.specs.Standing.{Knows, IsStoredAs}
use Rattle.mem_store.specs.Store.{tables_left, kept_by}
use Rattle.mem_store.proofs.MoreRecords.{replay_prepared, replay_one_phase, replay_committed, replay_rolled_back, IsPayload-Frames, length-Frames, payload_of-Frames, room_more, reads_unbranched, reads_branched, numbered_stored, tables_after_stored}

-- ---- counting records

ends_with : (end : ℕ) (bytes : List ℕ) (payloads : List (List ℕ)) → EndsAt end bytes → records bytes ≡ Some payloads → end ≡ 8 + length (opened payloads)
ends_with end bytes payloads ends are =
    let within = ends.within in
    let same : ends.payloads ≡ payloads = ap (λ o. unwrap_or o []) (sym ends.are ∙ are) in
    place_of bytes ends.payloads end ends.front (omega arith) ∙ ap (λ ps. 8 + length (opened ps)) same

-- the room behind the records is what is left
pub room_is : (end : ℕ) (bytes : List ℕ) (payloads : List (List ℕ)) → EndsAt end bytes → records bytes ≡ Some payloads → room_behind payloads ≡ log_limit - (end + 1)
room_is end bytes payloads ends are = ap (λ e. log_limit - (e + 1)) (sym (ends_with end bytes payloads ends are))

-- ---- what is kept, and the images

-- the known records are the first ones
pub kept_first : (n : ℕ) (bytes : List ℕ) (payloads more : List (List ℕ)) (defs : List TableDef) → records bytes ≡ Some (payloads ++ more) → length payloads ≡ n → kept_by n bytes defs ≡ tables_left (replay payloads nothing) defs
kept_first n bytes payloads more defs are count =
    ap (λ (o : Option (List (List ℕ))). tables_left (o >>= λ ps. replay (take n ps) nothing) defs) are
    ∙ ap (λ (ps : List (List ℕ)). tables_left (replay ps nothing) defs) (take_at payloads more n count)

module _ (s : ResState) (n end : ℕ) (defs : List TableDef) (kept : List (List Cells)) (deltas : List Delta) (now : List ℕ → Type 0) (bytes : List ℕ) (k : Knows s n end defs kept deltas now bytes) where
  pub knows_kept : kept_by n bytes defs ≡ kept
  knows_kept =
      kept_first n bytes k.payloads [] defs (k.are ∙ ap Some (sym (append-nil k.payloads))) k.count
      ∙ ap (λ o. tables_left o defs) k.leaves
      ∙ sym k.kept_is

  kept_world : is_world defs (tables_in k.r.tables defs) ≡ true
  kept_world = ap (is_world defs) (sym k.kept_is) ∙ k.kept_fits

  -- without a branch
  pub knows_plain : k.r.branch ≡ None → read_bytes bytes defs ≡ Sound kept None
  knows_plain none = reads_unbranched bytes k.payloads k.r defs k.are k.leaves none kept_world ∙ ap (λ tables. Sound tables None) (sym k.kept_is)

  -- with the branch of the transaction
  pub knows_branched : (x : Xid) → IsStoredAs x defs deltas k.r.branch → 22 ≤ log_limit - (end + 1) → read_bytes bytes defs ≡ Sound kept (Some (record { xid = x; deltas = deltas }))
  knows_branched x b room =
      let behind : 22 ≤ room_behind k.payloads = omega (arith, room_is end bytes k.payloads k.is_open.ends k.are) in
      let seen : is_world defs (after_deltas defs (tables_in k.r.tables defs) (numbered defs b.stored)) ≡ true =
      ap (λ tables. is_world defs (after_deltas defs tables (numbered defs b.stored))) (sym k.kept_is) ∙ ap (λ ds. is_world defs (after_deltas defs kept ds)) (sym b.deltas_are) ∙ k.seen_fits in
      reads_branched bytes k.payloads k.r (record { xid = x; deltas = b.stored }) defs k.are k.leaves b.is behind kept_world seen
      ∙ ap (λ tables. Sound tables (Some (record { xid = x; deltas = numbered defs b.stored }))) (sym k.kept_is)
      ∙ ap (λ ds. Sound kept (Some (record { xid = x; deltas = ds }))) (sym b.deltas_are)

-- ---- one record more

-- the branch as it is stored, where there is one
abbrev pub StoredSo : List TableDef → Option Branch → Option StoredBranch → Type 0
StoredSo defs None stored = stored ≡ None
StoredSo defs (Some branch) stored = IsStoredAs branch.xid defs branch.deltas stored

-- what the records leave with this one more, and what bytes with these records read as
pub record Next (payloads : List (List ℕ)) (p : List ℕ) (defs : List TableDef) (kept : List (List Cells)) (branch : Option Branch) : Type 0 where
  pub r : Replayed
  pub leaves : replay (payloads ++ p ∷ []) nothing ≡ Some r
  pub kept_is : kept ≡ tables_in r.tables defs
  pub stored : StoredSo defs branch r.branch
  pub reads : (c : List ℕ) → records c ≡ Some (payloads ++ p ∷ []) → read_bytes c defs ≡ Sound kept branch

-- no branch is left, and these tables
unbranched : (payloads : List (List ℕ)) (p : List ℕ) (defs : List TableDef) (kept : List (List Cells)) (r : Replayed) → replay (payloads ++ p ∷ []) nothing ≡ Some r → r.branch ≡ None → kept ≡ tables_in r.tables defs → is_world defs kept ≡ true
    → Next payloads p defs kept None
unbranched payloads p defs kept r leaves none is world = record {
  r = r;
  leaves = leaves;
  kept_is = is;
  stored = none;
  reads = λ c are. reads_unbranched c (payloads ++ p ∷ []) r defs are leaves none (ap (is_world defs) (sym is) ∙ world) ∙ ap (λ tables. Sound tables None) (sym is);
}

module _ (s : ResState) (n end : ℕ) (defs : List TableDef) (kept : List (List Cells)) (deltas : List Delta) (now : List ℕ → Type 0) (bytes : List ℕ) (k : Knows s n end defs kept deltas now bytes) (apart : AreApart defs) (x : Xid) (frame : List ℕ) where
  -- the branch is kept in one phase
  pub next_one_phase : k.r.branch ≡ None → list_all (λ delta. is_defined defs delta.table) deltas ≡ true → Frames (OnePhase x (stored_as defs deltas)) frame → Next k.payloads (payload_of frame) defs (after_deltas defs kept deltas) None
  next_one_phase none defined frames =
      unbranched k.payloads (payload_of frame) defs (after_deltas defs kept deltas) (record k.r { tables = after_stored k.r.tables (stored_as defs deltas) })
      (replay_one_phase k.payloads (payload_of frame) x (stored_as defs deltas) k.r k.leaves none (IsPayload-Frames (OnePhase x (stored_as defs deltas)) frame frames)) none
      (ap (λ tables. after_deltas defs tables deltas) k.kept_is ∙ sym (tables_after_stored k.r.tables deltas defs apart.numbers apart.names defined)) k.seen_fits

  -- the prepared branch is committed
  pub next_committed : IsStoredAs x defs deltas k.r.branch → Frames (Committed x) frame → Next k.payloads (payload_of frame) defs (after_deltas defs kept deltas) None
  next_committed b frames =
      unbranched k.payloads (payload_of frame) defs (after_deltas defs kept deltas) (record { tables = after_stored k.r.tables b.stored; branch = None })
      (replay_committed k.payloads (payload_of frame) x (record { xid = x; deltas = b.stored }) k.r k.leaves b.is refl (IsPayload-Frames (Committed x) frame frames)) refl
      (ap (λ tables. after_deltas defs tables deltas) k.kept_is ∙ ap (after_deltas defs (tables_in k.r.tables defs)) b.deltas_are ∙ sym (all_seen b.stored k.r.tables defs apart.numbers apart.names)) k.seen_fits

  -- and rolled back
  pub next_rolled_back : IsStoredAs x defs deltas k.r.branch → Frames (RolledBack x) frame → Next k.payloads (payload_of frame) defs kept None
  next_rolled_back b frames =
      unbranched k.payloads (payload_of frame) defs kept (record { tables = k.r.tables; branch = None })
      (replay_rolled_back k.payloads (payload_of frame) x (record { xid = x; deltas = b.stored }) k.r k.leaves b.is refl (IsPayload-Frames (RolledBack x) frame frames)) refl k.kept_is k.kept_fits

  -- the branch is prepared
  pub next_prepared : k.r.branch ≡ None → list_all (λ delta. is_defined defs delta.table) deltas ≡ true → Frames (Prepared x (stored_as defs deltas)) frame → length frame + 22 ≤ log_limit - (end + 1)
      → Next k.payloads (payload_of frame) defs kept (Some (record { xid = x; deltas = deltas }))
  next_prepared none defined frames room =
      let p = payload_of frame in
      let ds = stored_as defs deltas in
      let r : Replayed = record k.r { branch = Some (record { xid = x; deltas = ds }) } in
      let leaves = replay_prepared k.payloads p x ds k.r k.leaves none (IsPayload-Frames (Prepared x ds) frame frames) in
      let back = numbered_stored defs deltas apart.names defined in
      let long : length frame ≡ length p + 5 = length-Frames (Prepared x ds) frame frames ∙ ap (λ (l : List ℕ). length l + 5) (sym (payload_of-Frames (Prepared x ds) frame frames)) in
      let here = room_is end bytes k.payloads k.is_open.ends k.are in
      let fits : length p + 5 ≤ room_behind k.payloads = omega (arith, here) in
      let behind : 22 ≤ room_behind (k.payloads ++ p ∷ []) = omega (arith, here, room_more k.payloads p fits) in
      let kept_world : is_world defs (tables_in k.r.tables defs) ≡ true = ap (is_world defs) (sym k.kept_is) ∙ k.kept_fits in
      let seen : is_world defs (after_deltas defs (tables_in k.r.tables defs) (numbered defs ds)) ≡ true =
      ap (λ tables. is_world defs (after_deltas defs tables (numbered defs ds))) (sym k.kept_is) ∙ ap (λ l. is_world defs (after_deltas defs kept l)) back ∙ k.seen_fits in
      record {
        r = r;
        leaves = leaves;
        kept_is = k.kept_is;
        stored = record { stored = ds; is = refl; deltas_are = sym back };
        reads = λ c are. reads_branched c (k.payloads ++ p ∷ []) r (record { xid = x; deltas = ds }) defs are leaves refl behind kept_world seen
            ∙ ap (λ tables. Sound tables (Some (record { xid = x; deltas = numbered defs ds }))) (sym k.kept_is)
            ∙ ap (λ l. Sound kept (Some (record { xid = x; deltas = l }))) back;
      }
