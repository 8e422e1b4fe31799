-- A log with one record more: what it leaves, what its bytes read as, and the room behind it.
use Rattle.std.proofs.Common.{◌≡◌, ℕ, ◌+◌, ◌≤◌, true, cond, ◌==◌, List, [], ◌∷◌, ◌++◌, length, Option, Some, None, refl, ap, ◌∙◌, arith, length-append}
use Rattle.std.specs.Prelude.{is_some, nat_le}
use Rattle.std.specs.List.{list_all}
use Rattle.std.proofs.lemmas.Bool.{and_parts, and_from}
use Rattle.std.proofs.lemmas.Bool.Decides.{nat_tests}
use Rattle.vdb_model.specs.declared.source.Delta.{Delta}
use Rattle.vdb_model.specs.declared.source.Xid.{Xid}
use Rattle.vdb_model.specs.declared.table.TableDef.{TableDef}
use Rattle.vdb_model.specs.Defs.{def_of, is_defined, are_numbered_apart, are_named_apart}
use Rattle.vdb_model.specs.Deltas.{after_deltas}
use Rattle.vdb_model.specs.World.{is_world}
use Rattle.resource.specs.declared.stored.StoredDelta.{StoredDelta}
use Rattle.resource.specs.declared.stored.StoredTable.{StoredTable}
use Rattle.resource.specs.Making.{by_name}
use Rattle.resource.specs.Reading.{Sound}
use Rattle.resource.specs.Stored.{StoredBranch, tables_in, after_stored, with_number, numbered, read_store, sound_unless}
use Rattle.resource.proofs.ByName.{all_seen, number_found}
use Rattle.resource.proofs.Faultless.{no_faults}
use Rattle.gate_log.specs.Records.{body, opened, records}
use Rattle.gate_log.specs.Appending.{framed as logged, payload_of, IsFrame}
use Rattle.gate_log.specs.Walking.{gate_behind}
use Rattle.gate_log.proofs.Frames.{payload_of-framed, IsFrame-framed}
use Rattle.gate_log.proofs.Records.{opened-append, length-body}
use Rattle.store_records.specs.declared.entry.Entry.{Entry}
use Rattle.store_records.specs.declared.entry.Entry.TheVariants.{Prepared, Committed, RolledBack, OnePhase}
use Rattle.store_records.specs.Fields.{◌>>=◌}
use Rattle.store_records.specs.Framing.{Frames, ending_size}
use Rattle.store_records.specs.Payloads.{payload, IsPayload}
use Rattle.store_records.specs.Reading.{entry_of}
use Rattle.store_records.proofs.Entries.{entry_again}
use Rattle.mem_store.specs.Changes.{stored_as}
use Rattle.store_replay.specs.Replay.{Replayed, nothing, same_xid, ended, after_entry, after_payload, replay, room_behind, can_end, store_in, reading_of, read_bytes}

-- ---- what one record more leaves

bind_some : (o : Option Replayed) → (o >>= λ r. Some r) ≡ o
bind_some None = refl
bind_some (Some r) = refl

bind_then : (o : Option Replayed) (f g h : Replayed → Option Replayed) → ((r : Replayed) → f r ≡ (g r >>= h)) → (o >>= f) ≡ ((o >>= g) >>= h)
bind_then None f g h each = refl
bind_then (Some r) f g h each = each r

-- one payload more
pub replay_more : (payloads : List (List ℕ)) (p : List ℕ) (r : Replayed) → replay (payloads ++ p ∷ []) r ≡ (replay payloads r >>= after_payload p)
replay_more [] p r = bind_some (after_payload p r)
replay_more (first ∷ payloads) p r =
    bind_then (after_payload first r) (λ next. replay (payloads ++ p ∷ []) next) (λ next. replay payloads next) (after_payload p) (λ next. replay_more payloads p next)

-- the payload of a record reads as that record
pub payload_reads : (e : Entry) (p : List ℕ) → IsPayload e p → entry_of p ≡ Some e
payload_reads e p is = ap entry_of is.is ∙ entry_again e is.has

-- one record more
pub replay_entry : (payloads : List (List ℕ)) (p : List ℕ) (e : Entry) (start r : Replayed) → replay payloads start ≡ Some r → IsPayload e p → replay (payloads ++ p ∷ []) start ≡ after_entry e r
replay_entry payloads p e start r before is =
    replay_more payloads p start
    ∙ ap (λ o. o >>= after_payload p) before
    ∙ ap (λ (o : Option Entry). o >>= λ entry. after_entry entry r) (payload_reads e p is)

pub replay_prepared : (payloads : List (List ℕ)) (p : List ℕ) (x : Xid) (ds : List StoredDelta) (r : Replayed) → replay payloads nothing ≡ Some r → r.branch ≡ None → IsPayload (Prepared x ds) p
    → replay (payloads ++ p ∷ []) nothing ≡ Some (record r { branch = Some (record { xid = x; deltas = ds }) })
replay_prepared payloads p x ds r before none is =
    replay_entry payloads p (Prepared x ds) nothing r before is
    ∙ ap (λ (b : Option StoredBranch). cond (is_some b) None (Some (record r { branch = Some (record { xid = x; deltas = ds }) }))) none

pub replay_one_phase : (payloads : List (List ℕ)) (p : List ℕ) (x : Xid) (ds : List StoredDelta) (r : Replayed) → replay payloads nothing ≡ Some r → r.branch ≡ None → IsPayload (OnePhase x ds) p
    → replay (payloads ++ p ∷ []) nothing ≡ Some (record r { tables = after_stored r.tables ds })
replay_one_phase payloads p x ds r before none is =
    replay_entry payloads p (OnePhase x ds) nothing r before is
    ∙ ap (λ (b : Option StoredBranch). cond (is_some b) None (Some (record r { tables = after_stored r.tables ds }))) none

xid_same : (x : Xid) → same_xid x x ≡ true
xid_same x =
    let epochs : (x.epoch == x.epoch) ≡ true = grind (arith, nat_tests) in
    let seqs : (x.seq == x.seq) ≡ true = grind (arith, nat_tests) in
    and_from (x.epoch == x.epoch) (x.seq == x.seq) epochs seqs

-- a branch is ended by its own transaction
ended_by_own : (branch : Option StoredBranch) (b : StoredBranch) (x : Xid) (left : List StoredDelta → List StoredTable) → branch ≡ Some b → b.xid ≡ x → ended branch x left ≡ Some (record { tables = left b.deltas; branch = None })
ended_by_own branch b x left some own =
    ap (λ o. ended o x left) some
    ∙ ap (λ same. cond same (Some (record { tables = left b.deltas; branch = None })) None) (ap (λ y. same_xid y x) own ∙ xid_same x)

pub replay_committed : (payloads : List (List ℕ)) (p : List ℕ) (x : Xid) (b : StoredBranch) (r : Replayed) → replay payloads nothing ≡ Some r → r.branch ≡ Some b → b.xid ≡ x → IsPayload (Committed x) p
    → replay (payloads ++ p ∷ []) nothing ≡ Some (record { tables = after_stored r.tables b.deltas; branch = None })
replay_committed payloads p x b r before some own is =
    replay_entry payloads p (Committed x) nothing r before is ∙ ended_by_own r.branch b x (λ deltas. after_stored r.tables deltas) some own

pub replay_rolled_back : (payloads : List (List ℕ)) (p : List ℕ) (x : Xid) (b : StoredBranch) (r : Replayed) → replay payloads nothing ≡ Some r → r.branch ≡ Some b → b.xid ≡ x → IsPayload (RolledBack x) p
    → replay (payloads ++ p ∷ []) nothing ≡ Some (record { tables = r.tables; branch = None })
replay_rolled_back payloads p x b r before some own is =
    replay_entry payloads p (RolledBack x) nothing r before is ∙ ended_by_own r.branch b x (λ deltas. r.tables) some own

-- ---- frames, and the room behind records

-- the two forms of a frame are one
frame_is : (e : Entry) (frame : List ℕ) → Frames e frame → frame ≡ logged (payload e)
unfolding body
frame_is e frame frames = frames.is

pub IsFrame-Frames : (e : Entry) (frame : List ℕ) → Frames e frame → IsFrame frame
IsFrame-Frames e frame frames = IsFrame-framed (payload e) frame (frame_is e frame frames)

pub payload_of-Frames : (e : Entry) (frame : List ℕ) → Frames e frame → payload_of frame ≡ payload e
payload_of-Frames e frame frames = ap payload_of (frame_is e frame frames) ∙ payload_of-framed (payload e)

pub IsPayload-Frames : (e : Entry) (frame : List ℕ) → Frames e frame → IsPayload e (payload_of frame)
IsPayload-Frames e frame frames = record { has = frames.has; is = payload_of-Frames e frame frames }

pub length-Frames : (e : Entry) (frame : List ℕ) → Frames e frame → length frame ≡ length (payload e) + 5
length-Frames e frame frames = omega (arith, ap length (frame_is e frame frames), length-append (body (payload e)) (0 ∷ []), length-body (payload e))

pub gate_more : (payloads : List (List ℕ)) (p : List ℕ) → gate_behind (payloads ++ p ∷ []) ≡ gate_behind payloads + (length p + 5)
gate_more payloads p = omega (arith, ap length (opened-append payloads (p ∷ [])), length-append (opened payloads) (opened (p ∷ [])), length-append (body p) [], length-body p)

pub room_more : (payloads : List (List ℕ)) (p : List ℕ) → length p + 5 ≤ room_behind payloads → room_behind (payloads ++ p ∷ []) + (length p + 5) ≡ room_behind payloads
room_more payloads p fits = omega (arith, gate_more payloads p)

-- ---- what bytes read as

-- of a log without a branch
pub store_unbranched : (c : List ℕ) (payloads : List (List ℕ)) (r : Replayed) → records c ≡ Some payloads → replay payloads nothing ≡ Some r → r.branch ≡ None → store_in c ≡ Some r
unfolding store_in
store_unbranched c payloads r all left none =
    ap (λ (o : Option (List (List ℕ))). o >>= λ ps. replay ps nothing >>= λ s. cond (can_end s.branch (room_behind ps)) (Some s) None) all
    ∙ ap (λ (o : Option Replayed). o >>= λ s. cond (can_end s.branch (room_behind payloads)) (Some s) None) left
    ∙ ap (λ (b : Option StoredBranch). cond (can_end b (room_behind payloads)) (Some r) None) none

-- of a log with a branch, whose ending has room
pub store_branched : (c : List ℕ) (payloads : List (List ℕ)) (r : Replayed) (b : StoredBranch) → records c ≡ Some payloads → replay payloads nothing ≡ Some r → r.branch ≡ Some b → 22 ≤ room_behind payloads → store_in c ≡ Some r
unfolding store_in
store_branched c payloads r b all left some room =
    let fits : nat_le ending_size (room_behind payloads) ≡ true = grind (arith, nat_tests) in
    ap (λ (o : Option (List (List ℕ))). o >>= λ ps. replay ps nothing >>= λ s. cond (can_end s.branch (room_behind ps)) (Some s) None) all
    ∙ ap (λ (o : Option Replayed). o >>= λ s. cond (can_end s.branch (room_behind payloads)) (Some s) None) left
    ∙ ap (λ (b : Option StoredBranch). cond (can_end b (room_behind payloads)) (Some r) None) some
    ∙ ap (λ has. cond has (Some r) None) fits

pub reads_unbranched : (c : List ℕ) (payloads : List (List ℕ)) (r : Replayed) (defs : List TableDef) → records c ≡ Some payloads → replay payloads nothing ≡ Some r → r.branch ≡ None
    → is_world defs (tables_in r.tables defs) ≡ true → read_bytes c defs ≡ Sound (tables_in r.tables defs) None
reads_unbranched c payloads r defs all left none world =
    let kept = tables_in r.tables defs in
    ap (λ o. reading_of o defs) (store_unbranched c payloads r all left none)
    ∙ ap (λ branch. read_store r.tables branch defs) none
    ∙ ap (λ fault. sound_unless fault kept None) (no_faults defs kept kept world world)

pub reads_branched : (c : List ℕ) (payloads : List (List ℕ)) (r : Replayed) (b : StoredBranch) (defs : List TableDef) → records c ≡ Some payloads → replay payloads nothing ≡ Some r → r.branch ≡ Some b → 22 ≤ room_behind payloads
    → is_world defs (tables_in r.tables defs) ≡ true → is_world defs (after_deltas defs (tables_in r.tables defs) (numbered defs b.deltas)) ≡ true
    → read_bytes c defs ≡ Sound (tables_in r.tables defs) (Some (record { xid = b.xid; deltas = numbered defs b.deltas }))
reads_branched c payloads r b defs all left some room world after =
    let kept = tables_in r.tables defs in
    ap (λ o. reading_of o defs) (store_branched c payloads r b all left some room)
    ∙ ap (λ branch. read_store r.tables branch defs) some
    ∙ ap (λ fault. sound_unless fault kept (Some (record { xid = b.xid; deltas = numbered defs b.deltas }))) (no_faults defs kept (after_deltas defs kept (numbered defs b.deltas)) world after)

-- bytes with the same records
pub store_same : (a b : List ℕ) → records a ≡ records b → store_in a ≡ store_in b
unfolding store_in
store_same a b same = ap (λ (o : Option (List (List ℕ))). o >>= λ ps. replay ps nothing >>= λ s. cond (can_end s.branch (room_behind ps)) (Some s) None) same

pub reads_same : (a b : List ℕ) → records a ≡ records b → read_bytes a ≡ read_bytes b
reads_same a b same = ap (λ o. λ (defs : List TableDef). reading_of o defs) (store_same a b same)

-- ---- changes that were stored

-- they come back by their numbers
pub numbered_stored : (defs : List TableDef) (deltas : List Delta) → are_named_apart defs ≡ true → list_all (λ delta. is_defined defs delta.table) deltas ≡ true → numbered defs (stored_as defs deltas) ≡ deltas
numbered_stored defs [] apart defined = refl
numbered_stored defs (delta ∷ deltas) apart defined =
    let parts = and_parts (is_defined defs delta.table) (list_all (λ one. is_defined defs one.table) deltas) defined in
    let stored = by_name (def_of defs delta.table).source delta in
    ap (λ number. with_number number stored (numbered defs (stored_as defs deltas))) (number_found defs delta.table apart parts.0)
    ∙ ap (λ rest. delta ∷ rest) (numbered_stored defs deltas apart parts.1)

-- the stored tables after them, under definitions
pub tables_after_stored : (tables : List StoredTable) (deltas : List Delta) (defs : List TableDef) → are_numbered_apart defs ≡ true → are_named_apart defs ≡ true → list_all (λ delta. is_defined defs delta.table) deltas ≡ true
    → tables_in (after_stored tables (stored_as defs deltas)) defs ≡ after_deltas defs (tables_in tables defs) deltas
tables_after_stored tables deltas defs numbers names defined =
    all_seen (stored_as defs deltas) tables defs numbers names
    ∙ ap (after_deltas defs (tables_in tables defs)) (numbered_stored defs deltas names defined)
