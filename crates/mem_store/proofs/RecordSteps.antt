-- What a store knows of its log, and of a log with one record more.
use Rattle.std.proofs.Common.{◌≡◌, ℕ, ◌≤◌, ◌⊎◌, true, false, List, [], ◌∷◌, ◌++◌, length, take, Option, Some, None, option_map, unwrap_or, inl, inr, refl, sym, ap, subst, ◌∙◌, arith, append-nil, length-append}
use Rattle.std.specs.Prelude.{⊤}
use Rattle.std.proofs.lemmas.List.{take_at}
use Rattle.vdb_model.specs.declared.source.Delta.{Delta}
use Rattle.vdb_model.specs.declared.source.Xid.{Xid}
use Rattle.vdb_model.specs.declared.table.TableDef.{TableDef}
use Rattle.vdb_model.specs.Deltas.{after_deltas}
use Rattle.vdb_model.specs.Rows.{Cells}
use Rattle.vdb_model.specs.World.{is_world}
use Rattle.gate_log.specs.Appending.{HasRecord, MayHaveRecord, with_record}
use Rattle.gate_log.specs.Log.{EndsAt, IsOpenAt}
use Rattle.gate_log.specs.Records.{body, opened, records}
use Rattle.gate_log.specs.Walking.{gate_behind}
use Rattle.gate_log.proofs.Places.{place_of}
use Rattle.resource.specs.declared.resource.ResState.{ResState}
use Rattle.resource.specs.declared.resource.ResState.TheVariants as state
use Rattle.resource.specs.Images.{Image, Only, Or}
use Rattle.resource.specs.Reading.{Branch, Sound}
use Rattle.resource.specs.Stored.{tables_in, numbered}
use Rattle.resource.specs.Told.{is_lost}
use Rattle.store_records.specs.Fields.{◌>>=◌}
use Rattle.store_replay.specs.Replay.{Replayed, nothing, replay, room_behind, read_bytes}
use Rattle.mem_store.specs.Standing.{LogBranch, Knows, MayRead, Lost}
use Rattle.mem_store.specs.Store.{kept_by, tables_left, images_read}
use Rattle.mem_store.specs.Writing.{one_more}
use Rattle.mem_store.proofs.MoreRecords.{reads_unbranched, reads_branched, reads_same}

pub some_is : {A : Type 0} (a b : A) → Some a ≡ Some b → a ≡ b
some_is a b e = ap (λ o. unwrap_or o a) e

-- the last gate stands behind the records
pub end_behind : (end : ℕ) (bytes : List ℕ) (payloads : List (List ℕ)) → EndsAt end bytes → records bytes ≡ Some payloads → end ≡ gate_behind payloads
end_behind end bytes payloads ends are =
    place_of bytes ends.payloads end ends.front (omega (arith, ends.within))
    ∙ ap gate_behind (some_is ends.payloads payloads (sym ends.are ∙ are))

count_opened : (payloads : List (List ℕ)) → length payloads ≤ length (opened payloads)
count_opened [] = omega arith
count_opened (p ∷ payloads) = omega (arith, count_opened payloads, length-append (body p) (opened payloads))

-- a log is too short for as many records as would stop the count
counted_more : (end n : ℕ) (bytes p : List ℕ) (payloads : List (List ℕ)) → EndsAt end bytes → records bytes ≡ Some payloads → length payloads ≡ n → length (payloads ++ p ∷ []) ≡ one_more n
counted_more end n bytes p payloads ends are count =
    omega (arith, count, length-append payloads (p ∷ []), count_opened payloads, end_behind end bytes payloads ends are, ends.within, ends.no_longer)

-- the committed rows by the first records
kept_front : (n : ℕ) (bytes : List ℕ) (defs : List TableDef) (payloads more : List (List ℕ)) (r : Replayed) → records bytes ≡ Some (payloads ++ more) → length payloads ≡ n → replay payloads nothing ≡ Some r → kept_by n bytes defs ≡ tables_in r.tables defs
kept_front n bytes defs payloads more r are count leaves =
    ap (λ (o : Option (List (List ℕ))). tables_left (o >>= λ ps. replay (take n ps) nothing) defs) are
    ∙ ap (λ ps. tables_left (replay ps nothing) defs) (take_at payloads more n count)
    ∙ ap (λ o. tables_left o defs) leaves

pub kept_known : (s : ResState) (n end : ℕ) (defs : List TableDef) (kept : List (List Cells)) (deltas : List Delta) (now : List ℕ → Type 0) (bytes : List ℕ) → Knows s n end defs kept deltas now bytes → kept_by n bytes defs ≡ kept
kept_known s n end defs kept deltas now bytes k =
    kept_front n bytes defs k.payloads [] k.r (k.are ∙ ap Some (sym (append-nil k.payloads))) k.count k.leaves ∙ sym k.kept_is

-- the branch that a log reads as, by the state
abbrev pub branch_read : ResState → List Delta → Option Branch
branch_read state.Idle deltas = None
branch_read (state.Active x) deltas = None
branch_read (state.Ended x) deltas = None
branch_read (state.Prepared x) deltas = Some (record { xid = x; deltas = deltas })
branch_read state.Lost deltas = None

-- a prepared branch has the room for its end
abbrev pub HasEnding : ResState → ℕ → Type 0
HasEnding state.Idle room = ⊤
HasEnding (state.Active x) room = ⊤
HasEnding (state.Ended x) room = ⊤
HasEnding (state.Prepared x) room = 22 ≤ room
HasEnding state.Lost room = ⊤

-- what stored tables and a branch are in a state
pub record Leaves (s : ResState) (defs : List TableDef) (kept : List (List Cells)) (deltas : List Delta) (payloads : List (List ℕ)) : Type 0 where
  pub r : Replayed
  pub leaves : replay payloads nothing ≡ Some r
  pub kept_is : kept ≡ tables_in r.tables defs
  pub branch : LogBranch s defs deltas r.branch
  pub kept_fits : is_world defs kept ≡ true
  pub seen_fits : is_world defs (after_deltas defs kept deltas) ≡ true
  pub room : HasEnding s (room_behind payloads)

leaves_plain : (s : ResState) (defs : List TableDef) (kept : List (List Cells)) (deltas : List Delta) (payloads : List (List ℕ)) (l : Leaves s defs kept deltas payloads) (c : List ℕ) → l.r.branch ≡ None → records c ≡ Some payloads → read_bytes c defs ≡ Sound kept None
leaves_plain s defs kept deltas payloads l c none are =
    reads_unbranched c payloads l.r defs are l.leaves none (subst (λ tables. is_world defs tables ≡ true) l.kept_is l.kept_fits) ∙ ap (λ tables. Sound tables None) (sym l.kept_is)

leaves_branch : (x : Xid) (defs : List TableDef) (kept : List (List Cells)) (deltas : List Delta) (payloads : List (List ℕ)) (l : Leaves (state.Prepared x) defs kept deltas payloads) (c : List ℕ) → records c ≡ Some payloads → read_bytes c defs ≡ Sound kept (Some (record { xid = x; deltas = deltas }))
leaves_branch x defs kept deltas payloads l c are =
    let stored = l.branch.stored in
    let seen : is_world defs (after_deltas defs (tables_in l.r.tables defs) (numbered defs stored)) ≡ true =
    subst (λ ds. is_world defs (after_deltas defs (tables_in l.r.tables defs) ds) ≡ true) l.branch.deltas_are
    (subst (λ tables. is_world defs (after_deltas defs tables deltas) ≡ true) l.kept_is l.seen_fits) in
    reads_branched c payloads l.r (record { xid = x; deltas = stored }) defs are l.leaves l.branch.is l.room (subst (λ tables. is_world defs tables ≡ true) l.kept_is l.kept_fits) seen
    ∙ ap (λ ds. Sound (tables_in l.r.tables defs) (Some (record { xid = x; deltas = ds }))) (sym l.branch.deltas_are)
    ∙ ap (λ tables. Sound tables (Some (record { xid = x; deltas = deltas }))) (sym l.kept_is)

-- bytes with such records read so
pub leaves_reads : (s : ResState) (defs : List TableDef) (kept : List (List Cells)) (deltas : List Delta) (payloads : List (List ℕ)) → is_lost s ≡ false → Leaves s defs kept deltas payloads → (c : List ℕ) → records c ≡ Some payloads → read_bytes c defs ≡ Sound kept (branch_read s deltas)
leaves_reads state.Idle defs kept deltas payloads here l c are = leaves_plain state.Idle defs kept deltas payloads l c l.branch are
leaves_reads (state.Active x) defs kept deltas payloads here l c are = leaves_plain (state.Active x) defs kept deltas payloads l c l.branch are
leaves_reads (state.Ended x) defs kept deltas payloads here l c are = leaves_plain (state.Ended x) defs kept deltas payloads l c l.branch are
leaves_reads (state.Prepared x) defs kept deltas payloads here l c are = leaves_branch x defs kept deltas payloads l c are
leaves_reads state.Lost defs kept deltas payloads here l c are = cc

-- what is known of bytes, with the room for its end
pub known_leaves : (s : ResState) (n end : ℕ) (defs : List TableDef) (kept : List (List Cells)) (deltas : List Delta) (now : List ℕ → Type 0) (bytes : List ℕ) (k : Knows s n end defs kept deltas now bytes) → HasEnding s (room_behind k.payloads) → Leaves s defs kept deltas k.payloads
known_leaves s n end defs kept deltas now bytes k room =
    record { r = k.r; leaves = k.leaves; kept_is = k.kept_is; branch = k.branch; kept_fits = k.kept_fits; seen_fits = k.seen_fits; room = room }

-- a step from what is known to one record more
module _ (s then : ResState) (here : is_lost s ≡ false) (there : is_lost then ≡ false) (n end : ℕ) (defs : List TableDef) (kept after : List (List Cells)) (deltas rest : List Delta) (p : List ℕ) (before now : List ℕ → Type 0) (bytes : List ℕ) (k : Knows s n end defs kept deltas before bytes) (room : HasEnding s (room_behind k.payloads)) (next : Leaves then defs after rest (k.payloads ++ p ∷ [])) where
  more_are : (c : List ℕ) → records c ≡ with_record p bytes → records c ≡ Some (k.payloads ++ p ∷ [])
  more_are c e = e ∙ ap (option_map (λ ps. ps ++ p ∷ [])) k.are

  old_reads : (c : List ℕ) → records c ≡ records bytes → read_bytes c defs ≡ Sound kept (branch_read s deltas)
  old_reads c e = leaves_reads s defs kept deltas k.payloads here (known_leaves s n end defs kept deltas before bytes k room) c (e ∙ k.are)

  new_reads : (c : List ℕ) → records c ≡ with_record p bytes → read_bytes c defs ≡ Sound after (branch_read then rest)
  new_reads c e = leaves_reads then defs after rest (k.payloads ++ p ∷ []) there next c (more_are c e)

  pub knows_more : (after_end : ℕ) (c : List ℕ) → records c ≡ with_record p bytes → IsOpenAt after_end now c → Knows then (one_more n) after_end defs after rest now c
  knows_more after_end c e is_open = record {
    payloads = k.payloads ++ p ∷ [];
    r = next.r;
    are = more_are c e;
    count = counted_more end n bytes p k.payloads k.is_open.ends k.are k.count;
    leaves = next.leaves;
    kept_is = next.kept_is;
    branch = next.branch;
    kept_fits = next.kept_fits;
    seen_fits = next.seen_fits;
    is_open = is_open;
  }

  pub only_new : (c : List ℕ) → now c → HasRecord p now bytes → Only defs (Sound after (branch_read then rest)) (images_read (Some c) now)
  only_new c stands has = record { some = (read_bytes c, (c, stands, refl)); each = λ i from. ap (λ (j : Image). j defs) from.2 ∙ new_reads from.0 (has from.0 from.1) }

  pub or_new : (c : List ℕ) → MayHaveRecord p now bytes → Or defs (Sound after (branch_read then rest)) (images_read (Some bytes) before) (images_read (Some c) now)
  or_new c may = λ i from. which i from.0 from.2 (may from.0 from.1)
    where
      which : (i : Image) (d : List ℕ) → i ≡ read_bytes d → (records d ≡ records bytes) ⊎ (records d ≡ with_record p bytes) → images_read (Some bytes) before i ⊎ (i defs ≡ Sound after (branch_read then rest))
      which i d e (inl same) = inl (bytes, k.is_open.only.is, e ∙ reads_same d bytes same)
      which i d e (inr more) = inr (ap (λ (j : Image). j defs) e ∙ new_reads d more)

  may_read : (c : List ℕ) → (records c ≡ records bytes) ⊎ (records c ≡ with_record p bytes) → MayRead defs k.payloads c
  may_read c (inl same) = record { more = []; are = same ∙ k.are ∙ ap Some (sym (append-nil k.payloads)); kept = kept; branch = branch_read s deltas; reads = old_reads c same }
  may_read c (inr more) = record { more = p ∷ []; are = more_are c more; kept = after; branch = branch_read then rest; reads = new_reads c more }

  pub lost_more : (c : List ℕ) → now c → MayHaveRecord p now bytes → Lost n defs now c
  lost_more c stands may = record { payloads = k.payloads; count = k.count; each = λ d from. may_read d (may d from); stands = stands }

  pub kept_lost : (c : List ℕ) → now c → MayHaveRecord p now bytes → kept_by n c defs ≡ kept
  kept_lost c stands may =
      let read = may_read c (may c stands) in
      kept_front n c defs k.payloads read.more k.r read.are k.count k.leaves ∙ sym k.kept_is
