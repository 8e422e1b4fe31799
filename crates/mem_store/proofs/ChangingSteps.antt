-- A change of a journaled store.
use Rattle.std.proofs.Common.{◌≡◌, ℕ, ◌+◌, ◌-◌, ◌<◌, ◌≤◌, true, false, ◌&&◌, List, [], ◌∷◌, ◌++◌, length, Option, Some, None, IfSome, Result, Ok, Err, refl, sym, ap, subst, ◌∙◌}
use Rattle.std.proofs.lemmas.Bool.{and_from}
use Rattle.std.proofs.lemmas.List.Folds.{list_all-append}
use Rattle.std.specs.List.{list_all}
use Rattle.std.specs.Option.{unwrap_or}
use Rattle.std.specs.Prelude.{option_map, OnOk}
use Rattle.vdb_model.specs.declared.source.Delta.{Delta}
use Rattle.vdb_model.specs.declared.table.TableDef.{TableDef}
use Rattle.vdb_model.specs.Defs.{def_of, is_defined}
use Rattle.vdb_model.specs.Deltas.{after_deltas, are_there, repeats_key}
use Rattle.vdb_model.specs.Rows.{Cells}
use Rattle.vdb_model.specs.World.{takes_rows, is_world, table_rows}
use Rattle.gate_log.specs.Disk.{DiskTold}
use Rattle.resource.specs.declared.resource.ChangeFault.{ChangeFault}
use Rattle.resource.specs.declared.resource.ChangeFault.TheVariants.{DuplicateKey, LogFull, Failed, Memory}
use Rattle.resource.specs.declared.resource.ResState.{ResState}
use Rattle.resource.specs.declared.resource.ResState.TheVariants as state
use Rattle.resource.specs.Changing.{MayChange, IsChangeAnswer}
use Rattle.resource.specs.Told.{Told, IsWorld, is_active, is_lost, seen}
use Rattle.resource.proofs.ByName.{after_append}
use Rattle.resource.proofs.Changed.{world_changed}
use Rattle.mem_store.specs.declared.attached.Attached.{Attached}
use Rattle.mem_store.specs.declared.inner.Inner.{Inner}
use Rattle.mem_store.specs.Attaching.{AttachedHas, IsWritten}
use Rattle.mem_store.specs.Changes.{IsKeyAnswer, IsRoomAnswer, store_needs, taken}
use Rattle.store_replay.specs.Replaying.{AreApart}
use Rattle.mem_store.specs.Seen.{Seen}
use Rattle.mem_store.specs.Standing.{all_take, IsBranch, BranchIn, LogBranch, Knows, Works, Stays, IsAttached, Standing}
use Rattle.mem_store.specs.Store.{kept_by, contents_in, store_told, seen_of, deltas_of}
use Rattle.mem_store.proofs.Fitting.{changed_takes}
use Rattle.mem_store.proofs.StoreAsks.{at_some, works}
use Rattle.mem_store.proofs.StoreLog.{knows_kept}
use Rattle.mem_store.proofs.StoreMoves.{if_some_map}

active_here : (s : ResState) → is_active s ≡ true → is_lost s ≡ false
active_here state.Idle h = cc
active_here (state.Active x) h = refl
active_here (state.Ended x) h = cc
active_here (state.Prepared x) h = cc
active_here state.Lost h = cc

-- ---- the branch after the change

module _ (defs : List TableDef) (deltas : List Delta) (delta : Delta) (defined : is_defined defs delta.table ≡ true) (added : takes_rows (def_of defs delta.table).columns delta.added ≡ true) where
  taken_take : {T E : Type 0} (r : Result T E) (kept : List (List Cells)) → all_take defs (after_deltas defs kept deltas) ≡ true → all_take defs (after_deltas defs kept (taken r deltas delta)) ≡ true
  taken_take (Ok done) kept h = ap (all_take defs) (after_append defs kept deltas (delta ∷ [])) ∙ changed_takes defs (after_deltas defs kept deltas) delta h added
  taken_take (Err fault) kept h = h

  taken_defined : {T E : Type 0} (r : Result T E) → list_all (λ d. is_defined defs d.table) deltas ≡ true → list_all (λ d. is_defined defs d.table) (taken r deltas delta) ≡ true
  taken_defined (Ok done) h =
      list_all-append (λ (d : Delta). is_defined defs d.table) deltas (delta ∷ [])
      ∙ and_from (list_all (λ d. is_defined defs d.table) deltas) (is_defined defs delta.table && true) h (and_from (is_defined defs delta.table) true defined refl)
  taken_defined (Err fault) h = h

  taken_room : {T : Type 0} (r : Result T ChangeFault) (left : ℕ) → IsRoomAnswer delta.table (store_needs defs (deltas ++ delta ∷ [])) left r → (0 < length deltas → store_needs defs deltas ≤ left) → 0 < length (taken r deltas delta) → store_needs defs (taken r deltas delta) ≤ left
  taken_room (Ok done) left room h some = room
  taken_room (Err fault) left room h some = h some

  taken_world : {T : Type 0} (r : Result T ChangeFault) (kept : List (List Cells)) → IsKeyAnswer (repeats_key defs (after_deltas defs kept deltas) delta) r → is_world defs (after_deltas defs kept deltas) ≡ true → is_world defs (after_deltas defs kept (taken r deltas delta)) ≡ true
  taken_world (Ok done) kept key h = ap (is_world defs) (after_append defs kept deltas (delta ∷ [])) ∙ world_changed defs (after_deltas defs kept deltas) delta h added key
  taken_world (Err fault) kept key h = h

-- what is answered by the key, where these rows are kept
abbrev Keyed : {T : Type 0} → List TableDef → List Delta → Delta → Result T ChangeFault → List (List Cells) → Type 0
Keyed defs deltas delta r kept = IsKeyAnswer (repeats_key defs (after_deltas defs kept deltas) delta) r

-- ---- what is answered, over what is seen

module _ {D : Type 0} (told : D → DiskTold) (s : Seen D) (defs : List TableDef) (deltas : List Delta) (delta : Delta) where
  abbrev before : Seen D
  before = record s { defs = Some defs; deltas = deltas }

  abbrev telling : Option (List ℕ) → Told
  telling o = record (store_told told before) { contents = option_map (contents_in s.records (Some defs) deltas) o }

  change_answers : {T : Type 0} (r : Result T ChangeFault) → IsRoomAnswer delta.table (store_needs defs (deltas ++ delta ∷ [])) (268435456 - (s.end + 1)) r → (o : Option (List ℕ)) → IfSome o (λ bytes. Keyed defs deltas delta r (kept_by s.records bytes defs)) → IsChangeAnswer store_needs (telling o) delta r
  change_answers (Ok done) room None key = tt
  change_answers (Ok done) room (Some bytes) key = (key, room)
  change_answers (Err (DuplicateKey table)) room None key = (room, tt)
  change_answers (Err (DuplicateKey table)) room (Some bytes) key = (room, key)
  change_answers (Err (LogFull needed spare)) room None key = (ap Some (sym room.0), subst (λ n. n < needed) (sym room.0) room.1, tt)
  change_answers (Err (LogFull needed spare)) room (Some bytes) key = (ap Some (sym room.0), subst (λ n. n < needed) (sym room.0) room.1, (key, room.2))
  change_answers (Err Failed) room o key = tt
  change_answers (Err Memory) room o key = tt

-- ---- the call

module _ {D : Type 0} (told : D → DiskTold) (images : D → List ℕ → Type 0) (s : Inner D) (stands : Standing told images s) (delta : Delta) (may : MayChange (store_told told (seen_of s)) delta) (a : Attached) (is : s.attached ≡ Some a)
    (b : Attached) (result : Result (Unit {0}) ChangeFault) (left : ℕ) (left_is : left ≡ 268435456 - (s.log.end + 1)) (same : b.shelf.defs ≡ a.shelf.defs) (written : IsWritten b) (more : b.deltas.items ≡ taken result a.deltas.items delta)
    (has : (kept : List (List Cells)) → AttachedHas kept a → AttachedHas kept b)
    (room : IsRoomAnswer delta.table (store_needs a.shelf.defs (a.deltas.items ++ delta ∷ [])) left result)
    (key : (kept : List (List Cells)) → AttachedHas kept a → is_world a.shelf.defs (after_deltas a.shelf.defs kept a.deltas.items) ≡ true → are_there delta.removed (table_rows a.shelf.defs (after_deltas a.shelf.defs kept a.deltas.items) delta.table) ≡ true
    → IsKeyAnswer (repeats_key a.shelf.defs (after_deltas a.shelf.defs kept a.deltas.items) delta) result) where
  abbrev disk : DiskTold
  disk = told s.log.disk

  abbrev now : List ℕ → Type 0
  now = images s.log.disk

  abbrev kept_frame : Option (List ℕ)
  kept_frame = option_map (λ frame. frame.items) s.reserved

  abbrev spare : ℕ
  spare = 268435456 - (s.log.end + 1)

  abbrev defs : List TableDef
  defs = a.shelf.defs

  abbrev deltas : List Delta
  deltas = a.deltas.items

  abbrev new : Inner D
  new = record s { attached = Some b }

  here : IsAttached s.state s.records s.log.end spare kept_frame disk now a
  here = at_some s.attached a (IsAttached s.state s.records s.log.end spare kept_frame disk now) is stands.attached

  w : Works s.state s.records s.log.end spare kept_frame a disk now
  w = works s.state s.records s.log.end spare kept_frame a disk now (active_here s.state may.active) here.stays

  defs_are : may.defs ≡ defs
  defs_are = ap (λ o. unwrap_or o []) (sym may.attached ∙ ap (option_map (λ (c : Attached). c.shelf.defs)) is)

  defined : is_defined defs delta.table ≡ true
  defined = ap (λ l. is_defined l delta.table) (sym defs_are) ∙ may.table

  added : takes_rows (def_of defs delta.table).columns delta.added ≡ true
  added = ap (λ l. takes_rows (def_of l delta.table).columns delta.added) (sym defs_are) ∙ may.added

  has_room : IsRoomAnswer delta.table (store_needs defs (deltas ++ delta ∷ [])) spare result
  has_room = subst (λ n. IsRoomAnswer delta.table (store_needs defs (deltas ++ delta ∷ [])) n result) left_is room

  -- the removed rows stand
  there_by : (o : Option (List ℕ)) → IfSome (option_map (seen defs) (option_map (contents_in s.records (Some defs) deltas) o)) (λ tables. are_there delta.removed (table_rows defs tables delta.table) ≡ true)
      → IfSome o (λ bytes. are_there delta.removed (table_rows defs (after_deltas defs (kept_by s.records bytes defs) deltas) delta.table) ≡ true)
  there_by None h = tt
  there_by (Some bytes) h = h

  there : IfSome disk.bytes (λ bytes. are_there delta.removed (table_rows defs (after_deltas defs (kept_by s.records bytes defs) deltas) delta.table) ≡ true)
  there = there_by disk.bytes (
      subst (λ (o : Option Attached). IfSome (option_map (seen (unwrap_or (option_map (λ c. c.shelf.defs) o) [])) (option_map (contents_in s.records (option_map (λ c. c.shelf.defs) o) (deltas_of o)) disk.bytes)) (λ tables. are_there delta.removed (table_rows defs tables delta.table) ≡ true)) is
      (subst (λ (l : List TableDef). IfSome (option_map (seen (unwrap_or (option_map (λ c. c.shelf.defs) s.attached) [])) (option_map (contents_in s.records (option_map (λ c. c.shelf.defs) s.attached) (deltas_of s.attached)) disk.bytes)) (λ tables. are_there delta.removed (table_rows l tables delta.table) ≡ true)) defs_are may.removed))

  -- the answer by the key, of the kept rows and of the told ones
  keyed_by : (o : Option (List ℕ)) → IfSome o (Knows s.state s.records s.log.end defs w.kept deltas now) → IfSome o (λ bytes. are_there delta.removed (table_rows defs (after_deltas defs (kept_by s.records bytes defs) deltas) delta.table) ≡ true)
      → IfSome o (λ bytes. Keyed defs deltas delta result w.kept × Keyed defs deltas delta result (kept_by s.records bytes defs))
  keyed_by None k h = tt
  keyed_by (Some bytes) k h =
      let kept_is : kept_by s.records bytes defs ≡ w.kept = knows_kept s.state s.records s.log.end defs w.kept deltas now bytes k in
      let first : Keyed defs deltas delta result w.kept = key w.kept w.has k.seen_fits (ap (λ (l : List (List Cells)). are_there delta.removed (table_rows defs (after_deltas defs l deltas) delta.table)) (sym kept_is) ∙ h) in
      (first, subst (Keyed defs deltas delta result) (sym kept_is) first)

  keyed : IfSome disk.bytes (λ bytes. Keyed defs deltas delta result w.kept × Keyed defs deltas delta result (kept_by s.records bytes defs))
  keyed = keyed_by disk.bytes w.knows there

  -- what the log leaves stays
  knows_by : (st : ResState) → is_active st ≡ true → (o : Option (List ℕ)) → IfSome o (Knows st s.records s.log.end defs w.kept deltas now) → IfSome o (λ bytes. Keyed defs deltas delta result w.kept × Keyed defs deltas delta result (kept_by s.records bytes defs))
      → IfSome o (Knows st s.records s.log.end defs w.kept (taken result deltas delta) now)
  knows_by st active None k h = tt
  knows_by st active (Some bytes) k h = record {
    payloads = k.payloads;
    r = k.r;
    are = k.are;
    count = k.count;
    leaves = k.leaves;
    kept_is = k.kept_is;
    branch = branch_on st active k.r.branch k.branch;
    kept_fits = k.kept_fits;
    seen_fits = taken_world defs deltas delta defined added result w.kept h.0 k.seen_fits;
    is_open = k.is_open;
  }
    where
      branch_on : (st : ResState) → is_active st ≡ true → (branch : _) → LogBranch st defs deltas branch → LogBranch st defs (taken result deltas delta) branch
      branch_on state.Idle active branch h = h
      branch_on (state.Active x) active branch h = h
      branch_on (state.Ended x) active branch h = h
      branch_on (state.Prepared x) active branch h = cc
      branch_on state.Lost active branch h = h

  is_branch : IsBranch spare a → IsBranch spare b
  is_branch h = record {
    written = written;
    room = subst (λ (l : List TableDef). 0 < length b.deltas.items → store_needs l b.deltas.items ≤ spare) (sym same) (
        subst (λ (ds : List Delta). 0 < length ds → store_needs defs ds ≤ spare) (sym more) (taken_room defs deltas delta defined added result spare has_room h.room));
    defined = ap (λ (l : List TableDef). list_all (λ d. is_defined l d.table) b.deltas.items) same ∙ ap (list_all (λ d. is_defined defs d.table)) more ∙ taken_defined defs deltas delta defined added result h.defined;
  }

  branch_in : (st : ResState) → is_active st ≡ true → BranchIn st spare kept_frame a → BranchIn st spare kept_frame b
  branch_in state.Idle active h = cc
  branch_in (state.Active x) active h = (h.0, is_branch h.1)
  branch_in (state.Ended x) active h = cc
  branch_in (state.Prepared x) active h = cc
  branch_in state.Lost active h = cc

  after : Works s.state s.records s.log.end spare kept_frame b disk now
  after = record {
    kept = w.kept;
    has = has w.kept w.has;
    kept_take = ap (λ (l : List TableDef). all_take l w.kept) same ∙ w.kept_take;
    seen_take = ap (λ (l : List TableDef). all_take l (after_deltas l w.kept b.deltas.items)) same ∙ ap (λ (ds : List Delta). all_take defs (after_deltas defs w.kept ds)) more ∙ taken_take defs deltas delta defined added result w.kept w.seen_take;
    branch = branch_in s.state may.active w.branch;
    knows = subst (λ (l : List TableDef). IfSome disk.bytes (Knows s.state s.records s.log.end l w.kept b.deltas.items now)) (sym same) (
        subst (λ (ds : List Delta). IfSome disk.bytes (Knows s.state s.records s.log.end defs w.kept ds now)) (sym more) (knows_by s.state may.active disk.bytes w.knows keyed));
  }

  stays_so : (st : ResState) → is_active st ≡ true → Works st s.records s.log.end spare kept_frame b disk now → Stays st s.records s.log.end spare kept_frame b disk now
  stays_so state.Idle active h = h
  stays_so (state.Active x) active h = h
  stays_so (state.Ended x) active h = h
  stays_so (state.Prepared x) active h = h
  stays_so state.Lost active h = cc

  pub change_stands : Standing told images new
  change_stands = record {
    own = stands.own;
    attached = record { apart = subst AreApart (sym same) here.apart; stays = stays_so s.state may.active after };
  }

  world_by : (kept : List (List Cells)) (o : Option (List ℕ)) → IfSome o (Knows s.state s.records s.log.end b.shelf.defs kept b.deltas.items now) → IfSome (option_map (seen b.shelf.defs) (option_map (contents_in s.records (Some b.shelf.defs) b.deltas.items) o)) (λ tables. is_world b.shelf.defs tables ≡ true)
  world_by kept None k = tt
  world_by kept (Some bytes) k = ap (λ (l : List (List Cells)). is_world b.shelf.defs (after_deltas b.shelf.defs l b.deltas.items)) (knows_kept s.state s.records s.log.end b.shelf.defs kept b.deltas.items now bytes k) ∙ k.seen_fits

  pub change_world : OnOk result (IsWorld (store_told told (seen_of new)))
  change_world = on_ok result
    where
      on_ok : (r : Result (Unit {0}) ChangeFault) → OnOk r (IsWorld (store_told told (seen_of new)))
      on_ok (Ok done) = world_by after.kept disk.bytes after.knows
      on_ok (Err fault) = tt

  old_is : seen_of s ≡ record (seen_of s) { defs = Some defs; deltas = deltas }
  old_is = ap (λ (o : Option Attached). record (seen_of s) { defs = option_map (λ c. c.shelf.defs) o; deltas = deltas_of o }) is

  pub changed_answer : IsChangeAnswer store_needs (store_told told (seen_of s)) delta result
  changed_answer =
      subst (λ (v : Seen D). IsChangeAnswer store_needs (store_told told v) delta result) (sym old_is)
      (change_answers told (seen_of s) defs deltas delta result has_room disk.bytes (if_some_map disk.bytes _ (λ bytes. Keyed defs deltas delta result (kept_by s.records bytes defs)) (λ bytes h. h.1) keyed))
