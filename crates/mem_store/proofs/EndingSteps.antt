-- What the calls of a store leave that prepare or end a branch.
use Rattle.std.proofs.Common.{◌≡◌, ℕ, ◌+◌, Bool, true, false, List, [], ◌∷◌, ◌++◌, Option, Some, None, option_map, is_some, IfSome, Vec, Global, refl, sym, ap, subst, ◌∙◌, arith}
use Rattle.vdb_base.specs.Counts.{Rose}
use Rattle.vdb_model.specs.declared.source.Delta.{Delta}
use Rattle.vdb_model.specs.declared.table.TableDef.{TableDef}
use Rattle.vdb_model.specs.Deltas.{after_deltas}
use Rattle.vdb_model.specs.Rows.{Cells}
use Rattle.gate_log.specs.Disk.{DiskTold}
use Rattle.gate_log.specs.Log.{left_of}
use Rattle.gate_log.specs.declared.log.Log.{Log}
use Rattle.resource.specs.declared.resource.ResState.{ResState}
use Rattle.resource.specs.declared.resource.ResState.TheVariants as state
use Rattle.resource.specs.Images.{Image, Only, Or}
use Rattle.resource.specs.Leaves.{Stores, Fails}
use Rattle.resource.specs.Reading.{Reading, Sound}
use Rattle.resource.specs.Told.{Told, Contents, Lowers, is_lost}
use Rattle.mem_store.specs.declared.attached.Attached.{Attached}
use Rattle.mem_store.specs.declared.inner.Inner.{Inner}
use Rattle.mem_store.specs.Appends.{HasAppended, HasFailed}
use Rattle.mem_store.specs.Attaching.{AttachedHas}
use Rattle.store_replay.specs.Replay.{read_bytes, room_behind}
use Rattle.store_replay.specs.Replaying.{AreApart}
use Rattle.mem_store.specs.Standing.{all_take, BranchIn, Knows, Works, Stays, Standing}
use Rattle.mem_store.specs.Store.{store_told, store_images, seen_of, contents_in, kept_by, images_read}
use Rattle.mem_store.specs.Writing.{one_more}
use Rattle.mem_store.proofs.NextRecords.{told_both, still, contents_are, at_contents, one_content, kept_told, told_more, told_only, told_or, told_lost, told_kept, quiet_told, idle_only}
use Rattle.mem_store.proofs.RecordSteps.{branch_read, HasEnding, Leaves}

-- ---- what is told

same_told : (t : Told) (r : Bool) (d : Option (List TableDef)) (f : ℕ) (c : Option Contents) → t.reserved ≡ r → t.defs ≡ d → t.faults ≡ f → t.contents ≡ c → t ≡ record t { reserved = r; defs = d; faults = f; contents = c }
same_told t r d f c reserved defs faults contents =
    ap (λ r. record t { reserved = r }) reserved
    ∙ ap (λ d. record t { reserved = r; defs = d }) defs
    ∙ ap (λ f. record t { reserved = r; defs = d; faults = f }) faults
    ∙ ap (λ c. record t { reserved = r; defs = d; faults = f; contents = c }) contents

pub stores_so : (new : Told) (now : Image → Type 0) (r : Bool) (d : Option (List TableDef)) (f : ℕ) (c : Option Contents) (reads : Option (List TableDef → Reading)) → new.reserved ≡ r → new.defs ≡ d → new.faults ≡ f → new.contents ≡ c → is_some new.reads ≡ is_some reads → IfSome new.reads now
    → Stores (record new { reserved = r; defs = d; faults = f; contents = c; reads = reads }) new now
stores_so new now r d f c reads reserved defs faults contents tells stands = record { same = same_told new r d f c reserved defs faults contents; tells = tells; reads = stands }

tells_reads : (old new : Option (List ℕ)) → is_some new ≡ is_some old → is_some (option_map read_bytes new) ≡ is_some (option_map read_bytes old)
tells_reads None None e = refl
tells_reads None (Some c) e = cc
tells_reads (Some b) None e = cc
tells_reads (Some b) (Some c) e = refl

pub stands_read : (bytes : Option (List ℕ)) (now : List ℕ → Type 0) → IfSome bytes now → IfSome (option_map read_bytes bytes) (images_read bytes now)
stands_read None now h = tt
stands_read (Some c) now h = (c, h, refl)

stays_so : (s : ResState) (n end left : ℕ) (reserved : Option (List ℕ)) (a : Attached) (t : DiskTold) (now : List ℕ → Type 0) → is_lost s ≡ false → Works s n end left reserved a t now → Stays s n end left reserved a t now
stays_so state.Idle n end left reserved a t now here w = w
stays_so (state.Active x) n end left reserved a t now here w = w
stays_so (state.Ended x) n end left reserved a t now here w = w
stays_so (state.Prepared x) n end left reserved a t now here w = w
stays_so state.Lost n end left reserved a t now here w = cc

-- what holds of the tables, once the branch took a step
pub record HasTables (s : ResState) (left : ℕ) (reserved : Option (List ℕ)) (defs : List TableDef) (kept : List (List Cells)) (deltas : List Delta) (a : Attached) : Type 0 where
  pub defs_are : a.shelf.defs ≡ defs
  pub deltas_are : a.deltas.items ≡ deltas
  pub apart : AreApart defs
  pub has : AttachedHas kept a
  pub kept_take : all_take defs kept ≡ true
  pub seen_take : all_take defs (after_deltas defs kept deltas) ≡ true
  pub branch : BranchIn s left reserved a

works_so : (s : ResState) (n end left : ℕ) (reserved : Option (List ℕ)) (defs : List TableDef) (kept : List (List Cells)) (deltas : List Delta) (a : Attached) (t : DiskTold) (now : List ℕ → Type 0) → HasTables s left reserved defs kept deltas a → IfSome t.bytes (Knows s n end defs kept deltas now) → Works s n end left reserved a t now
works_so s n end left reserved defs kept deltas a t now h k =
    record {
      kept = kept;
      has = h.has;
      kept_take = subst (λ ds. all_take ds kept ≡ true) (sym h.defs_are) h.kept_take;
      seen_take = subst (λ ds. all_take ds (after_deltas ds kept a.deltas.items) ≡ true) (sym h.defs_are) (subst (λ deltas. all_take defs (after_deltas defs kept deltas) ≡ true) (sym h.deltas_are) h.seen_take);
      branch = h.branch;
      knows = subst (λ ds. IfSome t.bytes (Knows s n end ds kept a.deltas.items now)) (sym h.defs_are) (subst (λ deltas. IfSome t.bytes (Knows s n end defs kept deltas now)) (sym h.deltas_are) k);
    }

contents_so : (n : ℕ) (defs : List TableDef) (kept : List (List Cells)) (deltas : List Delta) (a : Attached) (bytes : Option (List ℕ)) → a.shelf.defs ≡ defs → a.deltas.items ≡ deltas → IfSome bytes (λ b. kept_by n b defs ≡ kept)
    → option_map (contents_in n (Some a.shelf.defs) a.deltas.items) bytes ≡ option_map (λ b. record { kept = kept; deltas = deltas }) bytes
contents_so n defs kept deltas a bytes d e k =
    ap (λ ds. option_map (contents_in n (Some ds) a.deltas.items) bytes) d
    ∙ ap (λ deltas. option_map (contents_in n (Some defs) deltas) bytes) e
    ∙ contents_are n defs kept deltas bytes k

-- ---- a step of the store

module _ {D : Type 0} (told : D → DiskTold) (images : D → List ℕ → Type 0) (s : Inner D) (old_state : ResState) (here : is_lost old_state ≡ false) (a : Attached) where
  abbrev pub was : Inner D
  was = record s { attached = Some a; state = old_state }

  abbrev pub IsKnown : List (List Cells) → List ℕ → Type 0
  IsKnown kept b = Knows old_state s.records s.log.end a.shelf.defs kept a.deltas.items (images s.log.disk) b

  module _ (own : IfSome (told s.log.disk).bytes (λ b. s.own_faults ≡ 0)) (kept : List (List Cells)) (known : IfSome (told s.log.disk).bytes (IsKnown kept)) (l : Log D) (reserved : Option (Vec ℕ Global)) (unreserved : is_some reserved ≡ false) where
    -- one record more
    module _ (then : ResState) (there : is_lost then ≡ false) (b : Attached) (after : List (List Cells)) (rest : List Delta) (p : List ℕ) (size : ℕ)
        (room : (bytes : List ℕ) (k : IsKnown kept bytes) → HasEnding old_state (room_behind k.payloads))
        (next : (bytes : List ℕ) (k : IsKnown kept bytes) → Leaves then a.shelf.defs after rest (k.payloads ++ p ∷ []))
        (h : HasAppended told images p size s.log l)
        (tables : HasTables then (left_of l) (option_map (λ frame. frame.items) reserved) a.shelf.defs after rest b) where
      abbrev pub wrote : Inner D
      wrote = record s { log = l; records = one_more s.records; attached = Some b; state = then; reserved = reserved }

      both : is_some (told l.disk).bytes ≡ is_some (told s.log.disk).bytes
      both = told_both p (told s.log.disk).bytes (told l.disk).bytes h.adds.more

      knows : IfSome (told l.disk).bytes (Knows then (one_more s.records) l.end a.shelf.defs after rest (images l.disk))
      knows = told_more old_state then here there s.records s.log.end a.shelf.defs kept after a.deltas.items rest p (images s.log.disk) (images l.disk) room next l.end (told s.log.disk).bytes (told l.disk).bytes h.adds.more known h.is_open

      wrote_stands : Standing told images wrote
      wrote_stands = record {
        own = still (s.own_faults ≡ 0) (told s.log.disk).bytes (told l.disk).bytes both own;
        attached = record {
          apart = subst AreApart (sym tables.defs_are) tables.apart;
          stays = stays_so then (one_more s.records) l.end (left_of l) (option_map (λ frame. frame.items) reserved) b (told l.disk) (images l.disk) there
              (works_so then (one_more s.records) l.end (left_of l) (option_map (λ frame. frame.items) reserved) a.shelf.defs after rest b (told l.disk) (images l.disk) tables knows);
        };
      }

      -- with these contents told
      wrote_stores : (contents : Option Contents) → option_map (λ bytes. record { kept = after; deltas = rest }) (told s.log.disk).bytes ≡ contents
          → Stores (record (store_told told (seen_of was)) { state = then; reserved = false; spare = Some (left_of l); contents = contents }) (store_told told (seen_of wrote)) (store_images told images (seen_of wrote))
      wrote_stores contents are =
          stores_so (store_told told (seen_of wrote)) (store_images told images (seen_of wrote)) false (Some a.shelf.defs) ((told s.log.disk).faults + s.own_faults) contents (option_map read_bytes (told s.log.disk).bytes)
          unreserved (ap Some tables.defs_are) (ap (λ n. n + s.own_faults) h.adds.faults)
          (contents_so (one_more s.records) a.shelf.defs after rest b (told l.disk).bytes tables.defs_are tables.deltas_are (kept_told then (one_more s.records) l.end a.shelf.defs after rest (images l.disk) (told l.disk).bytes knows)
          ∙ one_content (record { kept = after; deltas = rest }) (told s.log.disk).bytes (told l.disk).bytes both
          ∙ are)
          (tells_reads (told s.log.disk).bytes (told l.disk).bytes both)
          (stands_read (told l.disk).bytes (images l.disk) (stand (told l.disk).bytes knows))
        where
          stand : (bytes : Option (List ℕ)) → IfSome bytes (Knows then (one_more s.records) l.end a.shelf.defs after rest (images l.disk)) → IfSome bytes (images l.disk)
          stand None k = tt
          stand (Some c) k = k.is_open.only.is

      -- where what it reads as is told so by the contents
      wrote_only : (reading : Contents → Reading) → reading (record { kept = kept; deltas = a.deltas.items }) ≡ Sound after (branch_read then rest)
          → IfSome (store_told told (seen_of was)).contents (λ c. Only a.shelf.defs (reading c) (store_images told images (seen_of wrote)))
      wrote_only reading is =
          at_contents s.records a.shelf.defs kept a.deltas.items (told s.log.disk).bytes (λ c. Only a.shelf.defs (reading c) (images_read (told l.disk).bytes (images l.disk)))
          (kept_told old_state s.records s.log.end a.shelf.defs kept a.deltas.items (images s.log.disk) (told s.log.disk).bytes known)
          (subst (λ read. IfSome (told s.log.disk).bytes (λ bytes. Only a.shelf.defs read (images_read (told l.disk).bytes (images l.disk)))) (sym is)
          (told_only old_state then here there s.records s.log.end a.shelf.defs kept after a.deltas.items rest p (images s.log.disk) (images l.disk) room next l.end (told s.log.disk).bytes (told l.disk).bytes both known h.stops h.is_open))

      pub wrote_says : (contents : Option Contents) (reading : Contents → Reading) → option_map (λ bytes. record { kept = after; deltas = rest }) (told s.log.disk).bytes ≡ contents → reading (record { kept = kept; deltas = a.deltas.items }) ≡ Sound after (branch_read then rest)
          → Stores (record (store_told told (seen_of was)) { state = then; reserved = false; spare = Some (left_of l); contents = contents }) (store_told told (seen_of wrote)) (store_images told images (seen_of wrote))
          × Lowers (store_told told (seen_of was)).spare (store_told told (seen_of wrote)).spare
          × IfSome (store_told told (seen_of was)).contents (λ c. Only a.shelf.defs (reading c) (store_images told images (seen_of wrote)))
          × Standing told images wrote
      wrote_says contents reading are is = (wrote_stores contents are, omega (arith, h.left), wrote_only reading is, wrote_stands)

    -- the disk failed
    module _ (then : ResState) (there : is_lost then ≡ false) (after : List (List Cells)) (rest : List Delta) (p : List ℕ) (apart : AreApart a.shelf.defs)
        (room : (bytes : List ℕ) (k : IsKnown kept bytes) → HasEnding old_state (room_behind k.payloads))
        (next : (bytes : List ℕ) (k : IsKnown kept bytes) → Leaves then a.shelf.defs after rest (k.payloads ++ p ∷ []))
        (h : HasFailed told images p s.log l) where
      abbrev pub failed : Inner D
      failed = record s { log = l; attached = Some a; state = state.Lost; reserved = reserved }

      failed_stands : Standing told images failed
      failed_stands = record {
        own = still (s.own_faults ≡ 0) (told s.log.disk).bytes (told l.disk).bytes h.fails.tells own;
        attached = record {
          apart = apart;
          stays = told_lost old_state then here there s.records s.log.end a.shelf.defs kept after a.deltas.items rest p (images s.log.disk) (images l.disk) room next (told s.log.disk).bytes (told l.disk).bytes h.fails.tells known h.stops h.fails.reads;
        };
      }

      failed_fails : Fails (record (store_told told (seen_of was)) { state = state.Lost; reserved = false; spare = Some (left_of l) }) (store_told told (seen_of failed)) (store_images told images (seen_of failed))
      failed_fails = record {
        rose = rises (told s.log.disk).faults (told l.disk).faults h.fails.rose;
        stores = stores_so (store_told told (seen_of failed)) (store_images told images (seen_of failed)) false (Some a.shelf.defs) ((told l.disk).faults + s.own_faults) (store_told told (seen_of was)).contents (option_map read_bytes (told s.log.disk).bytes)
            unreserved refl refl
            (contents_are s.records a.shelf.defs kept a.deltas.items (told l.disk).bytes
            (told_kept old_state then here there s.records s.log.end a.shelf.defs kept after a.deltas.items rest p (images s.log.disk) (images l.disk) room next (told s.log.disk).bytes (told l.disk).bytes h.fails.tells known h.stops h.fails.reads)
            ∙ one_content (record { kept = kept; deltas = a.deltas.items }) (told s.log.disk).bytes (told l.disk).bytes h.fails.tells
            ∙ sym (contents_are s.records a.shelf.defs kept a.deltas.items (told s.log.disk).bytes
            (kept_told old_state s.records s.log.end a.shelf.defs kept a.deltas.items (images s.log.disk) (told s.log.disk).bytes known)))
            (tells_reads (told s.log.disk).bytes (told l.disk).bytes h.fails.tells)
            (stands_read (told l.disk).bytes (images l.disk) h.fails.reads);
      }
        where
          rises : (m n : ℕ) → Rose m n → Rose (m + s.own_faults) (n + s.own_faults)
          rises m n r = record { later = omega (arith, r.later); risen = omega (arith, r.later, r.risen) }

      failed_or : (reading : Contents → Reading) → reading (record { kept = kept; deltas = a.deltas.items }) ≡ Sound after (branch_read then rest)
          → IfSome (store_told told (seen_of was)).contents (λ c. Or a.shelf.defs (reading c) (store_images told images (seen_of was)) (store_images told images (seen_of failed)))
      failed_or reading is =
          at_contents s.records a.shelf.defs kept a.deltas.items (told s.log.disk).bytes (λ c. Or a.shelf.defs (reading c) (images_read (told s.log.disk).bytes (images s.log.disk)) (images_read (told l.disk).bytes (images l.disk)))
          (kept_told old_state s.records s.log.end a.shelf.defs kept a.deltas.items (images s.log.disk) (told s.log.disk).bytes known)
          (subst (λ read. IfSome (told s.log.disk).bytes (λ bytes. Or a.shelf.defs read (images_read (told s.log.disk).bytes (images s.log.disk)) (images_read (told l.disk).bytes (images l.disk)))) (sym is)
          (told_or old_state then here there s.records s.log.end a.shelf.defs kept after a.deltas.items rest p (images s.log.disk) (images l.disk) room next (told s.log.disk).bytes (told l.disk).bytes h.fails.tells known h.stops))

      pub failed_says : (reading : Contents → Reading) → reading (record { kept = kept; deltas = a.deltas.items }) ≡ Sound after (branch_read then rest)
          → Fails (record (store_told told (seen_of was)) { state = state.Lost; reserved = false; spare = Some (left_of l) }) (store_told told (seen_of failed)) (store_images told images (seen_of failed))
          × Lowers (store_told told (seen_of was)).spare (store_told told (seen_of failed)).spare
          × IfSome (store_told told (seen_of was)).contents (λ c. Or a.shelf.defs (reading c) (store_images told images (seen_of was)) (store_images told images (seen_of failed)))
          × Standing told images failed
      failed_says reading is = (failed_fails, omega (arith, h.left), failed_or reading is, failed_stands)

  -- nothing is written, and the branch is gone
  module _ (own : IfSome (told s.log.disk).bytes (λ b. s.own_faults ≡ 0)) (kept : List (List Cells)) (known : IfSome (told s.log.disk).bytes (IsKnown kept)) (reserved : Option (Vec ℕ Global)) (unreserved : is_some reserved ≡ false) (b : Attached)
      (none : (bytes : List ℕ) (k : IsKnown kept bytes) → k.r.branch ≡ None)
      (tables : HasTables state.Idle (left_of s.log) (option_map (λ frame. frame.items) reserved) a.shelf.defs kept [] b) where
    abbrev pub quiet : Inner D
    quiet = record s { attached = Some b; state = state.Idle; reserved = reserved }

    idle : IfSome (told s.log.disk).bytes (Knows state.Idle s.records s.log.end a.shelf.defs kept [] (images s.log.disk))
    idle = quiet_told old_state here s.records s.log.end a.shelf.defs kept a.deltas.items (images s.log.disk) none (told s.log.disk).bytes known

    pub quiet_stands : Standing told images quiet
    quiet_stands = record {
      own = own;
      attached = record {
        apart = subst AreApart (sym tables.defs_are) tables.apart;
        stays = works_so state.Idle s.records s.log.end (left_of s.log) (option_map (λ frame. frame.items) reserved) a.shelf.defs kept [] b (told s.log.disk) (images s.log.disk) tables idle;
      };
    }

    pub quiet_stores : (contents : Option Contents) → option_map (λ bytes. record { kept = kept; deltas = [] }) (told s.log.disk).bytes ≡ contents
        → Stores (record (store_told told (seen_of was)) { state = state.Idle; reserved = false; contents = contents }) (store_told told (seen_of quiet)) (store_images told images (seen_of quiet))
    quiet_stores contents are =
        stores_so (store_told told (seen_of quiet)) (store_images told images (seen_of quiet)) false (Some a.shelf.defs) ((told s.log.disk).faults + s.own_faults) contents (option_map read_bytes (told s.log.disk).bytes)
        unreserved (ap Some tables.defs_are) refl
        (contents_so s.records a.shelf.defs kept [] b (told s.log.disk).bytes tables.defs_are tables.deltas_are (kept_told state.Idle s.records s.log.end a.shelf.defs kept [] (images s.log.disk) (told s.log.disk).bytes idle) ∙ are)
        refl
        (stands_read (told s.log.disk).bytes (images s.log.disk) (open_now (told s.log.disk).bytes idle))
      where
        open_now : (bytes : Option (List ℕ)) → IfSome bytes (Knows state.Idle s.records s.log.end a.shelf.defs kept [] (images s.log.disk)) → IfSome bytes (images s.log.disk)
        open_now None k = tt
        open_now (Some c) k = k.is_open.only.is

    pub quiet_only : (reading : Contents → Reading) → reading (record { kept = kept; deltas = a.deltas.items }) ≡ Sound kept None
        → IfSome (store_told told (seen_of was)).contents (λ c. Only a.shelf.defs (reading c) (store_images told images (seen_of quiet)))
    quiet_only reading is =
        at_contents s.records a.shelf.defs kept a.deltas.items (told s.log.disk).bytes (λ c. Only a.shelf.defs (reading c) (images_read (told s.log.disk).bytes (images s.log.disk)))
        (kept_told old_state s.records s.log.end a.shelf.defs kept a.deltas.items (images s.log.disk) (told s.log.disk).bytes known)
        (subst (λ read. IfSome (told s.log.disk).bytes (λ bytes. Only a.shelf.defs read (images_read (told s.log.disk).bytes (images s.log.disk)))) (sym is)
        (idle_only s.records s.log.end a.shelf.defs kept (images s.log.disk) (told s.log.disk).bytes idle))
