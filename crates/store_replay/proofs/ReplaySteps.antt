-- What one record more makes of a replay.
use Rattle.std.proofs.Common.{◌≡◌, ℕ, ◌+◌, ◌≤◌, length, drop, true, false, cond, List, [], ◌∷◌, ◌++◌, Option, Some, None, Result, Ok, refl, sym, ap, subst, ◌∙◌}
use Rattle.std.specs.Prelude.{is_some, IsSomeAnd}
use Rattle.std.proofs.lemmas.List.{drop_all, append-nil}
use Rattle.vdb_model.specs.declared.source.Delta.{Delta}
use Rattle.vdb_model.specs.declared.source.Xid.{Xid}
use Rattle.vdb_model.specs.declared.table.TableDef.{TableDef}
use Rattle.vdb_model.specs.Deltas.{after_delta, after_deltas}
use Rattle.vdb_model.specs.Rows.{Cells}
use Rattle.resource.specs.Stored.{StoredBranch, tables_in, after_stored, numbered, number_named, with_number}
use Rattle.resource.specs.declared.stored.StoredDelta.{StoredDelta}
use Rattle.resource.specs.declared.stored.StoredTable.{StoredTable}
use Rattle.resource.proofs.ByName.{all_seen, after_append}
use Rattle.store_replay.specs.Replay.{Replayed, same_xid, after_entry, ended}
use Rattle.store_replay.specs.Replaying.{AreApart, listed_by, left_by, WaitsAs, waits_for, ReplayHas}
use Rattle.store_replay.specs.Walking.{Follows}
use Rattle.store_tables.specs.Shelves.{ShelfHas}
use Rattle.store_records.specs.declared.entry.Entry.TheVariants.{Prepared, Committed, RolledBack, OnePhase}
use Rattle.store_records.specs.Framing.{ending_of}
use Rattle.store_records.specs.declared.branch.Ending.{Ending}
use Rattle.store_records.specs.declared.branch.Ending.TheVariants as ending
use Rattle.store_records.specs.declared.entry.Entry.{Entry}
use Rattle.store_records.specs.declared.reading.ReadFault.{ReadFault}
use Rattle.store_replay.specs.declared.replay.Replay.{Replay}
use Rattle.store_replay.specs.declared.opening.Waiting.{Waiting}
use Rattle.store_tables.specs.declared.shelf.Shelf.{Shelf}

-- ---- deltas in turn

-- what a step over deltas has made so far
pub record MadeSoFar (defs : List TableDef) (left : List StoredDelta) (all made : List Delta) (old new : Shelf) : Type 0 where
  pub defs_same : new.defs ≡ defs
  pub listed : made ++ numbered defs left ≡ all
  pub has : (kept seen : List (List Cells)) → ShelfHas kept seen old → ShelfHas kept (after_deltas defs seen made) new

append_all : (a b c : List Delta) → (a ++ b) ++ c ≡ a ++ (b ++ c)
append_all [] b c = refl
append_all (x ∷ a) b c = ap (λ (l : List Delta). x ∷ l) (append_all a b c)

with_append : (o : Option _) (delta : StoredDelta) (rest : List Delta) → with_number o delta rest ≡ with_number o delta [] ++ rest
with_append None delta rest = refl
with_append (Some n) delta rest = refl

pub shelf_one : (defs : List TableDef) (delta : StoredDelta) (made : Delta) (kept seen : List (List Cells)) (new : Shelf) → listed_by defs delta ≡ made ∷ [] → ShelfHas kept (after_delta defs seen made) new → ShelfHas kept (after_deltas defs seen (listed_by defs delta)) new
shelf_one defs delta made kept seen new is has = subst (λ ds. ShelfHas kept (after_deltas defs seen ds) new) (sym is) has

module _ (defs : List TableDef) (deltas : List StoredDelta) (i : ℕ) (all made : List Delta) (old mid : Shelf) (so_far : MadeSoFar defs (drop i deltas) all made old mid) where
  pub made_more : (delta : StoredDelta) (more : List Delta) (new : Shelf) → drop i deltas ≡ delta ∷ drop (i + 1) deltas → more ≡ made ++ listed_by mid.defs delta → new.defs ≡ mid.defs
      → ((kept seen : List (List Cells)) → ShelfHas kept seen mid → ShelfHas kept (after_deltas mid.defs seen (listed_by mid.defs delta)) new) → MadeSoFar defs (drop (i + 1) deltas) all more old new
  made_more delta more new front is same step =
      let rest = drop (i + 1) deltas in
      let more_is : more ≡ made ++ listed_by defs delta = is ∙ ap (λ ds. made ++ listed_by ds delta) so_far.defs_same in
      record {
        defs_same = same ∙ so_far.defs_same;
        listed = ap (λ l. l ++ numbered defs rest) more_is ∙ append_all made (listed_by defs delta) (numbered defs rest)
            ∙ ap (λ l. made ++ l) (sym (with_append (number_named delta.source defs) delta (numbered defs rest)) ∙ ap (numbered defs) (sym front)) ∙ so_far.listed;
        has = λ kept seen has.
            let now : ShelfHas kept (after_deltas mid.defs (after_deltas defs seen made) (listed_by mid.defs delta)) new = step kept (after_deltas defs seen made) (so_far.has kept seen has) in
            subst (λ s. ShelfHas kept s new)
            (ap (λ ds. after_deltas ds (after_deltas defs seen made) (listed_by ds delta)) so_far.defs_same ∙ sym (after_append defs seen made (listed_by defs delta)) ∙ ap (after_deltas defs seen) (sym more_is)) now;
      }

  pub made_all : length deltas ≤ i → (kept seen : List (List Cells)) → ShelfHas kept seen old → ShelfHas kept (after_deltas defs seen all) mid
  made_all end kept seen has =
      let done : made ≡ all = sym (ap (λ ds. made ++ numbered defs ds) (drop_all i deltas end) ∙ append-nil made) ∙ so_far.listed in
      subst (λ ds. ShelfHas kept (after_deltas defs seen ds) mid) done (so_far.has kept seen has)

-- ---- records

nothing_waits : (w : Option Waiting) → is_some w ≡ false → w ≡ None
nothing_waits None e = refl
nothing_waits (Some waiting) e = cc

-- the same record by another name
pub entry_as : {T : Type 0} (has : Replayed → T → Type 0) (entry same : Entry) (r : Replayed) (new : T) (result : Result (Unit {0}) ReadFault) → entry ≡ same → Follows has (after_entry same r) new result → Follows has (after_entry entry r) new result
entry_as has entry same r new result e follows = subst (λ n. Follows has (after_entry n r) new result) (sym e) follows

-- a replay with the definitions of another
by_defs : (defs : List TableDef) (r : Replayed) (new : Replay) → new.shelf.defs ≡ defs → ShelfHas (tables_in r.tables defs) (left_by r defs) new.shelf → WaitsAs defs r.branch new.waiting → AreApart defs → ReplayHas r new
by_defs defs r new is has waits apart = record {
  has = subst (λ ds. ShelfHas (tables_in r.tables ds) (left_by r ds) new.shelf) (sym is) has;
  waits = subst (λ ds. WaitsAs ds r.branch new.waiting) (sym is) waits;
  apart = subst AreApart (sym is) apart;
}

module _ (r : Replayed) (old new : Replay) (has : ReplayHas r old) where
  abbrev defs : List TableDef
  defs = old.shelf.defs

  -- no branch waits
  unbranched : old.waiting ≡ None → r.branch ≡ None
  unbranched none = by r.branch old.waiting none has.waits
    where
      by : (b : Option StoredBranch) (w : Option Waiting) → w ≡ None → WaitsAs defs b w → b ≡ None
      by None w e h = refl
      by (Some branch) None e h = absurd h
      by (Some branch) (Some waiting) e h = cc

  branched : is_some old.waiting ≡ true → is_some r.branch ≡ true
  branched some = by r.branch old.waiting some has.waits
    where
      by : (b : Option StoredBranch) (w : Option Waiting) → is_some w ≡ true → WaitsAs defs b w → is_some b ≡ true
      by None None e h = cc
      by None (Some waiting) e h = absurd h
      by (Some branch) w e h = refl

  pub two_branches : (x : Xid) (deltas : List StoredDelta) → is_some old.waiting ≡ true → after_entry (Prepared x deltas) r ≡ None
  two_branches x deltas some = ap (λ b. cond b None (Some (record r { branch = Some (record { xid = x; deltas = deltas }) }))) (branched some)

  pub at_once_beside : (x : Xid) (deltas : List StoredDelta) → is_some old.waiting ≡ true → after_entry (OnePhase x deltas) r ≡ None
  at_once_beside x deltas some = ap (λ b. cond b None (Some (record r { tables = after_stored r.tables deltas }))) (branched some)

  left_as_kept : old.waiting ≡ None → ShelfHas (tables_in r.tables defs) (tables_in r.tables defs) old.shelf
  left_as_kept none = subst (λ (b : Option StoredBranch). ShelfHas (tables_in r.tables defs) (left_by (record r { branch = b }) defs) old.shelf) (unbranched none) has.has

  pub prepared : (x : Xid) (deltas : List StoredDelta) (waiting : Waiting) → is_some old.waiting ≡ false → new.shelf.defs ≡ defs → new.waiting ≡ Some waiting → waiting.xid ≡ x → waiting.deltas.items ≡ numbered defs deltas
      → ((kept seen : List (List Cells)) → ShelfHas kept seen old.shelf → ShelfHas kept (after_deltas defs seen (numbered defs deltas)) new.shelf)
      → Follows ReplayHas (after_entry (Prepared x deltas) r) new (Ok tt)
  prepared x deltas waiting empty same waits xid listed step =
      let none : old.waiting ≡ None = nothing_waits old.waiting empty in
      let next : Replayed = record r { branch = Some (record { xid = x; deltas = deltas }) } in
      let kept = tables_in r.tables defs in
      let is : after_entry (Prepared x deltas) r ≡ Some next = ap (λ (b : Option StoredBranch). cond (is_some b) None (Some next)) (unbranched none) in
      let now : ReplayHas next new = by_defs defs next new same (step kept kept (left_as_kept none)) (subst (λ w. WaitsAs defs next.branch w) (sym waits) (xid, listed)) has.apart in
      subst (λ n. Follows ReplayHas n new (Ok tt)) (sym is) now

  pub at_once : (x : Xid) (deltas : List StoredDelta) (mid : Shelf) → is_some old.waiting ≡ false → new.waiting ≡ old.waiting → mid.defs ≡ defs → new.shelf.defs ≡ mid.defs
      → ((kept seen : List (List Cells)) → ShelfHas kept seen old.shelf → ShelfHas kept (after_deltas defs seen (numbered defs deltas)) mid)
      → ((kept seen : List (List Cells)) → ShelfHas kept seen mid → ShelfHas seen seen new.shelf)
      → Follows ReplayHas (after_entry (OnePhase x deltas) r) new (Ok tt)
  at_once x deltas mid empty same_waiting mid_defs new_defs step keep =
      let none : old.waiting ≡ None = nothing_waits old.waiting empty in
      let still : new.waiting ≡ None = same_waiting ∙ none in
      let next : Replayed = record { tables = after_stored r.tables deltas; branch = None } in
      let kept = tables_in r.tables defs in
      let after = after_deltas defs kept (numbered defs deltas) in
      let is : after_entry (OnePhase x deltas) r ≡ Some next =
      ap (λ (b : Option StoredBranch). cond (is_some b) None (Some (record { tables = after_stored r.tables deltas; branch = b }))) (unbranched none) in
      let law : tables_in (after_stored r.tables deltas) defs ≡ after = all_seen deltas r.tables defs has.apart.numbers has.apart.names in
      let made : ShelfHas after after new.shelf = keep kept after (step kept kept (left_as_kept none)) in
      let now : ReplayHas next new = by_defs defs next new (new_defs ∙ mid_defs) (subst (λ s. ShelfHas s s new.shelf) (sym law) made) (subst (λ w. WaitsAs defs None w) (sym still) tt) has.apart in
      subst (λ n. Follows ReplayHas n new (Ok tt)) (sym is) now

  -- the branch ends that waits
  pub not_waiting : (x : Xid) (left : List StoredDelta → List StoredTable) → waits_for old.waiting x ≡ false → ended r.branch x left ≡ None
  not_waiting x left other = by r.branch old.waiting other has.waits
    where
      by : (b : Option StoredBranch) (w : Option Waiting) → waits_for w x ≡ false → WaitsAs defs b w → ended b x left ≡ None
      by None w e h = refl
      by (Some branch) None e h = absurd h
      by (Some branch) (Some waiting) e h =
          let same : same_xid branch.xid x ≡ false = ap (λ (y : Xid). same_xid y x) (sym h.0) ∙ e in
          ap (λ b. cond b (Some (record { tables = left branch.deltas; branch = None })) None) same

  -- the branch that waits
  record Ended (x : Xid) (left : List StoredDelta → List StoredTable) : Type 0 where
    branch : StoredBranch
    branch_is : r.branch ≡ Some branch
    ends : ended r.branch x left ≡ Some (record { tables = left branch.deltas; branch = None })

  waiting_one : (x : Xid) (left : List StoredDelta → List StoredTable) → waits_for old.waiting x ≡ true → Ended x left
  waiting_one x left waits = by r.branch refl old.waiting waits has.waits
    where
      by : (b : Option StoredBranch) → r.branch ≡ b → (w : Option Waiting) → waits_for w x ≡ true → WaitsAs defs b w → Ended x left
      by None is None e h = cc
      by None is (Some waiting) e h = absurd h
      by (Some branch) is None e h = absurd h
      by (Some branch) is (Some waiting) e h =
          let same : same_xid branch.xid x ≡ true = ap (λ (y : Xid). same_xid y x) (sym h.0) ∙ e in
          record {
            branch = branch;
            branch_is = is;
            ends = ap (λ o. ended o x left) is ∙ ap (λ b. cond b (Some (record { tables = left branch.deltas; branch = None })) None) same;
          }

  seen_is : (branch : StoredBranch) → r.branch ≡ Some branch → ShelfHas (tables_in r.tables defs) (after_deltas defs (tables_in r.tables defs) (numbered defs branch.deltas)) old.shelf
  seen_is branch is = subst (λ (b : Option StoredBranch). ShelfHas (tables_in r.tables defs) (left_by (record r { branch = b }) defs) old.shelf) is has.has

  pub committed : (x : Xid) → waits_for old.waiting x ≡ true → new.waiting ≡ None → new.shelf.defs ≡ defs
      → ((kept seen : List (List Cells)) → ShelfHas kept seen old.shelf → ShelfHas seen seen new.shelf) → Follows ReplayHas (after_entry (Committed x) r) new (Ok tt)
  committed x waits still same keep =
      let e = waiting_one x (λ deltas. after_stored r.tables deltas) waits in
      let after = after_deltas defs (tables_in r.tables defs) (numbered defs e.branch.deltas) in
      let next : Replayed = record { tables = after_stored r.tables e.branch.deltas; branch = None } in
      let law : tables_in (after_stored r.tables e.branch.deltas) defs ≡ after = all_seen e.branch.deltas r.tables defs has.apart.numbers has.apart.names in
      let made : ShelfHas after after new.shelf = keep (tables_in r.tables defs) after (seen_is e.branch e.branch_is) in
      let now : ReplayHas next new = by_defs defs next new same (subst (λ s. ShelfHas s s new.shelf) (sym law) made) (subst (λ w. WaitsAs defs None w) (sym still) tt) has.apart in
      subst (λ n. Follows ReplayHas n new (Ok tt)) (sym e.ends) now

  pub committed_as : (e : Ending) (x : Xid) → e ≡ ending.Committed → waits_for old.waiting x ≡ true → new.waiting ≡ None → new.shelf.defs ≡ defs
      → ((kept seen : List (List Cells)) → ShelfHas kept seen old.shelf → ShelfHas seen seen new.shelf) → IsSomeAnd (after_entry (ending_of e x) r) (λ s. ReplayHas s new)
  committed_as e x is waits still same keep =
      subst (λ (k : Ending). IsSomeAnd (after_entry (ending_of k x) r) (λ s. ReplayHas s new)) (sym is) (committed x waits still same keep)

  pub rolled_back : (x : Xid) → waits_for old.waiting x ≡ true → new.waiting ≡ None → new.shelf.defs ≡ defs
      → ((kept seen : List (List Cells)) → ShelfHas kept seen old.shelf → ShelfHas kept kept new.shelf) → Follows ReplayHas (after_entry (RolledBack x) r) new (Ok tt)
  rolled_back x waits still same back =
      let e = waiting_one x (λ deltas. r.tables) waits in
      let kept = tables_in r.tables defs in
      let next : Replayed = record { tables = r.tables; branch = None } in
      let made : ShelfHas kept kept new.shelf = back kept (after_deltas defs kept (numbered defs e.branch.deltas)) (seen_is e.branch e.branch_is) in
      let now : ReplayHas next new = by_defs defs next new same made (subst (λ w. WaitsAs defs None w) (sym still) tt) has.apart in
      subst (λ n. Follows ReplayHas n new (Ok tt)) (sym e.ends) now
