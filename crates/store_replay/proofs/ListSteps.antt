-- Stored tables that are changed in their list.
use Rattle.std.proofs.Common.{◌≡◌, ℕ, ◌+◌, ◌-◌, ◌<◌, ◌≤◌, true, false, cond, if◌then◌else◌, List, [], ◌∷◌, ◌++◌, length, take, drop, Option, Some, None, Result, Ok, Err, refl, sym, ap, subst, ◌∙◌, arith, append_assoc, length-append, length-take-le, take-append-drop}
use Rattle.std.specs.Prelude.{is_some}
use Rattle.std.specs.Option.{unwrap_or, option_map}
use Rattle.std.proofs.lemmas.List.{take_all, take_at, drop_at, drop_all, append-nil}
use Rattle.vdb_model.specs.declared.source.Xid.{Xid}
use Rattle.vdb_model.specs.Defs.{same_name}
use Rattle.vdb_model.specs.Rows.{Cells}
use Rattle.resource.specs.Stored.{StoredBranch, rows_named, others_than, after_stored}
use Rattle.resource.specs.declared.stored.StoredDelta.{StoredDelta}
use Rattle.resource.specs.declared.stored.StoredTable.{StoredTable}
use Rattle.store_records.specs.declared.entry.Entry.TheVariants.{Prepared, Committed, RolledBack, OnePhase}
use Rattle.store_records.specs.declared.reading.ReadFault.{ReadFault}
use Rattle.store_records.specs.declared.reading.ReadFault.TheVariants as fault
use Rattle.store_replay.specs.Listing.{ListingHas, HeldIs, EndsHeld, branch_of}
use Rattle.store_replay.specs.Replay.{Replayed, same_xid, after_entry, ended}
use Rattle.store_replay.specs.Walking.{Follows}
use Rattle.store_replay.specs.declared.lists.Held.{Held}
use Rattle.store_replay.specs.declared.lists.Listing.{Listing}

-- ---- a table taken out

-- up to this place the tables of the name are out, and the rows of the first one were found
pub record OutTo (source : List ℕ) (whole : List StoredTable) (i : ℕ) (items : List StoredTable) (found : Option (List Cells)) : Type 0 where
  pub within : i ≤ length items
  pub rows : unwrap_or found (rows_named source (drop i items)) ≡ rows_named source whole
  pub others : take i items ++ others_than source (drop i items) ≡ others_than source whole

module _ (source : List ℕ) (whole : List StoredTable) (i : ℕ) (items : List StoredTable) (found : Option (List Cells)) (so_far : OutTo source whole i items found) where
  pub out_end : length items ≤ i → (unwrap_or found [] ≡ rows_named source whole) × (items ≡ others_than source whole)
  out_end end =
      let none : drop i items ≡ [] = drop_all i items end in (
        sym (ap (λ rest. unwrap_or found (rows_named source rest)) none) ∙ so_far.rows,
        sym (ap (λ rest. take i items ++ others_than source rest) none ∙ append-nil (take i items) ∙ take_all i items end) ∙ so_far.others,
      )

  module _ (within : i < length items) (table : StoredTable) (front : drop i items ≡ table ∷ drop (i + 1) items) where
    pub out_beside : same_name table.source source ≡ false → OutTo source whole (i + 1) items found
    out_beside other =
        let rest = drop (i + 1) items in
        let size : length (take i items) ≡ i = length-take-le i items (omega arith) in
        let split : items ≡ (take i items ++ table ∷ []) ++ rest = sym (take-append-drop i items) ∙ ap (λ l. take i items ++ l) front ∙ sym (append_assoc (take i items) (table ∷ []) rest) in
        let more : take (i + 1) items ≡ take i items ++ table ∷ [] = ap (take (i + 1)) split ∙ take_at (take i items ++ table ∷ []) rest (i + 1) (omega (arith, size, length-append (take i items) (table ∷ []))) in
        let same : others_than source (drop i items) ≡ table ∷ others_than source rest =
        ap (others_than source) front ∙ ap (λ b. if b then others_than source rest else table ∷ others_than source rest) other in
        let named : rows_named source (drop i items) ≡ rows_named source rest =
        ap (rows_named source) front ∙ ap (λ b. if b then table.rows else rows_named source rest) other in
        record {
          within = omega arith;
          rows = ap (unwrap_or found) (sym named) ∙ so_far.rows;
          others = ap (λ l. l ++ others_than source rest) more ∙ append_assoc (take i items) (table ∷ []) (others_than source rest)
              ∙ ap (λ l. take i items ++ l) (sym same) ∙ so_far.others;
        }

    -- the one that is read is the one that is taken
    pub out_here : (out : StoredTable) (now : List StoredTable) → drop i items ≡ out ∷ drop (i + 1) items → same_name table.source source ≡ true → now ≡ take i items ++ drop (i + 1) items
        → OutTo source whole i now (Some (unwrap_or found out.rows))
    out_here out now front_out here is =
        let rest = drop (i + 1) items in
        let one : table ≡ out = same_head table out rest (sym front ∙ front_out) in
        let name : same_name out.source source ≡ true = ap (λ (t : StoredTable). same_name t.source source) (sym one) ∙ here in
        let size : length (take i items) ≡ i = length-take-le i items (omega arith) in
        let behind : drop i now ≡ rest = ap (drop i) is ∙ drop_at (take i items) rest i size in
        let before : take i now ≡ take i items = ap (take i) is ∙ take_at (take i items) rest i size in
        let same : others_than source (drop i items) ≡ others_than source rest =
        ap (others_than source) front_out ∙ ap (λ b. if b then others_than source rest else out ∷ others_than source rest) name in
        let named : rows_named source (drop i items) ≡ out.rows =
        ap (rows_named source) front_out ∙ ap (λ b. if b then out.rows else rows_named source rest) name in
        record {
          within = omega (arith, ap length is, length-append (take i items) rest, size);
          rows = ap (unwrap_or found) (sym named) ∙ so_far.rows;
          others = ap (λ l. l ++ others_than source (drop i now)) before ∙ ap (λ l. take i items ++ others_than source l) behind
              ∙ ap (λ l. take i items ++ l) (sym same) ∙ so_far.others;
        }
      where
        same_head : (a b : StoredTable) (rest : List StoredTable) → a ∷ rest ≡ b ∷ rest → a ≡ b
        same_head a b rest e = cc

-- ---- records

module _ (r : Replayed) (old : Listing) (has : ListingHas r old) where
  branched : is_some old.branch ≡ true → is_some r.branch ≡ true
  branched some = subst (λ (b : Option StoredBranch). is_some b ≡ true) has.branch (by old.branch some)
    where
      by : (w : Option Held) → is_some w ≡ true → is_some (option_map branch_of w) ≡ true
      by None e = cc
      by (Some held) e = refl

  unbranched : is_some old.branch ≡ false → r.branch ≡ None
  unbranched none = sym has.branch ∙ by old.branch none
    where
      by : (w : Option Held) → is_some w ≡ false → option_map branch_of w ≡ None
      by None e = refl
      by (Some held) e = cc

  pub beside_prepared : (x : Xid) (deltas : List StoredDelta) → is_some old.branch ≡ true → after_entry (Prepared x deltas) r ≡ None
  beside_prepared x deltas some = ap (λ b. cond b None (Some (record r { branch = Some (record { xid = x; deltas = deltas }) }))) (branched some)

  pub beside_at_once : (x : Xid) (deltas : List StoredDelta) → is_some old.branch ≡ true → after_entry (OnePhase x deltas) r ≡ None
  beside_at_once x deltas some = ap (λ b. cond b None (Some (record r { tables = after_stored r.tables deltas }))) (branched some)

  module _ (new : Listing) where
    pub listed_prepared : (x : Xid) (deltas : List StoredDelta) (held : Held) → is_some old.branch ≡ false → new.tables.items ≡ old.tables.items → new.branch ≡ Some held → held.xid ≡ x → held.deltas ≡ deltas
        → Follows ListingHas (after_entry (Prepared x deltas) r) new (Ok tt)
    listed_prepared x deltas held none tables branch xid listed =
        let next : Replayed = record r { branch = Some (record { xid = x; deltas = deltas }) } in
        let is : after_entry (Prepared x deltas) r ≡ Some next = ap (λ (b : Option StoredBranch). cond (is_some b) None (Some next)) (unbranched none) in
        let held_is : branch_of held ≡ record { xid = x; deltas = deltas } = ap (λ (y : Xid). record { xid = y; deltas = held.deltas }) xid ∙ ap (λ (ds : List StoredDelta). record { xid = x; deltas = ds }) listed in
        let now : ListingHas next new = record { tables = tables ∙ has.tables; branch = ap (option_map branch_of) branch ∙ ap Some held_is } in
        subst (λ n. Follows ListingHas n new (Ok tt)) (sym is) now

    pub listed_at_once : (x : Xid) (deltas : List StoredDelta) → is_some old.branch ≡ false → new.tables.items ≡ after_stored old.tables.items deltas → new.branch ≡ old.branch
        → Follows ListingHas (after_entry (OnePhase x deltas) r) new (Ok tt)
    listed_at_once x deltas none tables branch =
        let next : Replayed = record r { tables = after_stored r.tables deltas } in
        let is : after_entry (OnePhase x deltas) r ≡ Some next = ap (λ (b : Option StoredBranch). cond (is_some b) None (Some next)) (unbranched none) in
        let now : ListingHas next new = record { tables = tables ∙ ap (λ ts. after_stored ts deltas) has.tables; branch = ap (option_map branch_of) branch ∙ has.branch } in
        subst (λ n. Follows ListingHas n new (Ok tt)) (sym is) now

    pub held_is : (x : Xid) (held : Held) → old.branch ≡ Some held → same_xid held.xid x ≡ true → new.tables.items ≡ old.tables.items → new.branch ≡ None → HeldIs r x new held
    held_is x held branch same tables none =
        let is : r.branch ≡ Some (branch_of held) = sym has.branch ∙ ap (option_map branch_of) branch in
        record {
          has = record { tables = tables ∙ has.tables; branch = ap (option_map branch_of) none };
          ends = λ left. ap (λ o. ended o x left) is ∙ ap (λ b. cond b (Some (record { tables = left held.deltas; branch = None })) None) same;
        }

  pub held_other : (x : Xid) (held : Held) (left : List StoredDelta → List StoredTable) → old.branch ≡ Some held → same_xid held.xid x ≡ false → ended r.branch x left ≡ None
  held_other x held left branch other =
      let is : r.branch ≡ Some (branch_of held) = sym has.branch ∙ ap (option_map branch_of) branch in
      ap (λ o. ended o x left) is ∙ ap (λ b. cond b (Some (record { tables = left held.deltas; branch = None })) None) other

  pub held_none : (x : Xid) (left : List StoredDelta → List StoredTable) → old.branch ≡ None → ended r.branch x left ≡ None
  held_none x left none =
      let is : r.branch ≡ None = sym has.branch ∙ ap (option_map branch_of) none in
      ap (λ o. ended o x left) is

-- ---- the ends of a branch

pub listed_committed : (r : Replayed) (x : Xid) (mid new : Listing) (held : Held) (result : Result (Unit {0}) ReadFault) → HeldIs r x mid held
    → ((y : Xid) → (s : Replayed) → ListingHas s mid → Follows ListingHas (after_entry (OnePhase y held.deltas) s) new result) → Follows ListingHas (after_entry (Committed x) r) new result
listed_committed r x mid new held result h step =
    subst (λ n. Follows ListingHas n new result) (sym (h.ends (λ deltas. after_stored r.tables deltas))) (step x (record { tables = r.tables; branch = None }) h.has)

pub listed_rolled_back : (r : Replayed) (x : Xid) (new : Listing) (held : Held) → HeldIs r x new held → Follows ListingHas (after_entry (RolledBack x) r) new (Ok tt)
listed_rolled_back r x new held h = subst (λ n. Follows ListingHas n new (Ok tt)) (sym (h.ends (λ deltas. r.tables))) h.has

pub listed_refused : (r : Replayed) (x : Xid) (mid new : Listing) (left : List StoredDelta → List StoredTable) (f : ReadFault) → EndsHeld r x mid (Err f) → Follows ListingHas (ended r.branch x left) new (Err f)
listed_refused r x mid new left fault.Broken h = h left
listed_refused r x mid new left fault.Memory h = tt
