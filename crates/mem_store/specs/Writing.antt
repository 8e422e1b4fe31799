-- Steps of a journaled store: one record more, and the end of its branch in memory.
use Rattle.std.specs.Prelude.{◌≡◌, ℕ, ◌+◌, ◌-◌, ◌^◌, min, List, [], Some, Result, Ok, Err}
use Rattle.vdb_model.specs.Deltas.{after_deltas}
use Rattle.vdb_model.specs.Rows.{Cells}
use Rattle.vdb_base.specs.declared.calls.Failed.{Failed}
use Rattle.resource.specs.declared.resource.ResState.{ResState}
use Rattle.resource.specs.declared.resource.ResState.TheVariants as state
use Rattle.mem_store.specs.declared.attached.Attached.{Attached}
use Rattle.mem_store.specs.declared.inner.Inner.{Inner}
use Rattle.mem_store.specs.Attaching.{AttachedHas, IsWritten}

-- one more record is known
abbrev pub one_more : ℕ → ℕ
one_more n = min (n + 1) (2 ^ 64 - 1)

-- the store has one record more and this state, or is lost
abbrev pub Writes : {D : Type 0} → ResState → Inner D → Inner D → Result (Unit {0}) Failed → Type 0
Writes then old new (Ok done) = new ≡ record old { log = new.log; records = one_more old.records; state = then }
Writes then old new (Err failed) = new ≡ record old { log = new.log; state = state.Lost }

-- the tables without a branch's changes, where its end makes such rows of the kept ones
pub record IsEnded (ends : List (List Cells) → List (List Cells)) (before after : Attached) : Type 0 where
  pub defs : after.shelf.defs ≡ before.shelf.defs
  pub deltas : after.deltas.items ≡ []
  pub written : IsWritten after
  pub has : (kept : List (List Cells)) → AttachedHas kept before → AttachedHas (ends kept) after

-- the branch is gone from the tables alone
pub record EndsBranch {D : Type 0} (ends : List (List Cells) → List (List Cells)) (old new : Inner D) (before : Attached) : Type 0 where
  pub after : Attached
  pub is : new ≡ record old { attached = Some after }
  pub ended : IsEnded ends before after

-- its changes are kept, or taken back
abbrev pub Keeps : {D : Type 0} → Inner D → Inner D → Attached → Type 0
Keeps old new before = EndsBranch (λ kept. after_deltas before.shelf.defs kept before.deltas.items) old new before

abbrev pub TakesBack : {D : Type 0} → Inner D → Inner D → Attached → Type 0
TakesBack old new before = EndsBranch (λ kept. kept) old new before
