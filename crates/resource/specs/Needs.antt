-- What calls need of a resource.
use Rattle.std.specs.Prelude.{◌≡◌, Bool, true, false, List, IsSome, ◌⊎◌}
use Rattle.vdb_model.specs.declared.source.Xid.{Xid}
use Rattle.vdb_model.specs.declared.table.TableDef.{TableDef}
use Rattle.vdb_model.specs.Defs.{are_fit}
use Rattle.resource.specs.declared.resource.ResState.{ResState}
use Rattle.resource.specs.declared.resource.ResState.TheVariants as state
use Rattle.resource.specs.Told.{Told, is_ended, is_lost}

-- not lost, and the definitions are fit for its capabilities
pub record MayAttach (defs : List TableDef) (told : Told) : Type 0 where
  pub fit : are_fit told.caps defs ≡ true
  pub here : is_lost told.state ≡ false

-- attached, and in this state
pub record IsIn (s : ResState) (told : Told) : Type 0 where
  pub attached : IsSome told.defs
  pub state_is : told.state ≡ s

-- attached, idle, and capable of writes
pub record MayStart (told : Told) : Type 0 where
  pub idle : IsIn state.Idle told
  pub writes : told.caps.writes ≡ true

-- prepared, or ended and with its room for a commit in one phase
abbrev pub MayCommit : Xid → Bool → Told → Type 0
MayCommit x false told = IsIn (state.Prepared x) told
MayCommit x true told = IsIn (state.Ended x) told × (told.reserved ≡ true)

-- attached, and with an ended branch
pub record MayReserve (told : Told) : Type 0 where
  pub attached : IsSome told.defs
  pub ended : is_ended told.state ≡ true

-- with a branch of this transaction
abbrev pub HasBranch : Xid → Told → Type 0
HasBranch x told = IsIn (state.Active x) told ⊎ (IsIn (state.Ended x) told ⊎ IsIn (state.Prepared x) told)

-- attached and not lost
pub record IsAtHand (told : Told) : Type 0 where
  pub attached : IsSome told.defs
  pub here : is_lost told.state ≡ false
