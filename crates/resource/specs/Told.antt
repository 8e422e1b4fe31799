-- What a resource tells.
use Rattle.std.specs.Prelude.{◌≡◌, ◌≤◌, ℕ, Bool, true, false, List, [], Option, Some, None, IfSome, ⊤}
use Rattle.std.specs.Option.{option_map, unwrap_or}
use Rattle.vdb_model.specs.declared.source.Caps.{Caps}
use Rattle.vdb_model.specs.declared.source.Delta.{Delta}
use Rattle.vdb_model.specs.declared.source.SourceQuery.{SourceQuery}
use Rattle.vdb_model.specs.declared.source.Xid.{Xid}
use Rattle.vdb_model.specs.declared.table.TableDef.{TableDef}
use Rattle.vdb_model.specs.Deltas.{after_deltas}
use Rattle.vdb_model.specs.Rows.{Cells}
use Rattle.vdb_model.specs.World.{is_world}
use Rattle.resource.specs.declared.resource.ResState.{ResState}
use Rattle.resource.specs.declared.resource.ResState.TheVariants as state
use Rattle.resource.specs.Reading.{Branch, Reading, Sound, CellFault, StoreFault, tables_of}

-- the committed rows of the attached tables, in the order of their definitions, and the deltas that the branch took in turn
pub record Contents : Type 0 where
  pub kept : List (List Cells)
  pub deltas : List Delta

-- Always told: the capabilities, the state, whether a commit in one phase has its room, the definitions of the last attach
-- where that answered Ok, the count of faults, and the bytes that are left in a log where the resource keeps one.
-- Told where it can be: what the store as it stands reads as under definitions, the contents, and the source queries since
-- the last clear_asked. Whether they are told never changes.
pub record Told : Type 0 where
  pub caps : Caps
  pub state : ResState
  pub reserved : Bool
  pub defs : Option (List TableDef)
  pub faults : ℕ
  pub spare : Option ℕ
  pub reads : Option (List TableDef → Reading)
  pub contents : Option Contents
  pub asked : Option (List SourceQuery)

-- the attached definitions; without them there are no tables
abbrev pub defs_in : Told → List TableDef
defs_in t = unwrap_or t.defs []

-- the tables as seen now: the committed ones after the deltas
abbrev pub seen : List TableDef → Contents → List (List Cells)
seen defs c = after_deltas defs c.kept c.deltas

abbrev pub work : Told → Option (List (List Cells))
work t = option_map (seen (defs_in t)) t.contents

-- where they are told, the tables as seen now have rows that their definitions take
abbrev pub IsWorld : Told → Type 0
IsWorld t = IfSome (work t) (λ tables. is_world (defs_in t) tables ≡ true)

-- without tables
abbrev pub no_contents : Contents
no_contents = record { kept = []; deltas = [] }

abbrev pub branch_deltas : Option Branch → List Delta
branch_deltas None = []
branch_deltas (Some branch) = branch.deltas

-- the contents that a reading gives
abbrev pub contents_of : Reading → Contents
contents_of (Sound kept branch) = record { kept = kept; deltas = branch_deltas branch }
contents_of (CellFault table row col) = no_contents
contents_of (StoreFault table) = no_contents

-- the committed rows that the store has under definitions, where it tells them
abbrev pub under : Option (List TableDef → Reading) → List TableDef → Option (List (List Cells))
under None defs = None
under (Some reads) defs = tables_of (reads defs)

-- a branch takes changes
abbrev pub is_active : ResState → Bool
is_active state.Idle = false
is_active (state.Active x) = true
is_active (state.Ended x) = false
is_active (state.Prepared x) = false
is_active state.Lost = false

-- a branch is ended and not prepared
abbrev pub is_ended : ResState → Bool
is_ended state.Idle = false
is_ended (state.Active x) = false
is_ended (state.Ended x) = true
is_ended (state.Prepared x) = false
is_ended state.Lost = false

abbrev pub is_lost : ResState → Bool
is_lost state.Idle = false
is_lost (state.Active x) = false
is_lost (state.Ended x) = false
is_lost (state.Prepared x) = false
is_lost state.Lost = true

-- queries may be asked: no branch, or one that takes changes
abbrev pub is_open : ResState → Bool
is_open state.Idle = true
is_open (state.Active x) = true
is_open (state.Ended x) = false
is_open (state.Prepared x) = false
is_open state.Lost = false

-- no branch, or a prepared one
abbrev pub is_settled : ResState → Bool
is_settled state.Idle = true
is_settled (state.Active x) = false
is_settled (state.Ended x) = false
is_settled (state.Prepared x) = true
is_settled state.Lost = false

-- the transaction of the prepared branch
abbrev pub prepared_in : ResState → Option Xid
prepared_in state.Idle = None
prepared_in (state.Active x) = None
prepared_in (state.Ended x) = None
prepared_in (state.Prepared x) = Some x
prepared_in state.Lost = None

-- the state of a store that was read with this branch
abbrev pub state_with : Option Branch → ResState
state_with None = state.Idle
state_with (Some branch) = state.Prepared branch.xid

-- a log has no more room than before, or there is none
abbrev pub Lowers : Option ℕ → Option ℕ → Type 0
Lowers None None = ⊤
Lowers None (Some after) = ⊥
Lowers (Some before) None = ⊥
Lowers (Some before) (Some after) = after ≤ before
