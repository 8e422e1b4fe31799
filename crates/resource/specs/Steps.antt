-- What each call makes of what a resource in memory holds.
use Rattle.std.specs.Prelude.{◌≡◌, ◌≤◌, true, false, List, [], ◌∷◌, ◌++◌, Option, Some, None, Result, Ok, Err}
use Rattle.vdb_base.specs.Calls.{is_listed}
use Rattle.vdb_model.specs.declared.source.Delta.{Delta}
use Rattle.vdb_model.specs.declared.source.SourceQuery.{SourceQuery}
use Rattle.vdb_model.specs.declared.source.Xid.{Xid}
use Rattle.vdb_model.specs.declared.table.TableDef.{TableDef}
use Rattle.vdb_model.specs.Rows.{Cells}
use Rattle.resource.specs.declared.mode.Mode.TheVariants as mode
use Rattle.resource.specs.declared.mode.Side.{Side}
use Rattle.resource.specs.declared.mode.Side.TheVariants.{Plain, Branched}
use Rattle.resource.specs.declared.resource.AttachFault.{AttachFault}
use Rattle.resource.specs.declared.resource.AttachFault.TheVariants as attach
use Rattle.resource.specs.declared.resource.ChangeFault.{ChangeFault}
use Rattle.resource.specs.declared.resource.ChangeFault.TheVariants as change
use Rattle.resource.specs.declared.resource.ResFault.{ResFault}
use Rattle.resource.specs.declared.resource.ResFault.TheVariants as fault
use Rattle.resource.specs.declared.resource.Vote.{Vote}
use Rattle.resource.specs.declared.resource.Vote.TheVariants as vote
use Rattle.resource.specs.Checked.{stored_fault, rows_asked, passing_cut}
use Rattle.resource.specs.Reading.{CellFault, StoreFault}
use Rattle.resource.specs.Fields.{left_in, stored_delta, keeps_key_with}
use Rattle.resource.specs.Holding.{Holding, called, losing, taking, first_of, other_of, state_of}
use Rattle.resource.specs.Stored.{after_stored}
use Rattle.resource.specs.Told.{prepared_in}

-- a listed call failed, and leaves this
pub record Breaks (old next new : Holding) : Type 0 where
  pub listed : is_listed old.calls ≡ true
  pub next_is : new ≡ next
  pub later : old.calls.faults ≤ new.calls.faults

-- a call that leaves this, or where it is listed a lost resource
abbrev pub Steps : {T F : Type 0} → (Holding → Holding) → Side → Holding → Holding → Result T F → Type 0
Steps next other old new (Ok done) = (is_listed old.calls ≡ false) × (new ≡ next (called false old))
Steps next other old new (Err failed) = Breaks old (losing other (called true old)) new

abbrev pub IsCounted : {T F : Type 0} → Holding → Holding → Result T F → Type 0
IsCounted old new (Ok done) = (is_listed old.calls ≡ false) × (new ≡ called false old)
IsCounted old new (Err failed) = Breaks old (called true old) new

-- a branch that takes changes, and one that is ended
abbrev pub starting : Xid → Holding → Holding
starting x h = record h { mode = mode.Active x }

abbrev pub ending : Xid → Holding → Holding
ending x h = record h { mode = mode.Ended x }

-- without room for a commit in one phase
abbrev pub unreserved : Holding → Holding
unreserved h = record h { reserved = false }

-- an attach, from where the definitions are gone
abbrev pub AttachesTo : List TableDef → Holding → Holding → Result (Unit {0}) AttachFault → Type 0
AttachesTo defs old new (Ok done) =
    (is_listed old.calls ≡ false) × (new ≡ record (taking (first_of old.mode) (called false old)) { defs = Some defs })
    × (stored_fault defs old.kept (left_in old.mode old.kept old.deltas) ≡ None)
AttachesTo defs old new (Err attach.Failed) = Breaks old (called true old) new
AttachesTo defs old new (Err attach.Memory) = (is_listed old.calls ≡ false) × (new ≡ called false old)
AttachesTo defs old new (Err (attach.BadCell table row col)) =
    (is_listed old.calls ≡ false) × (new ≡ called false old) × (stored_fault defs old.kept (left_in old.mode old.kept old.deltas) ≡ Some (CellFault table row col))
AttachesTo defs old new (Err (attach.BadStore table)) =
    (is_listed old.calls ≡ false) × (new ≡ called false old) × (stored_fault defs old.kept (left_in old.mode old.kept old.deltas) ≡ Some (StoreFault table))

abbrev pub QueriesTo : SourceQuery → Holding → Holding → Result (List Cells) ResFault → Type 0
QueriesTo q old new (Ok rows) =
    (is_listed old.calls ≡ false) × (new ≡ record (called false old) { asked = old.asked ++ q ∷ [] })
    × (rows ≡ passing_cut q.filter q.columns (rows_asked (after_stored old.kept old.deltas) old.defs q.tables))
QueriesTo q old new (Err fault.Failed) = Breaks old (called true old) new
QueriesTo q old new (Err fault.Memory) = (is_listed old.calls ≡ false) × (new ≡ called false old)

abbrev pub ChangesTo : {T : Type 0} → Delta → Holding → Holding → Result T ChangeFault → Type 0
ChangesTo delta old new (Ok done) =
    (is_listed old.calls ≡ false) × (new ≡ record (called false old) { deltas = old.deltas ++ stored_delta old delta ∷ [] }) × (keeps_key_with old delta ≡ true)
ChangesTo delta old new (Err (change.DuplicateKey table)) =
    (is_listed old.calls ≡ false) × (new ≡ called false old) × (keeps_key_with old delta ≡ false) × (table ≡ delta.table)
ChangesTo delta old new (Err (change.LogFull needed left)) = ⊥
ChangesTo delta old new (Err change.Failed) = Breaks old (losing Plain (called true old)) new
ChangesTo delta old new (Err change.Memory) = (is_listed old.calls ≡ false) × (new ≡ called false old)

abbrev pub PreparesTo : Xid → Holding → Holding → Result Vote ResFault → Type 0
PreparesTo x old new (Ok vote.Ready) = (is_listed old.calls ≡ false) × (new ≡ taking (Branched x) (called false old))
PreparesTo x old new (Ok vote.ReadOnly) = (is_listed old.calls ≡ false) × (new ≡ taking Plain (called false old)) × (old.deltas ≡ [])
PreparesTo x old new (Err fault.Failed) = Breaks old (losing (Branched x) (called true old)) new
PreparesTo x old new (Err fault.Memory) = ⊥

abbrev pub RecoversTo : {F : Type 0} → Holding → Holding → Result (Option Xid) F → Type 0
RecoversTo old new (Ok found) = (is_listed old.calls ≡ false) × (new ≡ called false old) × (found ≡ prepared_in (state_of old.mode))
RecoversTo old new (Err failed) = Breaks old (called true old) new

abbrev pub ReopensTo : {T : Type 0} → Holding → Holding → Result T ResFault → Type 0
ReopensTo old new (Ok done) = (is_listed old.calls ≡ false) × (new ≡ taking (first_of old.mode) (called false old))
ReopensTo old new (Err fault.Failed) = Breaks old (losing (other_of old.mode) (called true old)) new
ReopensTo old new (Err fault.Memory) = ⊥
