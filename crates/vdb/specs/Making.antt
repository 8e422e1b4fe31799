-- What a maker tells, and what its calls leave.
use Rattle.std.specs.Prelude.{◌≡◌, ℕ, true, List, [], ◌∷◌, map, Option, Some, None, Result, Ok, Err}
use Rattle.vdb_base.specs.Counts.{Rose}
use Rattle.vdb_model.specs.declared.table.Kind.{Kind}
use Rattle.resource.specs.Lanes.{labels_of}
use Rattle.resource.specs.Told.{Told}
use Rattle.vdb.specs.declared.maker.MakeFault.{MakeFault}
use Rattle.vdb.specs.declared.maker.MakeFault.TheVariants as fault
use Rattle.vdb_session.specs.declared.parts.Parts.{Parts}
use Rattle.vdb_session.specs.Lanes.{are_here}
use Rattle.vdb.specs.declared.words.Conn.{Conn}
use Rattle.vdb.specs.declared.words.Setup.{Setup}

-- the count of faults, and where it can be told the parts that it holds, if any
pub record MakerTold (S : Type 0) : Type 0 where
  pub held : Option (Option (Parts S))
  pub faults : ℕ

-- where it is told what is held: it was this, and now nothing is
abbrev pub Takes : {P : Type 0} → Option (Option P) → Option (Option P) → P → Type 0
Takes None new p = new ≡ None
Takes (Some held) new p = (held ≡ Some p) × (new ≡ Some None)

-- where it is told what is held: now it is this
abbrev pub GivesBack : {P : Type 0} → Option (Option P) → Option (Option P) → P → Type 0
GivesBack None new p = new ≡ None
GivesBack (Some held) new p = new ≡ Some (Some p)

-- the names and kinds of the connections
abbrev pub labels : List Conn → List (List ℕ × Kind)
labels conns = map (λ conn. (conn.name, conn.kind)) conns

abbrev pub conn_names : List Conn → List (List ℕ)
conn_names [] = []
conn_names (conn ∷ conns) = conn.name ∷ conn_names conns

-- the parts have one lane per connection, of its name and kind, in their order
abbrev pub AreFor : {S : Type 0} → Setup → Parts S → Type 0
AreFor setup parts = labels_of parts.lanes ≡ labels setup.conns

-- the parts were handed over, are for the setup, and none of their lanes is lost
pub record Made {S : Type 0} (told : S → Told) (setup : Setup) (old new : MakerTold S) (parts : Parts S) : Type 0 where
  pub takes : Takes old.held new.held parts
  pub are_for : AreFor setup parts
  pub here : are_here told parts.lanes ≡ true
  pub count : new.faults ≡ old.faults

-- what a make leaves
abbrev pub Makes : {S : Type 0} → (S → Told) → Setup → MakerTold S → MakerTold S → Result (Parts S) MakeFault → Type 0
Makes told setup old new (Ok parts) = Made told setup old new parts
Makes told setup old new (Err fault.Memory) = new ≡ old
Makes told setup old new (Err fault.Failed) = (new.held ≡ old.held) × Rose old.faults new.faults

-- what a keep leaves
abbrev pub Keeps : {S : Type 0} → MakerTold S → MakerTold S → Parts S → Type 0
Keeps old new parts = GivesBack old.held new.held parts × (new.faults ≡ old.faults)
