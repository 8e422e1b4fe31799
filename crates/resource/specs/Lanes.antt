-- What lists of lanes tell.
use Rattle.std.specs.Prelude.{ℕ, List, map}
use Rattle.vdb_model.specs.declared.table.Kind.{Kind}
use Rattle.resource.specs.declared.lane.Lane.{Lane}
use Rattle.resource.specs.Told.{Told}

-- what each lane tells
abbrev pub told_of : {S : Type 0} → (S → Told) → List (Lane S) → List Told
told_of told lanes = map (λ lane. told lane.res) lanes

-- the lanes' names and kinds
abbrev pub labels_of : {S : Type 0} → List (Lane S) → List (List ℕ × Kind)
labels_of lanes = map (λ lane. (lane.name, lane.kind)) lanes

abbrev pub counts_of : List Told → List ℕ
counts_of ts = map (λ t. t.faults) ts
