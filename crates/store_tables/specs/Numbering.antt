-- A stored delta by the number of its table.
use Rattle.std.specs.Prelude.{◌≡◌, [], ◌∷◌, List, Option, Some, None}
use Rattle.vdb_model.specs.declared.source.Delta.{Delta}
use Rattle.vdb_model.specs.declared.table.TableDef.{TableDef}
use Rattle.resource.specs.Stored.{number_named, with_number}
use Rattle.resource.specs.declared.stored.StoredDelta.{StoredDelta}

-- the stored delta by its number, where a definition has its name
abbrev pub NumberedIs : StoredDelta → List TableDef → Option Delta → Type 0
NumberedIs delta defs None = with_number (number_named delta.source defs) delta [] ≡ []
NumberedIs delta defs (Some made) = with_number (number_named delta.source defs) delta [] ≡ made ∷ []
