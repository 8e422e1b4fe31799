-- What the items so far keep.
use Rattle.std.specs.Prelude.{◌≡◌, List, [], Option, Some, None, IsTrue, ⊤}
use Rattle.vdb_model.specs.declared.catalog.SchemaDef.{SchemaDef}
use Rattle.vdb_model.specs.Chains.{chains_after}
use Rattle.vdb_model.specs.WellFormed.{IsWellFormed, stands_in_schema}
use Rattle.vdb_model.specs.World.{view_rels}
use Rattle.metadata.specs.declared.so_far.SoFar.{SoFar}

-- the schema that is set is one of these
abbrev pub IsSet : List SchemaDef → Option SchemaDef → Type 0
IsSet schemas None = ⊤
IsSet schemas (Some schema) = IsTrue (stands_in_schema schemas schema.server schema.name)

-- The catalog is well formed, the chains are those of its views, and the schema that is set is one of its schemas.
pub record IsSound (s : SoFar) : Type 0 where
  pub well : IsWellFormed s.catalog
  pub chains : s.chains ≡ chains_after [] (view_rels s.catalog.views)
  pub set : IsSet s.catalog.schemas s.schema
