-- What contracts see of a journaled store.
use Rattle.std.specs.Prelude.{ℕ, Bool, List, Option}
use Rattle.vdb_model.specs.declared.source.Delta.{Delta}
use Rattle.vdb_model.specs.declared.source.SourceQuery.{SourceQuery}
use Rattle.vdb_model.specs.declared.table.TableDef.{TableDef}
use Rattle.resource.specs.declared.resource.ResState.{ResState}

-- The disk, the place of its log's last gate and the count of the known records; the reopenings that found no store; where it
-- stands, whether a commit in one phase has its room, and what is attached; the branch's changes; and what it was asked.
pub record Seen (D : Type 0) : Type 0 where
  pub disk : D
  pub end : ℕ
  pub records : ℕ
  pub own_faults : ℕ
  pub state : ResState
  pub reserved : Bool
  pub defs : Option (List TableDef)
  pub deltas : List Delta
  pub asked : List SourceQuery
