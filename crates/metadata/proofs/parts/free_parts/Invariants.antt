use Rattle.std.proofs.Common.{◌≡◌, List, drop}
use Rattle.std.specs.Prelude.{[], false}
use Rattle.vdb_model.specs.declared.table.ColumnDef.{ColumnDef}
use Rattle.metadata.specs.Columns.{taken_in}
use Rattle.metadata.specs.Taken.{IsOf}
use Rattle.metadata.proofs.parts.free_parts.Given as goal

-- the columns so far, whose names are taken
abbrev pub invariant-loop-part : goal.invariant-loop-part
invariant-loop-part l = record {
  before : List ColumnDef;
  taken : IsOf l.taken before;
  rest : taken_in l.apart l.table before l.keyed (drop l.part-index l.parts) ≡ taken_in l.apart l.table [] false l.parts;
}
