-- The table of items is well-formed.
use Rattle.std.proofs.Common.{true, ◌≡◌, refl}
use Rattle.grammar.specs.Table.{Rules}
use Rattle.grammar.specs.WellFormed.{is_well_formed}
use Rattle.vdb_ddl.specs.Table.{table}

table_known : is_well_formed table ≡ true
table_known = refl

pub known : (g : Rules) → g ≡ table → is_well_formed g ≡ true
known g e = rw e table_known
