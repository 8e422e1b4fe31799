use Rattle.std.proofs.Common.{◌≡◌, List, drop}
use Rattle.vdb_ddl.specs.declared.tree.TablePart.{TablePart}
use Rattle.metadata.specs.Columns.{unknown_column}
use Rattle.metadata.specs.Taken.{HasColumns}
use Rattle.metadata.proofs.parts.known_columns.Given as goal

abbrev pub invariant-loop-column : goal.invariant-loop-column
invariant-loop-column l = (all : List TablePart) → HasColumns l.names.texts.keys all → unknown_column all (drop l.column-index l.columns) ≡ unknown_column all l.columns
