use Rattle.std.proofs.Common.{◌≡◌, drop}
use Rattle.metadata.specs.SoFar.{schema_named}
use Rattle.metadata.proofs.so_far.find_schema.Given as goal

abbrev pub invariant-loop-schema : goal.invariant-loop-schema
invariant-loop-schema l = schema_named (drop l.schema-index l.schemas) l.name ≡ schema_named l.schemas l.name
