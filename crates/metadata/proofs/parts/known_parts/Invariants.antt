use Rattle.std.proofs.Common.{◌≡◌, drop}
use Rattle.metadata.specs.Columns.{unknown_in}
use Rattle.metadata.proofs.parts.known_parts.Given as goal

abbrev pub invariant-loop-part : goal.invariant-loop-part
invariant-loop-part l = unknown_in l.parts (drop l.part-index l.parts) ≡ unknown_in l.parts l.parts
