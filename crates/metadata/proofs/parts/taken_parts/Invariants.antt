use Rattle.std.proofs.Common.{◌≡◌, drop}
use Rattle.metadata.specs.Columns.{option_in}
use Rattle.metadata.proofs.parts.taken_parts.Given as goal

abbrev pub invariant-loop-part : goal.invariant-loop-part
invariant-loop-part l = option_in (drop l.part-index l.parts) ≡ option_in l.parts
