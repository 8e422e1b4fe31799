use Rattle.std.proofs.Common.{◌≡◌, drop}
use Rattle.metadata.specs.Columns.{fractional_in}
use Rattle.metadata.proofs.parts.whole_parts.Given as goal

abbrev pub invariant-loop-part : goal.invariant-loop-part
invariant-loop-part l = fractional_in (drop l.part-index l.parts) ≡ fractional_in l.parts
