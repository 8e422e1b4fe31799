use Rattle.std.proofs.Common.{◌≡◌, drop}
use Rattle.metadata.specs.Columns.{badly_named_in}
use Rattle.metadata.proofs.parts.named_parts.Given as goal

abbrev pub invariant-loop-part : goal.invariant-loop-part
invariant-loop-part l = badly_named_in (drop l.part-index l.parts) ≡ badly_named_in l.parts
