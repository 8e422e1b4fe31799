use Rattle.std.proofs.Common.{◌≡◌, drop}
use Rattle.metadata.specs.Columns.{key_of}
use Rattle.metadata.proofs.columns.key_of.Given as goal

abbrev pub invariant-loop-part : goal.invariant-loop-part
invariant-loop-part l = key_of l.columns (drop l.part-index l.parts) ≡ key_of l.columns l.parts
