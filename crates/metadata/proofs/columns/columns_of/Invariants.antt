use Rattle.std.proofs.Common.{◌≡◌, ◌++◌, drop}
use Rattle.metadata.specs.Columns.{columns_of}
use Rattle.metadata.proofs.columns.columns_of.Given as goal

abbrev pub invariant-loop-part : goal.invariant-loop-part
invariant-loop-part l = l.made ++ columns_of l.parts (drop l.part-index l.parts) ≡ columns_of l.parts l.parts
