use Rattle.std.proofs.Common.{◌≡◌, drop}
use Rattle.metadata.specs.Columns.{is_in_key}
use Rattle.metadata.proofs.columns.is_in_key.Given as goal

abbrev pub invariant-loop-part : goal.invariant-loop-part
invariant-loop-part l = is_in_key (drop l.part-index l.parts) l.name ≡ is_in_key l.parts l.name
