use Rattle.std.proofs.Common.{◌≡◌, ◌+◌, ◌≤◌, drop}
use Rattle.metadata.specs.Columns.{column_count}
use Rattle.metadata.proofs.columns.column_count.Given as goal

abbrev pub invariant-loop-part : goal.invariant-loop-part
invariant-loop-part l = (l.count + column_count (drop l.part-index l.parts) ≡ column_count l.parts) × (l.count ≤ l.part-index)
