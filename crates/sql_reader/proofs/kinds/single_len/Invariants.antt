use Rattle.std.proofs.Common.{◌≡◌, ◌≤◌, ◌+◌, length, drop, false}
use Rattle.sql_tokens.specs.Values.{single}
use Rattle.sql_reader.proofs.kinds.single_len.Given as goal

abbrev pub invariant-loop-b : goal.invariant-loop-b
invariant-loop-b l = (l.len ≤ l.b-index) × (l.len + length (single l.quote l.seen (drop l.b-index l.inner)) ≡ length (single l.quote false l.inner))
