use Rattle.std.proofs.Common.{◌≡◌, ◌<◌, ◌^◌, drop}
use Rattle.sql_tokens.specs.Values.{decimal}
use Rattle.sql_tokens.proofs.values.value.Given as goal

abbrev pub invariant-loop-b : goal.invariant-loop-b
invariant-loop-b l = (l.n < 2 ^ 128) × (decimal l.n (drop l.b-index l.digits) ≡ decimal 0 l.digits)
