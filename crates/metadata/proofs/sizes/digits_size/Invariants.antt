use Rattle.std.proofs.Common.{◌≡◌, ◌≤◌, drop}
use Rattle.metadata.specs.Options.{in_size}
use Rattle.sql_tokens.specs.Values.{decimal}
use Rattle.metadata.proofs.sizes.digits_size.Given as goal

abbrev pub invariant-loop-byte : goal.invariant-loop-byte
invariant-loop-byte l = (in_size (decimal l.n (drop l.byte-index l.bytes)) ≡ in_size (decimal 0 l.bytes)) × (l.n ≤ 1001)
