use Rattle.std.proofs.Common.{◌≡◌, ◌+◌, drop}
use Rattle.std.specs.List.{prefix_len}
use Rattle.sql_tokens.specs.Bytes.{belongs}
use Rattle.sql_tokens.proofs.lengths.run.Given as goal

abbrev pub invariant-loop-i : goal.invariant-loop-i
invariant-loop-i l = prefix_len (belongs l.class) l.rest ≡ l.i + prefix_len (belongs l.class) (drop l.i l.rest)
