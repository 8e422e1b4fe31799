use Rattle.std.proofs.Common.{◌≡◌, drop}
use Rattle.sql_tokens.specs.Words.{is_same}
use Rattle.sql_tokens.proofs.reserved.is_same.Given as goal

abbrev pub invariant-loop-i : goal.invariant-loop-i
invariant-loop-i l = is_same l.word l.low ≡ is_same (drop l.i l.word) (drop l.i l.low)
