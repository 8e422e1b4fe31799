use Rattle.std.proofs.Common.{◌≡◌, drop}
use Rattle.sql_tokens.specs.Lengths.{further}
use Rattle.sql_tokens.specs.Words.{place_of, shown}
use Rattle.sql_tokens.proofs.reserved.place_of.Given as goal

abbrev pub invariant-loop-i : goal.invariant-loop-i
invariant-loop-i l = place_of l.word (shown l.lows) ≡ further l.i (place_of l.word (shown (drop l.i l.lows)))
