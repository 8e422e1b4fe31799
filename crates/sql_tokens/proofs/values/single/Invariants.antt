use Rattle.std.proofs.Common.{◌≡◌, ◌++◌, drop, false}
use Rattle.sql_tokens.specs.Values.{single}
use Rattle.sql_tokens.proofs.values.single.Given as goal

abbrev pub invariant-loop-b : goal.invariant-loop-b
invariant-loop-b l = l.made.items ++ single l.quote l.seen (drop l.b-index l.inner) ≡ single l.quote false l.inner
