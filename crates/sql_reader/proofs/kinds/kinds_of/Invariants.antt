use Rattle.std.proofs.Common.{◌≡◌, ◌++◌, drop}
use Rattle.sql_reader.specs.Kinds as spec
use Rattle.sql_reader.proofs.kinds.kinds_of.Given as goal

abbrev pub invariant-loop-token : goal.invariant-loop-token
invariant-loop-token l = l.kinds.items ++ spec.kinds_of l.text (drop l.token-index l.tokens) ≡ spec.kinds_of l.text l.tokens
