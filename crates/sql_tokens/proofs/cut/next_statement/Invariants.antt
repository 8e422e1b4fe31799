use Rattle.std.proofs.Common.{◌≡◌, ◌+◌, ◌<◌, ◌≤◌, length, drop}
use Rattle.std.specs.Prelude.{IfSome}
use Rattle.sql_tokens.specs.Tokens.{tokens_after}
use Rattle.sql_tokens.specs.Cut.{found}
use Rattle.sql_tokens.proofs.Steps.{going}
use Rattle.sql_tokens.proofs.cut.next_statement.Given as goal

abbrev pub invariant-loop-rest : goal.invariant-loop-rest
invariant-loop-rest l = (l.from ≤ l.at)
    × (l.at + length l.rest ≡ length l.script)
    × IfSome l.first (λ start. (l.from ≤ start) × (start < l.at))
    × (going l.ended (length l.script) l.first (tokens_after 0 l.at l.rest) ≡ found l.ended (length l.script) (tokens_after 0 l.from (drop l.from l.script)))

abbrev pub decreases-loop-rest : goal.decreases-loop-rest
decreases-loop-rest l = length l.rest
