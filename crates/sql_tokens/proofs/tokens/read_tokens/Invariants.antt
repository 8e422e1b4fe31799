use Rattle.std.proofs.Common.{◌≡◌, ◌+◌, ◌++◌, length}
use Rattle.std.specs.List.{All}
use Rattle.sql_tokens.specs.Tokens.{tokens_after, IsWithin}
use Rattle.sql_tokens.proofs.tokens.read_tokens.Given as goal

abbrev pub invariant-loop-rest : goal.invariant-loop-rest
invariant-loop-rest l =
    (l.at + length l.rest ≡ length l.text)
    × (l.made.items ++ tokens_after 0 l.at l.rest ≡ tokens_after 0 0 l.text)
    × All (IsWithin (length l.text)) l.made.items

abbrev pub decreases-loop-rest : goal.decreases-loop-rest
decreases-loop-rest l = length l.rest
