use Rattle.std.proofs.Common.{◌≡◌}
use Rattle.vdb_model.specs.Words.{is_like, some_end}
use Rattle.rel_eval.specs.Pieces.{holds, rest_size}
use Rattle.rel_eval.proofs.patterns.has_end.Given as goal

abbrev pub invariant-loop-piece : goal.invariant-loop-piece
invariant-loop-piece l = holds l.piece ≡ some_end (is_like l.fn.pattern) l.fn.text

abbrev pub decreases-loop-piece : goal.decreases-loop-piece
decreases-loop-piece l = rest_size l.piece
