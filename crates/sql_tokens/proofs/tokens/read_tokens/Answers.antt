use Rattle.std.proofs.Common.{arith}
use Rattle.sql_tokens.proofs.Steps.{made_step, made_within}
use Rattle.sql_tokens.proofs.tokens.read_tokens.Goals as goal

pub loop-rest-preserved : goal.loop-rest-preserved
loop-rest-preserved c = (
  omega arith,
  made_step _ _ _ _ _ _ _ (omega arith) c.head_piece-piece.ensures.some c.head_piece-piece.ensures.value
      c.split_at.ensures.back c.in_ok-add.ensures c.loop-rest.invariant.1,
  made_within _ _ _ _ _ _ c.head_piece-piece.ensures.some (omega arith) c.in_ok-add.ensures c.loop-rest.invariant.2,
)
