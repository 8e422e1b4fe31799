use Rattle.std.proofs.Common.{◌∙◌, arith}
use Rattle.metadata.proofs.Digits.{turn}
use Rattle.metadata.proofs.sizes.digits_size.Goals as goal

pub loop-byte-preserved : goal.loop-byte-preserved
loop-byte-preserved c = (
  turn c.loop-byte.n c.from-digit.result c.min-n.result c.loop-byte.byte-index c.args.bytes.now (omega arith) (c.from-digit.ensures ∙ c.saturating_sub.ensures) c.min-n.ensures
      ∙ c.loop-byte.invariant.0,
  omega arith,
)
