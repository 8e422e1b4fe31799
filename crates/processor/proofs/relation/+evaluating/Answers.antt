use Rattle.std.proofs.Common.{arith}
use Rattle.processor.proofs.UnionOf.{all_done}
use Rattle.processor.proofs.relation.+evaluating.Goals as goal

pub union_of-returns : goal.union_of-returns
union_of-returns t c =
    let done = all_done c.args.tables.now c.args.vars.now c.args.parts.now c.loop-i.i c.loop-i.width c.loop-i.rows (omega (arith, c.loop-i-test.false)) c.loop-i.invariant.0 c.loop-i.invariant.1 c.loop-i.invariant.2 in
    cc (c.made.ensures, done.0, done.1)
