use Rattle.std.proofs.Common.{arith}
use Rattle.store_tables.proofs.ShelfSteps.{not_defined}
use Rattle.store_tables.proofs.place.place_of.Goals as goal

pub returns : goal.returns
returns c = not_defined c.args.number c.args.defs.now (λ k d lt. c.loop-i.invariant k d (omega arith))
