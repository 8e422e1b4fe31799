use Rattle.std.proofs.Common.{ℕ, length}
use Rattle.resolver.proofs.assigning.+first_unfit.Given as goal

abbrev pub decreases-first_unfit : goal.decreases-first_unfit
decreases-first_unfit l = length l.tys.now
