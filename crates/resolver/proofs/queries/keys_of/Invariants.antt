use Rattle.std.proofs.Common.{◌≡◌, [], drop}
use Rattle.resolver.specs.Queries.{keys_of}
use Rattle.resolver.proofs.queries.keys_of.Given as goal

abbrev pub invariant-loop-k : goal.invariant-loop-k
invariant-loop-k l = keys_of l.columns (drop l.k-index l.keys) l.made ≡ keys_of l.fn.columns l.fn.keys []
