use Rattle.std.proofs.Common.{◌≡◌, max, drop}
use Rattle.vdb_model.specs.Sizes.{greatest}
use Rattle.metadata.specs.Parts.{chains_each}
use Rattle.metadata.proofs.chains.+chain_below.Given as goal

-- the parts so far and those to come are all
abbrev pub invariant-chain_below_all-loop-part : goal.invariant-chain_below_all-loop-part
invariant-chain_below_all-loop-part l = max l.all (greatest (chains_each l.chains (drop l.part-index l.parts))) ≡ greatest (chains_each l.chains l.parts)
