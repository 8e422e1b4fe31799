use Rattle.std.proofs.Common.{◌≡◌, take}
use Rattle.vdb_model.proofs.+rel_copy.Given as goal

-- what is copied so far
abbrev pub invariant-rel_copy::copy_rels-loop-rel : goal.invariant-rel_copy::copy_rels-loop-rel
invariant-rel_copy::copy_rels-loop-rel l = l.made.items ≡ take l.rel-index l.rels
