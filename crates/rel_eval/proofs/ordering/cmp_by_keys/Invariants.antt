use Rattle.std.proofs.Common.{◌≡◌, drop}
use Rattle.vdb_model.specs.Keys.{keys_cmp}
use Rattle.rel_eval.proofs.ordering.cmp_by_keys.Given as goal

-- the keys that are left decide
abbrev pub invariant-loop-key : goal.invariant-loop-key
invariant-loop-key l = keys_cmp (drop l.key-index l.keys) l.a l.b ≡ keys_cmp l.keys l.a l.b
