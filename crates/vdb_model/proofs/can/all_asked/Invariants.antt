use Rattle.std.proofs.Common.{◌≡◌, drop}
use Rattle.vdb_model.specs.Can.{all_asked}
use Rattle.vdb_model.proofs.can.all_asked.Given as goal

abbrev pub invariant-loop-key : goal.invariant-loop-key
invariant-loop-key l = all_asked l.columns (drop l.key-index l.order) ≡ all_asked l.fn.columns l.fn.order
