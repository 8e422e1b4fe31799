use Rattle.std.proofs.Common.{◌≡◌, ◌++◌, drop}
use Rattle.rel_eval.proofs.PartByPart.{one_after_another}
use Rattle.rel_eval.proofs.rows.union_all.Given as goal

abbrev pub invariant-loop-part : goal.invariant-loop-part
invariant-loop-part l = l.rows ++ one_after_another (drop l.part-index l.part-items) ≡ one_after_another l.part-items
