use Rattle.std.proofs.Common.{◌≡◌, drop}
use Rattle.vdb_model.specs.Answers as answers
use Rattle.resource.proofs.asked.passes_all.Given as goal

-- the conditions that are left decide
abbrev pub invariant-loop-condition : goal.invariant-loop-condition
invariant-loop-condition l = answers.passes_all (drop l.condition-index l.conditions) l.row ≡ answers.passes_all l.conditions l.row
