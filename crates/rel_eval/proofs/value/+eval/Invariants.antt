use Rattle.std.proofs.Common.{◌≡◌, ◌++◌, drop}
use Rattle.vdb_model.specs.Logic.{all_of, any_of}
use Rattle.rel_eval.proofs.Conjuncts.{all_from, any_from}
use Rattle.vdb_model.specs.Meaning.{values, arms_value}
use Rattle.rel_eval.proofs.value.+eval.Given as goal

-- the values so far and those to come are all
abbrev pub invariant-eval_all-loop-e : goal.invariant-eval_all-loop-e
invariant-eval_all-loop-e l = l.made.items ++ values (drop l.e-index l.es) (l.left ++ l.right) l.vars ≡ values l.es (l.left ++ l.right) l.vars

-- the arms that are left decide
abbrev pub invariant-eval_arms-loop-arm : goal.invariant-eval_arms-loop-arm
invariant-eval_arms-loop-arm l = arms_value (drop l.arm-index l.arms) (l.left ++ l.right) l.vars ≡ arms_value l.fn.arms (l.fn.left ++ l.fn.right) l.fn.vars

abbrev pub invariant-eval_and-loop-e : goal.invariant-eval_and-loop-e
invariant-eval_and-loop-e l = all_from l.all (values (drop l.e-index l.es) (l.left ++ l.right) l.vars) ≡ all_of (values l.es (l.left ++ l.right) l.vars)

abbrev pub invariant-eval_or-loop-e : goal.invariant-eval_or-loop-e
invariant-eval_or-loop-e l = any_from l.none (values (drop l.e-index l.es) (l.left ++ l.right) l.vars) ≡ any_of (values l.es (l.left ++ l.right) l.vars)
