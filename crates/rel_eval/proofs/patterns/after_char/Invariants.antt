use Rattle.std.proofs.Common.{◌≡◌, length}
use Rattle.vdb_model.specs.Words.{after_char}
use Rattle.rel_eval.proofs.patterns.after_char.Given as goal

abbrev pub invariant-loop-text : goal.invariant-loop-text
invariant-loop-text l = after_char l.text ≡ after_char l.fn.text

abbrev pub decreases-loop-text : goal.decreases-loop-text
decreases-loop-text l = length l.text
