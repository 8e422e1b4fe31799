use Rattle.std.proofs.Common.{◌≡◌, ◌≤◌, true, length}
use Rattle.vdb_model.specs.Words.{is_like, some_end}
use Rattle.rel_eval.proofs.patterns.begins.Given as goal

-- what is left decides, and no later end does better
abbrev pub invariant-loop-pattern : goal.invariant-loop-pattern
invariant-loop-pattern l = record {
  like : is_like l.pattern l.text ≡ is_like l.fn.pattern l.fn.text;
  first : some_end (is_like l.fn.pattern) l.fn.text ≡ true → some_end (is_like l.pattern) l.text ≡ true;
  shorter : length l.pattern ≤ length l.fn.pattern;
}

abbrev pub decreases-loop-pattern : goal.decreases-loop-pattern
decreases-loop-pattern l = length l.pattern
