use Rattle.std.proofs.Common.{◌≡◌, ◌||◌, ◌<◌, ℕ, length, drop}
use Rattle.processor.specs.Reads.{reads_each, any_true, mark}
use Rattle.processor.proofs.reading.+marking.Given as goal

-- the marks so far and those of the parts to come are all
abbrev pub invariant-mark_all-loop-part : goal.invariant-mark_all-loop-part
invariant-mark_all-loop-part l =
    (length l.marks ≡ length l.fn.marks)
    × ((table : ℕ) → table < length l.fn.marks
    → (mark l.marks table || any_true (reads_each table (drop l.part-index l.parts))) ≡ (mark l.fn.marks table || any_true (reads_each table l.parts)))
