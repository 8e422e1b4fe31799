-- Counts of faults: they never fall, and stand still at the last value of 64 bits.
use Rattle.std.specs.Prelude.{◌≡◌, ℕ, ◌+◌, ◌-◌, ◌^◌, ◌≤◌, min, Bool, true, false}

-- one more, or the last value
abbrev pub raised : ℕ → ℕ
raised n = min (n + 1) (2 ^ 64 - 1)

-- a count after a fault: it rose, or stands at its last value
pub record Rose (before now : ℕ) : Type 0 where
  pub later : before ≤ now
  pub risen : raised before ≤ now
