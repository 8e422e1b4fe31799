-- The disk model: which contents a stop may leave, and how each call moves them.
use Rattle.std.specs.Prelude.{◌≡◌, ℕ, ◌+◌, ◌≤◌, min, max, List, length, take, drop}

-- After a write of n bytes at a place: in its range and past the old end stand any bytes, elsewhere those of before. The
-- length lies between the old one and the one that the write asks for.
pub record Torn (at n : ℕ) (old new : List ℕ) : Type 0 where
  pub before : take at new ≡ take at old
  pub after : drop (at + n) new ≡ drop (at + n) old
  pub no_shorter : length old ≤ length new
  pub no_longer : length new ≤ max (length old) (at + n)

-- After a cut to n bytes: the first bytes of before, n or more of them.
pub record CutBack (n : ℕ) (old new : List ℕ) : Type 0 where
  pub front : new ≡ take (length new) old
  pub no_shorter : min n (length old) ≤ length new

-- each of these contents comes from one of before by such a step
abbrev pub Follows : (List ℕ → List ℕ → Type 0) → (List ℕ → Type 0) → (List ℕ → Type 0) → Type 0
Follows step before now = (c : List ℕ) → now c → (d : List ℕ) × before d × step d c

-- each of these contents is one of before
abbrev pub Within : (List ℕ → Type 0) → (List ℕ → Type 0) → Type 0
Within before now = (c : List ℕ) → now c → before c

-- these contents are those of before
pub record Same (before now : List ℕ → Type 0) : Type 0 where
  pub within : Within before now
  pub keeps : Within now before

-- a stop may leave this, and nothing else
pub record Only (bytes : List ℕ) (now : List ℕ → Type 0) : Type 0 where
  pub is : now bytes
  pub only : (c : List ℕ) → now c → c ≡ bytes
