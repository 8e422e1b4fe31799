-- What a call that writes adds to the bytes so far.
use Rattle.std.specs.Prelude.{◌≡◌, Bool, true, ℕ, List, ◌++◌}

-- it has bytes in the format, and they are added
pub record Writes (has : Bool) (bytes old new : List ℕ) : Type 0 where
  pub fits : has ≡ true
  pub added : new ≡ old ++ bytes
