-- The length of a text between quotes, byte by byte.
use Rattle.std.proofs.Common.{ℕ, Bool, true, false, List, [], ◌∷◌, ◌+◌, ◌≡◌, ◌&&◌, not, length, refl, arith}
use Rattle.std.specs.Prelude.{◌==◌}
use Rattle.sql_tokens.specs.Values.{single}

-- a byte that isn't the first of two quotes is one more
pub one_more : (q : ℕ) (seen : Bool) (b : ℕ) (bs : List ℕ) → not seen && b == q ≡ false → length (single q seen (b ∷ bs)) ≡ length (single q false bs) + 1
one_more q seen b bs h = rw h (omega arith)
