-- The bytes of one delta.
use Rattle.std.specs.Prelude.{◌≡◌, ℕ, true, List}
use Rattle.resource.specs.declared.stored.StoredDelta.{StoredDelta}
use Rattle.store_records.specs.Payloads.{delta_bytes, has_delta}

-- the delta has bytes, and these are they
pub record Encodes (delta : StoredDelta) (bytes : List ℕ) : Type 0 where
  pub has : has_delta delta ≡ true
  pub is : bytes ≡ delta_bytes delta
