-- The field of a record at a place.
use Rattle.std.proofs.Common.{◌≡◌, ℕ, zero, suc, List, [], ◌∷◌, refl}
use Rattle.std.specs.Option.{unwrap_or}
use Rattle.std.specs.Prelude.{slice_index_or}
use Rattle.csv.specs.Records.{field_at}

pub field_or : (fields : List (List ℕ)) (at : ℕ) → unwrap_or (field_at fields at) [] ≡ slice_index_or fields at []
unfolding field_at
field_or [] at = refl
field_or (f ∷ fs) zero = refl
field_or (f ∷ fs) (suc at) = field_or fs at
