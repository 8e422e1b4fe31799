-- When an order takes two items for the same.
use Rattle.std.specs.Prelude.{Bool}
use Rattle.std.specs.declared.cmp.Ordering.{Ordering}
use Rattle.std.specs.Ordering.{is_eq}

abbrev pub is_same : {K : Type 0} → (K → K → Ordering) → K → K → Bool
is_same cmp a b = is_eq (cmp a b)
