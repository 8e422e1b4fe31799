-- Bytes taken from the front, twice.
use Rattle.std.proofs.Common.{◌≡◌, List, ℕ, ◌++◌, Option, Some, None, append_assoc, refl, sym, ap}
use Rattle.vdb_base.specs.Feeding.{prepended}

pub prepended-prepended : (t u : List ℕ) (o : Option (List ℕ)) → prepended t (prepended u o) ≡ prepended (t ++ u) o
prepended-prepended t u None = refl
prepended-prepended t u (Some xs) = ap Some (sym (append_assoc t u xs))
