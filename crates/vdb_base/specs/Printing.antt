-- What a sink tells, and what writing a text leaves of it.
use Rattle.std.specs.Prelude.{◌≡◌, ℕ, ◌≤◌, Bool, true, false, List, ◌++◌, length, take, Option}
use Rattle.std.specs.Option.{option_map}
use Rattle.vdb_base.specs.Counts.{Rose}

-- the bytes that were written, where they are told, and the count of faults
pub record SinkTold : Type 0 where
  pub written : Option (List ℕ)
  pub faults : ℕ

-- the told bytes, and then these
abbrev pub appended : Option (List ℕ) → List ℕ → Option (List ℕ)
appended told bytes = option_map (λ xs. xs ++ bytes) told

-- the told bytes, and then the first of these
pub record GrowsBySome (old new : Option (List ℕ)) (bytes : List ℕ) : Type 0 where
  pub count : ℕ
  pub within : count ≤ length bytes
  pub grows : new ≡ appended old (take count bytes)

-- the text was written whole, or the count of faults rose and the first of it was written
abbrev pub Prints : Bool → SinkTold → SinkTold → List ℕ → Type 0
Prints true old new text = new ≡ record old { written = appended old.written text }
Prints false old new text = GrowsBySome old.written new.written text × Rose old.faults new.faults
