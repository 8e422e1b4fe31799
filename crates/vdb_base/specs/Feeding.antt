-- What a feed tells, and what a read leaves of it.
use Rattle.std.specs.Prelude.{◌≡◌, ℕ, ◌≤◌, List, [], ◌++◌, length, take, Option, Result, Ok, Err, IfSome}
use Rattle.std.specs.Option.{option_map}
use Rattle.vdb_base.specs.declared.calls.Failed.{Failed}
use Rattle.vdb_base.specs.Counts.{Rose}

-- the bytes not yet read, where they are told, and the count of faults
pub record FeedTold : Type 0 where
  pub left : Option (List ℕ)
  pub faults : ℕ

-- these bytes, and then the told ones
abbrev pub prepended : List ℕ → Option (List ℕ) → Option (List ℕ)
prepended bytes told = option_map (λ xs. bytes ++ xs) told

-- where it is told what is left, that is nothing
abbrev pub IsAtEnd : Option (List ℕ) → Type 0
IsAtEnd told = IfSome told (λ xs. xs ≡ [])

-- the first n bytes were taken, none of them only at the end
pub record TakesSome (old new : FeedTold) (n : ℕ) (buffer : List ℕ) : Type 0 where
  pub within : n ≤ length buffer
  pub taken : old.left ≡ prepended (take n buffer) new.left
  pub at_end : n ≡ 0 → IsAtEnd old.left
  pub count : new.faults ≡ old.faults

-- what a read leaves, answer by answer
abbrev pub Takes : FeedTold → FeedTold → Result ℕ Failed → List ℕ → Type 0
Takes old new (Ok n) buffer = TakesSome old new n buffer
Takes old new (Err failed) buffer = (new.left ≡ old.left) × Rose old.faults new.faults
