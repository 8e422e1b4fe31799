-- The format of a log: a header, then records, each behind an open gate, and a closed gate.
use Rattle.std.specs.Prelude.{ℕ, zero, suc, ◌+◌, ◌==◌, ◌&&◌, nat_le, nat_lt, if◌then◌else◌, List, [], ◌∷◌, ◌++◌, length, take, drop, Option, Some, None, option_map, option_and_then, bytes_eq}
use Rattle.std.specs.Int.{w32, to_be_bytes, from_be_bytes}

-- `VDBLOG1` and a line feed
abbrev pub header : List ℕ
header = 86 ∷ 68 ∷ 66 ∷ 76 ∷ 79 ∷ 71 ∷ 49 ∷ 10 ∷ []

-- the most bytes that a log may have
abbrev pub log_limit : ℕ
log_limit = 268435456

-- a record behind its gate: the payload's length, with the highest byte first, and the payload
unfoldable pub body : List ℕ → List ℕ
body payload = to_be_bytes w32 (length payload) ++ payload

-- the records of these payloads, each behind an open gate
abbrev pub opened : List (List ℕ) → List ℕ
opened [] = []
opened (payload ∷ payloads) = 1 ∷ (body payload ++ opened payloads)

-- the length that the first 4 bytes say
unfoldable pub size_in : List ℕ → ℕ
size_in bytes = from_be_bytes w32 (take 4 bytes)

-- the payload of the body in front, and what follows it, where that is at least a gate
unfoldable pub split_body : List ℕ → Option (List ℕ × List ℕ)
split_body bytes = let size = size_in bytes in if nat_lt (4 + size) (length bytes) then Some (take size (drop 4 bytes), drop (4 + size) bytes) else None

-- The payloads before the first closed gate, from a gate on: none where the bytes end before it. At most so many records
-- are looked at.
unfoldable pub gated : ℕ → List ℕ → Option (List (List ℕ))
gated zero bytes = None
gated (suc most) [] = None
gated (suc most) (gate ∷ rest) = if gate == 1 then option_and_then (λ found. option_map (λ payloads. found.0 ∷ payloads) (gated most found.1)) (split_body rest) else Some []

-- the payloads from the gate at a place on
unfoldable pub records_from : ℕ → List ℕ → Option (List (List ℕ))
records_from at bytes = gated (length bytes) (drop at bytes)

-- The payloads of a log: of at most 9 bytes it is empty, and none says that the bytes break the format.
unfoldable pub records : List ℕ → Option (List (List ℕ))
records bytes = if nat_le (length bytes) 9 then Some [] else if bytes_eq (take 8 bytes) header && nat_le (length bytes) log_limit then records_from 8 bytes else None
