-- Fields of a record: how they are written one behind the other, and read again from the left. What is read is what stands in
-- front, and the bytes after it, or none where nothing such stands there.
use Rattle.std.specs.Prelude.{ℕ, zero, suc, ◌^◌, ℤ, Bool, not, ◌&&◌, ◌==◌, nat_lt, if◌then◌else◌, List, [], ◌∷◌, ◌++◌, length, take, drop, Option, Some, None}
use Rattle.std.specs.Int.{Width, w128, byte_len, to_be_bytes, from_be_bytes, cast_signed}
use Rattle.std.specs.List.{flat_map}
use Rattle.std.specs.Str.{is_utf8}

-- a list's length in so many bytes, and then its elements
abbrev pub counted : {A : Type 0} → Width → (A → List ℕ) → List A → List ℕ
counted w bytes_of items = to_be_bytes w (length items) ++ flat_map bytes_of items

-- a text's length in so many bytes, and then its bytes
abbrev pub lettered : Width → List ℕ → List ℕ
lettered w text = to_be_bytes w (length text) ++ text

-- a list whose length goes into so many bits, and a text
abbrev pub is_short : {A : Type 0} → ℕ → List A → Bool
is_short bits items = nat_lt (length items) (2 ^ bits)

abbrev pub is_text : ℕ → List ℕ → Bool
is_text bits text = is_short bits text && is_utf8 text

infixl 10 ◌>>=◌
abbrev pub ◌>>=◌ : {A B : Type 0} → Option A → (A → Option B) → Option B
None >>= f = None
(Some x) >>= f = f x

abbrev pub Front : Type 0 → Type 0
Front A = Option (A × List ℕ)

abbrev pub number_at : Width → List ℕ → Front ℕ
number_at w bytes = if nat_lt (length bytes) (byte_len w) then None else Some (from_be_bytes w (take (byte_len w) bytes), drop (byte_len w) bytes)

-- two's complement of 128 bits
abbrev pub signed_at : List ℕ → Front ℤ
signed_at bytes = do
  n ← number_at w128 bytes
  Some (cast_signed w128 n.0, n.1)

-- so many bytes, which are UTF-8
unfoldable pub letters_at : ℕ → List ℕ → Front (List ℕ)
letters_at len bytes = if not (nat_lt (length bytes) len) && is_utf8 (take len bytes) then Some (take len bytes, drop len bytes) else None

-- a text behind its length
abbrev pub text_at : Width → List ℕ → Front (List ℕ)
text_at w bytes = do
  n ← number_at w bytes
  letters_at n.0 n.1

-- so many, one after the other
unfoldable pub each_at : {A : Type 0} → (List ℕ → Front A) → ℕ → List ℕ → Front (List A)
each_at item_at zero bytes = Some ([], bytes)
each_at item_at (suc n) bytes = do
  first ← item_at bytes
  others ← each_at item_at n first.1
  Some (first.0 ∷ others.0, others.1)

-- a list behind its length
abbrev pub list_at : {A : Type 0} → Width → (List ℕ → Front A) → List ℕ → Front (List A)
list_at w item_at bytes = do
  n ← number_at w bytes
  each_at item_at n.0 n.1

-- what stands in front, where nothing follows it
abbrev pub whole : {A : Type 0} → Front A → Option A
whole None = None
whole (Some found) = if length found.1 == 0 then Some found.0 else None
