-- How far a comment, a quotation or a number goes.
use Rattle.std.specs.Prelude.{ℕ, Bool, ◌&&◌, ◌||◌, ◌==◌, ◌+◌, not, if◌then◌else◌, List, [], ◌∷◌, Option, Some, None, drop, slice_index}
use Rattle.std.specs.List.{prefix_len}
use Rattle.sql_tokens.specs.Bytes.{is_digit}

abbrev pub further : ℕ → Option ℕ → Option ℕ
further k None = None
further k (Some n) = Some (k + n)

-- The length of the rest of a quotation, if it is closed: a quote closes it unless it is the first of two. Shut is
-- right after a quote that closes it or is the first of two.
abbrev pub quoted : ℕ → Bool → List ℕ → Option ℕ
quoted q shut [] = if shut then Some 0 else None
quoted q shut (b ∷ bs) = if shut && not (b == q) then Some 0 else further 1 (quoted q (not shut && b == q) bs)

-- The length up to and with the first `*/`, if there is one, where a `*` stands before the bytes or not.
abbrev pub commented : Bool → List ℕ → Option ℕ
commented star [] = None
commented star (b ∷ bs) = if star && b == 47 then Some 1 else further 1 (commented (b == 42) bs)

abbrev pub digits : List ℕ → ℕ
digits bs = prefix_len is_digit bs

-- `.` and digits, or 0
abbrev pub fraction : List ℕ → ℕ
fraction bs = let n = digits (drop 1 bs) in if not (slice_index bs 0 == 46) || n == 0 then 0 else 1 + n

-- a sign, or 0
abbrev pub signed : List ℕ → ℕ
signed bs = if slice_index bs 0 == 43 || slice_index bs 0 == 45 then 1 else 0

-- `e` or `E`, an optional sign and digits, or 0
abbrev pub exponent : List ℕ → ℕ
exponent bs =
    let s = 1 + signed (drop 1 bs) in
    let n = digits (drop s bs) in
    if not (slice_index bs 0 == 101 || slice_index bs 0 == 69) || n == 0 then 0 else s + n
