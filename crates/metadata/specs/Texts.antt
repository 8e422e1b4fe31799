-- Texts in a set: which one has.
use Rattle.std.specs.Prelude.{ℕ, Bool, List}
use Rattle.std.specs.List.{list_any}
use Rattle.std.specs.Cmp.Lexicographic.{slice_cmp}
use Rattle.std.specs.Ordering.{is_eq, nat_cmp}

-- two texts are one, by their order
abbrev pub is_text : List ℕ → List ℕ → Bool
is_text a b = is_eq (slice_cmp nat_cmp a b)

-- the text is one of these
abbrev pub is_among : List (List ℕ) → List ℕ → Bool
is_among texts text = list_any (is_text text) texts
