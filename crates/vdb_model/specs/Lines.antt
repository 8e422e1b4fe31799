-- Lines, and the texts of numbers in them.
use Rattle.std.specs.Prelude.{ℕ, List, [], ◌∷◌, ◌++◌, decimal}

-- kept folded, since a numeral's text would unfold
unfoldable pub number_text : ℕ → List ℕ
number_text n = decimal n

abbrev pub line : List ℕ → List ℕ
line text = text ++ 10 ∷ []

-- a space and the text, or nothing where there is none
abbrev pub spaced : List ℕ → List ℕ
spaced [] = []
spaced (b ∷ bs) = 32 ∷ b ∷ bs

-- parts with one space between them
abbrev pub parts : List ℕ → List (List ℕ) → List ℕ
parts first [] = first
parts first (next ∷ more) = first ++ 32 ∷ parts next more

-- a word, a number, and what is said of it
abbrev pub numbered : List ℕ → ℕ → List ℕ → List ℕ
numbered word n text = line (word ++ 32 ∷ number_text n ++ spaced text)
