-- What the tokens of parts in turn say, by what each part says.
use Rattle.std.specs.Prelude.{ℕ, Bool, true, false, List, [], ◌∷◌, ◌++◌}
use Rattle.sql_reader.specs.Symbols as symbol
use Rattle.sql_printer.specs.Said.{Said, word}

-- nothing between them
abbrev pub all : {A : Type 0} → (A → List Said) → List A → List Said
all part [] = []
all part (x ∷ xs) = part x ++ all part xs

-- a comma before each
abbrev pub more : {A : Type 0} → (A → List Said) → List A → List Said
more part [] = []
more part (x ∷ xs) = word symbol.COMMA ++ part x ++ more part xs

-- some words before the first and a comma before each other; nothing where there is none
abbrev pub listed : {A : Type 0} → List Said → (A → List Said) → List A → List Said
listed words part [] = []
listed words part (x ∷ xs) = words ++ part x ++ more part xs

-- those that are left, the first of them or not
abbrev pub left : {A : Type 0} → List Said → (A → List Said) → Bool → List A → List Said
left words part true xs = listed words part xs
left words part false xs = more part xs

-- what a part says that is known by what it says
abbrev pub itself : List Said → List Said
itself said = said
