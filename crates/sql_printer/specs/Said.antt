-- What a token says: which of the signs and reserved words it is, or a name, a string, a number or a fraction.
use Rattle.std.specs.Prelude.{ℕ, List, [], ◌∷◌}

pub data Said : Type 0 where
  -- a sign or a reserved word, by the number of its kind
  Word : ℕ → Said
  -- in lower case
  Named : List ℕ → Said
  Text : List ℕ → Said
  -- one past 2 ^ 127 stands for all numbers that are longer
  Number : ℕ → Said
  -- whatever it is
  Fraction : Said

-- one word or sign
abbrev pub word : ℕ → List Said
word kind = Word kind ∷ []

abbrev pub named : List ℕ → List Said
named name = Named name ∷ []

abbrev pub one : Said → List Said
one said = said ∷ []
