-- Whether the next token is taken, where None is the end of the text.
use Rattle.std.specs.Prelude.{ℕ, Bool, false, not, List, [], ◌∷◌, ◌&&◌, Option, Some, None}
use Rattle.grammar.specs.declared.table.Item.{Item}
use Rattle.grammar.specs.declared.machine.Symbol.{Symbol}
use Rattle.grammar.specs.Derivation.{has}
use Rattle.grammar.specs.Limits.{child, is_within}
use Rattle.grammar.specs.Table.{Rules, Shape, Token, Action, Unless, Choice, rule_of}

-- whether a guard stops before the token, or at the end
abbrev pub stops : List ℕ → Option ℕ → Bool
stops kinds None = false
stops kinds (Some t) = has kinds t

-- whether the token is read as a symbol of these kinds
abbrev pub takes : List ℕ → ℕ → Symbol → Option ℕ → Bool
takes kinds pos s None = false
takes kinds pos s (Some t) = is_within pos s && has kinds t

-- whether a symbol is one for tokens that doesn't take this one
abbrev pub refuses : Shape → ℕ → Symbol → Option ℕ → Bool
refuses (Token kinds) pos s t = not (takes kinds pos s t)
refuses Action pos s t = false
refuses (Unless kinds) pos s t = false
refuses (Choice weight solid rank ps) pos s t = false

-- whether an alternative begins with a token symbol that doesn't read the token
abbrev pub is_barred : Rules → ℕ → Symbol → List Item → Option ℕ → Bool
is_barred g pos s [] t = false
is_barred g pos s (i ∷ is) t = refuses (rule_of g i.symbol) pos (child s i) t
