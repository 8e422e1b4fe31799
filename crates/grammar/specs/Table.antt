-- Grammars as tables.
use Rattle.std.specs.Prelude.{ℕ, Bool, List, [], ◌∷◌, slice_index_or}
use Rattle.std.specs.Borrow.{Bor}
use Rattle.grammar.specs.declared.table.Item.{Item}
use Rattle.grammar.specs.declared.table.Rule.{Rule}
use Rattle.grammar.specs.declared.table.Rule.TheVariants as rule

-- What a symbol stands for: a token of one of some kinds, an action, a guard against tokens of some kinds, or one of its
-- alternatives. A choice's weight, whether it is solid, and its rank serve the tests of the table alone.
pub data Shape : Type 0 where
  Token : List ℕ → Shape
  Action : Shape
  Unless : List ℕ → Shape
  Choice : ℕ → Bool → ℕ → List (List Item) → Shape

-- the shape of each symbol, by its number
abbrev pub Rules : Type 0
Rules = List Shape

-- a number past the table's end is an action
abbrev pub rule_of : Rules → ℕ → Shape
rule_of g n = slice_index_or g n Action

-- the alternatives, without where they lie in memory
abbrev pub items_of : List (Bor (List Item)) → List (List Item)
items_of [] = []
items_of (p ∷ ps) = p.now ∷ items_of ps

-- a rule of the code, without where its parts lie in memory
abbrev pub shape_of : Rule → Shape
shape_of (rule.Token kinds) = Token kinds.now
shape_of rule.Action = Action
shape_of (rule.Unless kinds) = Unless kinds.now
shape_of (rule.Choice weight solid rank alternatives) = Choice weight solid rank (items_of alternatives.now)

abbrev pub shapes : List Rule → Rules
shapes [] = []
shapes (r ∷ rs) = shape_of r ∷ shapes rs
