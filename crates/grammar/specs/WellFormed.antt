-- Tables by which texts can be read: each rule reads a token after a few steps, and comes to an end.
use Rattle.std.specs.Prelude.{Bool, true, false, List, [], ◌∷◌, ◌≡◌, ◌<◌, ◌&&◌, not, length, take, if◌then◌else◌, Option, Some, None}
use Rattle.grammar.specs.declared.table.Cause.{Cause}
use Rattle.grammar.specs.declared.table.Cause.TheVariants.{NoKind, Weight, Solid, Rank}
use Rattle.grammar.specs.declared.table.IllFormed.{IllFormed}
use Rattle.grammar.specs.Weights.{all_light, all_solid, any_below}
use Rattle.grammar.specs.Table.{Rules, Shape, Token, Action, Unless, Choice, rule_of}

-- what is wrong with a rule
abbrev pub cause_of : Rules → Shape → Option Cause
cause_of g (Token []) = Some NoKind
cause_of g (Token (k ∷ ks)) = None
cause_of g Action = None
cause_of g (Unless kinds) = None
cause_of g (Choice weight solid rank ps) =
    if not (all_light g weight ps) then Some Weight else
    if solid && not (all_solid g ps) then Some Solid else
    if any_below g rank ps then None else Some Rank

abbrev pub is_right : Option Cause → Bool
is_right None = true
is_right (Some cause) = false

abbrev pub all_right : Rules → List Shape → Bool
all_right g [] = true
all_right g (s ∷ ss) = is_right (cause_of g s) && all_right g ss

abbrev pub is_well_formed : Rules → Bool
is_well_formed g = all_right g g

-- the first rule that is wrong, and what is wrong with it
pub record IsFirstIll (g : Rules) (fault : IllFormed) : Type 0 where
  pub there : fault.rule < length g
  pub wrong : cause_of g (rule_of g fault.rule) ≡ Some fault.cause
  pub before : all_right g (take fault.rule g) ≡ true
