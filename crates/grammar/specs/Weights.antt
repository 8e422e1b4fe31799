-- How long a table's rules may take to read a token, and to come to an end.
use Rattle.std.specs.Prelude.{ℕ, Bool, true, false, List, [], ◌∷◌, ◌+◌, ◌&&◌, ◌||◌, nat_lt, cond}
use Rattle.grammar.specs.declared.table.Item.{Item}
use Rattle.grammar.specs.Table.{Rules, Shape, Token, Action, Unless, Choice, rule_of}

-- how much a symbol opens by itself
abbrev pub weight_of : Shape → ℕ
weight_of (Token kinds) = 0
weight_of Action = 1
weight_of (Unless kinds) = 1
weight_of (Choice weight solid rank ps) = weight

-- whether a symbol reads a token in any case
abbrev pub is_solid : Shape → Bool
is_solid (Token kinds) = true
is_solid Action = false
is_solid (Unless kinds) = false
is_solid (Choice weight solid rank ps) = solid

-- a rule ends by symbols of lower ranks
abbrev pub rank_of : Shape → ℕ
rank_of (Token kinds) = 0
rank_of Action = 0
rank_of (Unless kinds) = 0
rank_of (Choice weight solid rank ps) = rank

-- how much an alternative opens before it reads a token
abbrev pub opening : Rules → List Item → ℕ
opening g [] = 0
opening g (i ∷ is) = weight_of (rule_of g i.symbol) + cond (is_solid (rule_of g i.symbol)) 0 (opening g is)

abbrev pub has_solid : Rules → List Item → Bool
has_solid g [] = false
has_solid g (i ∷ is) = is_solid (rule_of g i.symbol) || has_solid g is

abbrev pub ranks_below : Rules → ℕ → List Item → Bool
ranks_below g rank [] = true
ranks_below g rank (i ∷ is) = nat_lt (rank_of (rule_of g i.symbol)) rank && ranks_below g rank is

abbrev pub all_light : Rules → ℕ → List (List Item) → Bool
all_light g weight [] = true
all_light g weight (p ∷ ps) = nat_lt (opening g p) weight && all_light g weight ps

abbrev pub all_solid : Rules → List (List Item) → Bool
all_solid g [] = true
all_solid g (p ∷ ps) = has_solid g p && all_solid g ps

abbrev pub any_below : Rules → ℕ → List (List Item) → Bool
any_below g rank [] = false
any_below g rank (p ∷ ps) = ranks_below g rank p || any_below g rank ps
