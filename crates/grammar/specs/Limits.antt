-- Where symbols stand, and the limits on it.
use Rattle.std.specs.Prelude.{ℕ, Bool, List, [], ◌∷◌, ◌+◌, ◌&&◌, nat_lt, nat_le, min}
use Rattle.grammar.specs.declared.table.Item.{Item}
use Rattle.grammar.specs.declared.table.Place.{Place}
use Rattle.grammar.specs.declared.table.Place.TheVariants.{Same, Deeper, First, Next}
use Rattle.grammar.specs.declared.machine.Symbol.{Symbol}

-- levels of nesting
abbrev pub max_depth : ℕ
max_depth = 64

-- elements of a counted list
abbrev pub max_count : ℕ
max_count = 64

-- tokens of a text
abbrev pub max_tokens : ℕ
max_tokens = 65536

-- one level deeper; one more than the limit stands for all that is deeper
abbrev pub depth_of : Place → ℕ → ℕ
depth_of Same depth = depth
depth_of Deeper depth = min (depth + 1) (max_depth + 1)
depth_of First depth = depth
depth_of Next depth = depth

-- the number of an element in its counted list
abbrev pub count_of : Place → ℕ → ℕ
count_of Same count = count
count_of Deeper count = count
count_of First count = 1
count_of Next count = min (count + 1) (max_count + 1)

-- an item where a symbol stood
abbrev pub child : Symbol → Item → Symbol
child s i = record { id = i.symbol; depth = depth_of i.place s.depth; count = count_of i.place s.count }

abbrev pub children : Symbol → List Item → List Symbol
children s [] = []
children s (i ∷ is) = child s i ∷ children s is

-- whether a token may be read as the symbol, after `pos` others
abbrev pub is_within : ℕ → Symbol → Bool
is_within pos s = nat_lt pos max_tokens && (nat_le s.depth max_depth && nat_le s.count max_count)
