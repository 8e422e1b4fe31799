-- An order of logs: at the first difference the earlier action, or the lower number; a log that ends there comes first.
use Rattle.std.specs.Prelude.{Bool, true, false, List, [], ◌∷◌, ◌==◌, ◌&&◌, ◌||◌, nat_lt}
use Rattle.grammar.specs.declared.machine.Event.{Event}

abbrev pub is_same : Event → Event → Bool
is_same x y = x.at == y.at && x.action == y.action

abbrev pub is_before : Event → Event → Bool
is_before x y = nat_lt x.at y.at || (x.at == y.at && nat_lt x.action y.action)

abbrev pub is_up_to : List Event → List Event → Bool
is_up_to [] ys = true
is_up_to (x ∷ xs) [] = false
is_up_to (x ∷ xs) (y ∷ ys) = is_before x y || (is_same x y && is_up_to xs ys)
