-- AND and OR, one after another.
use Rattle.std.proofs.Common.{◌≡◌, Bool, true, false, ◌&&◌, if◌then◌else◌, List, ◌∷◌, refl}
use Rattle.std.specs.List.{list_any, list_all}
use Rattle.vdb_base.specs.declared.value.Value.{Value}
use Rattle.vdb_base.specs.declared.value.Value.TheVariants.{Null, Bool as Truth}
use Rattle.vdb_model.specs.Logic.{is_true, is_false}

-- AND of what is left, where all before were TRUE or not
abbrev pub all_from : Bool → List Value → Value
all_from all vs = if list_any is_false vs then Truth false else (if all && list_all is_true vs then Truth true else Null)

-- OR of what is left, where all before were FALSE or not
abbrev pub any_from : Bool → List Value → Value
any_from none vs = if list_any is_true vs then Truth true else (if none && list_all is_false vs then Truth false else Null)

pub all_stops : (all : Bool) (v : Value) (vs : List Value) → is_false v ≡ true → all_from all (v ∷ vs) ≡ Truth false
all_stops all v vs e = rw e refl

pub all_goes_on : (all : Bool) (v : Value) (vs : List Value) → is_false v ≡ false → all_from all (v ∷ vs) ≡ all_from (all && is_true v) vs
all_goes_on true v vs e = rw e refl
all_goes_on false v vs e = rw e refl

pub any_stops : (none : Bool) (v : Value) (vs : List Value) → is_true v ≡ true → any_from none (v ∷ vs) ≡ Truth true
any_stops none v vs e = rw e refl

pub any_goes_on : (none : Bool) (v : Value) (vs : List Value) → is_true v ≡ false → any_from none (v ∷ vs) ≡ any_from (none && is_false v) vs
any_goes_on true v vs e = rw e refl
any_goes_on false v vs e = rw e refl

pub ruleset conjunct_steps = (all_stops, all_goes_on)

pub ruleset disjunct_steps = (any_stops, any_goes_on)
