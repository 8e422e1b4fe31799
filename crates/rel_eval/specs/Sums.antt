-- A sum in two words.
use Rattle.std.specs.Prelude.{ℤ, pos, ◌+ℤ◌, ◌*ℤ◌, ◌^◌}
use Rattle.vdb_base.specs.declared.value.Value.{Value}
use Rattle.vdb_base.specs.declared.value.Value.TheVariants.{Null, Bool as Truth, Num, Str}
use Rattle.rel_eval.specs.declared.sum.Sum.{Sum}

-- how much it is
abbrev pub amount : Sum → ℤ
amount sum = sum.low +ℤ (sum.carries *ℤ pos (2 ^ 128))

-- what a value adds to a sum
abbrev pub number_in : Value → ℤ
number_in (Num n) = n
number_in Null = pos 0
number_in (Truth b) = pos 0
number_in (Str s) = pos 0
