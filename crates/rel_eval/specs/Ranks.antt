-- Numbers that mostly tell the order of values.
use Rattle.std.specs.Prelude.{ℤ, pos, negsuc, int_lt, if◌then◌else◌}
use Rattle.vdb_base.specs.declared.value.Value.{Value}
use Rattle.vdb_base.specs.declared.value.Value.TheVariants.{Null, Bool as Truth, Num, Str}

-- from -2^62 to 2^62; what lies past an end stands at it
abbrev pub clamped : ℤ → ℤ
clamped n = if int_lt n (negsuc 4611686018427387903) then negsuc 4611686018427387903 else (if int_lt (pos 4611686018427387904) n then pos 4611686018427387904 else n)

-- NULL before what is TRUE or FALSE, then numbers, then texts: of two values with different ranks the one with the lesser
-- rank is the lesser
abbrev pub rank_of : Value → ℤ
rank_of Null = negsuc 9223372036854775807
rank_of (Truth b) = negsuc 9223372036854775806
rank_of (Num n) = clamped n
rank_of (Str s) = pos 9223372036854775807
