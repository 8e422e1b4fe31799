-- What the text of a field says in a column.
use Rattle.std.specs.Prelude.{ℕ, ◌^◌, Bool, true, false, ◌&&◌, ◌||◌, ◌==◌, nat_lt, if◌then◌else◌, ℤ, List, [], ◌∷◌, length, reverse, codes, Option, Some, None}
use Rattle.std.specs.Str.{is_utf8, all_ascii_digits, str_to_ascii_lowercase}
use Rattle.std.specs.Str.Parse.{without_leading_sign, signed_digits_value}
use Rattle.vdb_base.specs.declared.value.Ty.{Ty}
use Rattle.vdb_base.specs.declared.value.Ty.TheVariants as ty
use Rattle.vdb_base.specs.declared.value.Value.{Value}
use Rattle.vdb_base.specs.declared.value.Value.TheVariants.{Null, Bool as Truth, Num, Str}
use Rattle.vdb_model.specs.declared.table.ColumnDef.{ColumnDef}
use Rattle.vdb_model.specs.Defs.{same_name}
use Rattle.vdb_model.specs.Number.{extent}
use Rattle.vdb_model.specs.World.{takes_cell}

-- a text from its first byte on that is no space
abbrev pub after_spaces : List ℕ → List ℕ
after_spaces [] = []
after_spaces (b ∷ bs) = if b == 32 then after_spaces bs else b ∷ bs

-- a text without the spaces around it
abbrev pub unspaced : List ℕ → List ℕ
unspaced text = reverse (after_spaces (reverse (after_spaces text)))

-- two texts are one in lower case
abbrev pub same_folded : List ℕ → List ℕ → Bool
same_folded a b = same_name (str_to_ascii_lowercase a) (str_to_ascii_lowercase b)

abbrev pub says_true : List ℕ → Bool
says_true text = same_folded (codes "true") text || same_folded (codes "t") text || same_folded (codes "1") text

abbrev pub says_false : List ℕ → Bool
says_false text = same_folded (codes "false") text || same_folded (codes "f") text || same_folded (codes "0") text

-- the boolean that a text says
abbrev pub truth_of : List ℕ → Option Bool
truth_of text = if says_true text then Some true else if says_false text then Some false else None

-- an optional sign, and one digit or more
abbrev pub is_numeral : List ℕ → Bool
is_numeral text = nat_lt 0 (length (without_leading_sign text)) && all_ascii_digits (without_leading_sign text)

abbrev pub within_128_bits : ℤ → Bool
within_128_bits n = nat_lt (extent n) (2 ^ 127)

-- the number of 128 bits that a text says
abbrev pub number_of : List ℕ → Option ℤ
number_of text = if is_numeral text && within_128_bits (signed_digits_value 10 text) then Some (signed_digits_value 10 text) else None

abbrev pub truth_value : Option Bool → Option Value
truth_value None = None
truth_value (Some b) = Some (Truth b)

abbrev pub number_value : Option ℤ → Option Value
number_value None = None
number_value (Some n) = Some (Num n)

-- the value that a field with bytes says for a type; spaces around a boolean or a number mean nothing
abbrev pub said : Ty → List ℕ → Option Value
said ty.Boolean field = truth_value (truth_of (unspaced field))
said ty.Integer field = number_value (number_of (unspaced field))
said ty.Long field = number_value (number_of (unspaced field))
said ty.BigInteger field = number_value (number_of (unspaced field))
said ty.Str field = if is_utf8 field then Some (Str field) else None

-- a field without bytes is NULL
abbrev pub value_of : Ty → List ℕ → Option Value
value_of t field = if length field == 0 then Some Null else said t field

abbrev pub if_taken : ColumnDef → Option Value → Option Value
if_taken column None = None
if_taken column (Some v) = if takes_cell column v then Some v else None

-- the cell of a column, or none where the field says nothing that the column takes
abbrev pub cell_of : ColumnDef → List ℕ → Option Value
cell_of column field = if_taken column (value_of column.ty field)
