-- The texts of names.
use Rattle.std.specs.Prelude.{ℕ, Bool, false, ◌&&◌, ◌||◌, ◌==◌, nat_le, if◌then◌else◌, List, [], ◌∷◌, ◌++◌}
use Rattle.std.specs.List.{list_all}
use Rattle.vdb_base.specs.Print.{quoted}

-- a letter or `_`
abbrev pub is_letter : ℕ → Bool
is_letter b = (nat_le 65 b && nat_le b 90) || (nat_le 97 b && nat_le b 122) || b == 95

abbrev pub is_word_byte : ℕ → Bool
is_word_byte b = is_letter b || (nat_le 48 b && nat_le b 57)

-- a letter or `_`, and then letters, digits and `_`
abbrev pub is_word : List ℕ → Bool
is_word [] = false
is_word (b ∷ bs) = is_letter b && list_all is_word_byte bs

-- bare where it has the form of a word, and else in quotes, 34
abbrev pub name_text : List ℕ → List ℕ
name_text name = if is_word name then name else quoted 34 name

-- a name within another
abbrev pub dotted : List ℕ → List ℕ → List ℕ
dotted outer name = name_text outer ++ 46 ∷ name_text name

abbrev pub column_text : List ℕ → List ℕ → List ℕ → List ℕ
column_text schema table name = dotted schema table ++ 46 ∷ name_text name
