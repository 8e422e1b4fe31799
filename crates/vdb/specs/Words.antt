-- The words of the command line.
use Rattle.std.specs.Prelude.{ℕ, Bool, false, not, ◌&&◌, ◌==◌, nat_le, nat_lt, if◌then◌else◌, List, [], ◌∷◌, length, codes, Option, Some, None, Result, Ok, Err}
use Rattle.std.specs.List.{list_all}
use Rattle.std.specs.Option.{option_map}
use Rattle.std.specs.Str.{str_to_ascii_lowercase}
use Rattle.vdb_model.specs.declared.table.Kind.TheVariants.{Csv}
use Rattle.vdb_model.specs.Defs.{same_name}
use Rattle.vdb.specs.declared.words.Conn.{Conn}
use Rattle.vdb.specs.declared.words.Setup.{Setup}
use Rattle.vdb.specs.declared.words.Command.TheVariants.{Run}

abbrev pub begin_with : ℕ → Option (List ℕ × List ℕ) → Option (List ℕ × List ℕ)
begin_with b parts = option_map (λ p. (b ∷ p.0, p.1)) parts

-- what stands before and after the first of a byte
abbrev pub split_at_byte : ℕ → List ℕ → Option (List ℕ × List ℕ)
split_at_byte mark [] = None
split_at_byte mark (b ∷ bs) = if b == mark then Some ([], bs) else begin_with b (split_at_byte mark bs)

-- one byte or more, of which the first is no `-`
abbrev pub is_path : List ℕ → Bool
is_path [] = false
is_path (b ∷ bs) = not (b == 45)

abbrev pub is_printable : ℕ → Bool
is_printable b = nat_le 32 b && nat_le b 126

-- 1 to 64 bytes of printable ASCII
abbrev pub is_conn_name : List ℕ → Bool
is_conn_name name = nat_lt 0 (length name) && nat_le (length name) 64 && list_all is_printable name

-- KIND:PATH behind the name
abbrev pub conn_with : List ℕ → Option (List ℕ × List ℕ) → Option Conn
conn_with name None = None
conn_with name (Some parts) =
    if is_conn_name name && same_name parts.0 (codes "csv") && nat_lt 0 (length parts.1)
    then Some (record { name = str_to_ascii_lowercase name; kind = Csv; path = parts.1 }) else None

abbrev pub conn_behind : Option (List ℕ × List ℕ) → Option Conn
conn_behind None = None
conn_behind (Some parts) = conn_with parts.0 (split_at_byte 58 parts.1)

-- NAME=KIND:PATH
abbrev pub conn_of : List ℕ → Option Conn
conn_of word = if is_path word then conn_behind (split_at_byte 61 word) else None

abbrev pub setup_with : List ℕ → Option Conn → List (List ℕ) → Result Setup ℕ
setup_with vdb None more = Err 3
setup_with vdb (Some conn) [] = Ok (record { command = Run; vdb = vdb; conns = conn ∷ [] })
setup_with vdb (Some conn) (word ∷ words) = Err 4

abbrev pub conns_of : List ℕ → List (List ℕ) → Result Setup ℕ
conns_of vdb [] = Err 3
conns_of vdb (word ∷ words) = setup_with vdb (conn_of word) words

abbrev pub vdb_of : List (List ℕ) → Result Setup ℕ
vdb_of [] = Err 2
vdb_of (word ∷ words) = if is_path word then conns_of word words else Err 2

-- `run VDB CONN`, or the place, from 1, of the first word that is wrong or missing
abbrev pub setup_of : List (List ℕ) → Result Setup ℕ
setup_of [] = Err 1
setup_of (word ∷ words) = if same_name word (codes "run") then vdb_of words else Err 1
