-- Options: which count where, which values they take, and what they say. Every other option is read and ignored.
use Rattle.std.specs.Prelude.{ℕ, Bool, true, false, not, ◌&&◌, ◌==◌, nat_le, min, if◌then◌else◌, List, [], ◌∷◌, length, codes, Option, Some, None, pos, negsuc, ℤ}
use Rattle.std.specs.List.{list_any, list_all, slice_split}
use Rattle.std.specs.Option.{is_some, unwrap_or}
use Rattle.std.specs.Str.{str_to_ascii_lowercase}
use Rattle.vdb_base.specs.declared.value.Value.TheVariants.{Null, Bool as Truth, Num, Str}
use Rattle.vdb_model.specs.declared.reply.DeployFault.TheVariants.{BadOption}
use Rattle.vdb_model.specs.declared.source.Caps.{Caps}
use Rattle.vdb_model.specs.Defs.{same_name}
use Rattle.sql_reader.specs.declared.tree.expr.Constant.{Constant}
use Rattle.sql_reader.specs.declared.tree.expr.Constant.TheVariants as constant
use Rattle.sql_tokens.specs.Values.{decimal}
use Rattle.vdb_ddl.specs.declared.tree.Setting.{Setting}
use Rattle.metadata.specs.declared.options.Owner.{Owner}
use Rattle.metadata.specs.declared.options.Owner.TheVariants.{Server, Table, Column, View}
use Rattle.metadata.specs.Tests.{Test}

-- UPDATABLE: TRUE or FALSE, as a word or as a string in any case

abbrev pub is_spelled : List ℕ → List ℕ → Bool
is_spelled word s = same_name (str_to_ascii_lowercase s) word

abbrev pub spelled_truth : List ℕ → Option Bool
spelled_truth s = if is_spelled (codes "true") s then Some true else if is_spelled (codes "false") s then Some false else None

abbrev pub truth_of : Constant → Option Bool
truth_of (constant.Value Null) = None
truth_of (constant.Value (Truth b)) = Some b
truth_of (constant.Value (Num n)) = None
truth_of (constant.Value (Str s)) = spelled_truth s
truth_of constant.Fraction = None
truth_of constant.TooLong = None

-- NAMEINSOURCE: a string of 1 to 64 bytes without NUL

abbrev pub is_no_nul : ℕ → Bool
is_no_nul b = not (b == 0)

abbrev pub is_source_name : List ℕ → Bool
is_source_name s = nat_le 1 (length s) && nat_le (length s) 64 && list_all is_no_nul s

abbrev pub source_name_of : Constant → Option (List ℕ)
source_name_of (constant.Value Null) = None
source_name_of (constant.Value (Truth b)) = None
source_name_of (constant.Value (Num n)) = None
source_name_of (constant.Value (Str s)) = if is_source_name s then Some s else None
source_name_of constant.Fraction = None
source_name_of constant.TooLong = None

-- MaxInCriteriaSize: a numeral or a string of digits, from 1 to 1000

abbrev pub is_digit : ℕ → Bool
is_digit b = nat_le 48 b && nat_le b 57

abbrev pub are_digits : List ℕ → Bool
are_digits s = nat_le 1 (length s) && list_all is_digit s

abbrev pub in_size : ℕ → Option ℕ
in_size n = if nat_le 1 n && nat_le n 1000 then Some n else None

abbrev pub numeral_size : ℤ → Option ℕ
numeral_size (pos n) = in_size n
numeral_size (negsuc n) = None

abbrev pub in_size_of : Constant → Option ℕ
in_size_of (constant.Value Null) = None
in_size_of (constant.Value (Truth b)) = None
in_size_of (constant.Value (Num n)) = numeral_size n
in_size_of (constant.Value (Str s)) = if are_digits s then in_size (decimal 0 s) else None
in_size_of constant.Fraction = None
in_size_of constant.TooLong = None

-- Without: a string of one or more of these names, with one comma and no blank between two

abbrev pub capabilities : List (List ℕ)
capabilities = codes "CompareCriteriaEquals" ∷ codes "CompareCriteriaOrdered" ∷ codes "InCriteria" ∷ codes "IsNullCriteria" ∷ codes "LikeCriteria"
    ∷ codes "OrCriteria" ∷ codes "NotCriteria" ∷ codes "InnerJoins" ∷ codes "SelectDistinct" ∷ codes "OrderBy" ∷ codes "RowLimit"
    ∷ codes "AggregatesCountStar" ∷ codes "WideConstants" ∷ []

abbrev pub is_in : List (List ℕ) → List ℕ → Bool
is_in names name = list_any (same_name name) names

abbrev pub is_comma : ℕ → Bool
is_comma b = b == 44

-- the parts of a text between its commas
abbrev pub between_commas : List ℕ → List (List ℕ)
between_commas s = slice_split is_comma s

abbrev pub listed_names : List ℕ → Option (List (List ℕ))
listed_names s = if list_all (is_in capabilities) (between_commas s) then Some (between_commas s) else None

abbrev pub without_of : Constant → Option (List (List ℕ))
without_of (constant.Value Null) = None
without_of (constant.Value (Truth b)) = None
without_of (constant.Value (Num n)) = None
without_of (constant.Value (Str s)) = listed_names s
without_of constant.Fraction = None
without_of constant.TooLong = None

-- an option that counts: its name, and the values that it takes
pub record Counts : Type 0 where
  pub name : List ℕ
  pub takes : Constant → Bool

abbrev pub updatable : Counts
updatable = record { name = codes "updatable"; takes = λ c. is_some (truth_of c) }

abbrev pub name_in_source : Counts
name_in_source = record { name = codes "nameinsource"; takes = λ c. is_some (source_name_of c) }

abbrev pub max_in_criteria_size : Counts
max_in_criteria_size = record { name = codes "maxincriteriasize"; takes = λ c. is_some (in_size_of c) }

abbrev pub without_capabilities : Counts
without_capabilities = record { name = codes "without"; takes = λ c. is_some (without_of c) }

-- which options count where

abbrev pub counting : Owner → List Counts
counting Server = max_in_criteria_size ∷ without_capabilities ∷ []
counting Table = updatable ∷ name_in_source ∷ []
counting Column = name_in_source ∷ []
counting View = updatable ∷ []

-- an option that doesn't count takes each value
abbrev pub is_taken_of : List Counts → Setting → Bool
is_taken_of [] setting = true
is_taken_of (option ∷ options) setting = if same_name setting.name.text option.name then option.takes setting.value.constant else is_taken_of options setting

abbrev pub is_taken : Owner → Setting → Bool
is_taken owner setting = is_taken_of (counting owner) setting

-- 35: each value is tested, and the first that isn't taken is refused at its place
abbrev pub refused_option : Owner → List Setting → Test
refused_option owner [] = None
refused_option owner (setting ∷ settings) = if is_taken owner setting then refused_option owner settings else Some (BadOption setting.value.at)

-- what an option says: of those that stand there the last counts, and where there is none what holds without it
abbrev pub said : {A : Type 0} → List ℕ → (Constant → A) → A → List Setting → A
said name read so_far [] = so_far
said name read so_far (setting ∷ settings) = said name read (if same_name setting.name.text name then read setting.value.constant else so_far) settings

abbrev pub truth_or_true : Constant → Bool
truth_or_true constant = unwrap_or (truth_of constant) true

-- a table or view can be updated where nothing says otherwise
abbrev pub is_updatable : List Setting → Bool
is_updatable settings = said (codes "updatable") truth_or_true true settings

abbrev pub source_or : List ℕ → Constant → List ℕ
source_or own constant = unwrap_or (source_name_of constant) own

-- the name at the source with one option more
abbrev pub next_source : List ℕ → List ℕ → Setting → List ℕ
next_source own source setting = if same_name setting.name.text (codes "nameinsource") then source_or own setting.value.constant else source

-- a table or column has its own name at the source where nothing says otherwise
abbrev pub source_of : List ℕ → List Setting → List ℕ
source_of own settings = said (codes "nameinsource") (source_or own) own settings

abbrev pub keeps : List (List ℕ) → List ℕ → Bool → Bool
keeps names name can = can && not (is_in names name)

abbrev pub keeps_in_max : List (List ℕ) → ℕ → ℕ
keeps_in_max names in_max = if is_in names (codes "InCriteria") then 0 else in_max

-- capabilities without those of these names; writing isn't among them
abbrev pub without : List (List ℕ) → Caps → Caps
without names caps = record {
  equals = keeps names (codes "CompareCriteriaEquals") caps.equals;
  ordered = keeps names (codes "CompareCriteriaOrdered") caps.ordered;
  in_max = keeps_in_max names caps.in_max;
  is_null = keeps names (codes "IsNullCriteria") caps.is_null;
  like = keeps names (codes "LikeCriteria") caps.like;
  or = keeps names (codes "OrCriteria") caps.or;
  not = keeps names (codes "NotCriteria") caps.not;
  joins = keeps names (codes "InnerJoins") caps.joins;
  distinct = keeps names (codes "SelectDistinct") caps.distinct;
  order = keeps names (codes "OrderBy") caps.order;
  limit = keeps names (codes "RowLimit") caps.limit;
  count_star = keeps names (codes "AggregatesCountStar") caps.count_star;
  wide = keeps names (codes "WideConstants") caps.wide;
  writes = caps.writes;
}

-- at most so many constants in an IN
abbrev pub with_in_size : ℕ → Caps → Caps
with_in_size n caps = record caps { in_max = min n caps.in_max }

abbrev pub in_size_said : Caps → Option ℕ → Caps
in_size_said caps None = caps
in_size_said caps (Some n) = with_in_size n caps

abbrev pub sized_by : Caps → Constant → Caps
sized_by caps constant = in_size_said caps (in_size_of constant)

-- with one option more
abbrev pub next_sized : Caps → Caps → Setting → Caps
next_sized caps made setting = if same_name setting.name.text (codes "maxincriteriasize") then sized_by caps setting.value.constant else made

abbrev pub without_said : Caps → Option (List (List ℕ)) → Caps
without_said caps None = caps
without_said caps (Some names) = without names caps

abbrev pub narrowed_by : Caps → Constant → Caps
narrowed_by caps constant = without_said caps (without_of constant)

abbrev pub sized : List Setting → Caps → Caps
sized settings caps = said (codes "maxincriteriasize") (sized_by caps) caps settings

abbrev pub narrowed : List Setting → Caps → Caps
narrowed settings caps = said (codes "without") (narrowed_by caps) caps settings

-- a connection's capabilities, lowered by the options of its server
abbrev pub lowered : List Setting → Caps → Caps
lowered settings caps = narrowed settings (sized settings caps)
