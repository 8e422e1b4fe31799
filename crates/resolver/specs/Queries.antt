-- What a whole query gives: its selects, and ORDER BY, LIMIT and OFFSET last.
use Rattle.std.specs.Prelude.{ℕ, ◌+◌, ◌-◌, Bool, true, false, ◌&&◌, nat_le, if◌then◌else◌, List, [], ◌∷◌, ◌++◌, length, Option, Some, None, Result, Ok, Err, ℤ, pos, negsuc}
use Rattle.vdb_base.specs.declared.value.Ty.{Ty}
use Rattle.vdb_base.specs.declared.value.Value.{Value}
use Rattle.vdb_base.specs.declared.value.Value.TheVariants.{Null, Bool as Truth, Num, Str}
use Rattle.vdb_model.specs.declared.rel.Key as model
use Rattle.vdb_model.specs.declared.rel.Ranked.{Ranked}
use Rattle.vdb_model.specs.declared.reply.Refusal.{Refusal}
use Rattle.vdb_model.specs.declared.reply.Refusal.TheVariants.{Mismatch, TooWide}
use Rattle.vdb_model.specs.Defined.{Defined}
use Rattle.vdb_model.specs.Defs.{same_name}
use Rattle.vdb_model.specs.NameText.{name_text}
use Rattle.sql_reader.specs.declared.tree.expr.Constant.{Constant}
use Rattle.sql_reader.specs.declared.tree.expr.Constant.TheVariants as constant
use Rattle.sql_reader.specs.declared.tree.expr.Literal.{Literal}
use Rattle.sql_reader.specs.declared.tree.name.Name.{Name}
use Rattle.sql_reader.specs.declared.tree.query.Key.{Key}
use Rattle.sql_reader.specs.declared.tree.query.KeyTarget.{KeyTarget}
use Rattle.sql_reader.specs.declared.tree.query.KeyTarget.TheVariants as target
use Rattle.sql_reader.specs.declared.tree.query.Query.{Query}
use Rattle.resolver.specs.declared.selected.Column.{Column}
use Rattle.resolver.specs.declared.selected.Selected.{Selected}
use Rattle.expr_resolver.specs.Scope.{only}
use Rattle.resolver.specs.Selects.{set_walk, union_of}
use Rattle.expr_resolver.specs.Types.{settled}
use Rattle.expr_resolver.specs.Walking.{next}

abbrev pub names_of : List Column → List (List ℕ)
names_of [] = []
names_of (c ∷ cs) = c.name ∷ names_of cs

abbrev pub types_of : List Column → List Ty
types_of [] = []
types_of (c ∷ cs) = settled c.ty ∷ types_of cs

-- where the columns of the name stand, counted on from here
abbrev pub places_of : ℕ → List ℕ → List Column → List ℕ
places_of at name [] = []
places_of at name (c ∷ cs) = if same_name c.name name then at ∷ places_of (at + 1) name cs else places_of (at + 1) name cs

-- the only column of the name
abbrev pub named : List Column → Name → Result ℕ Refusal
named columns name = only (name_text name.text) (places_of 0 name.text columns)

-- a number from 1 to the count
abbrev pub numbered : ℕ → List Column → ℤ → Result ℕ Refusal
numbered at columns (pos n) = if nat_le 1 n && nat_le n (length columns) then Ok (n - 1) else Err (Mismatch at)
numbered at columns (negsuc n) = Err (Mismatch at)

abbrev pub numbered_by : ℕ → List Column → Constant → Result ℕ Refusal
numbered_by at columns (constant.Value Null) = Err (Mismatch at)
numbered_by at columns (constant.Value (Truth b)) = Err (Mismatch at)
numbered_by at columns (constant.Value (Num n)) = numbered at columns n
numbered_by at columns (constant.Value (Str s)) = Err (Mismatch at)
numbered_by at columns constant.Fraction = Err (Mismatch at)
numbered_by at columns constant.TooLong = Err (Mismatch at)

-- a key is the only column of an output name, or one by its number
abbrev pub key_column : List Column → KeyTarget → Result ℕ Refusal
key_column columns (target.Name name) = named columns name
key_column columns (target.Number literal) = numbered_by literal.at columns literal.constant

abbrev pub keys_of : List Column → List Key → List model.Key → Result (List model.Key) Refusal
keys_of columns [] made = Ok made
keys_of columns (k ∷ ks) made = next (key_column columns k.target) (λ at. keys_of columns ks (made ++ record { column = at; desc = k.descending } ∷ []))

abbrev pub counted : ℕ → ℤ → Result ℕ Refusal
counted at (pos n) = if nat_le n 9223372036854775807 then Ok n else Err (TooWide at)
counted at (negsuc n) = Err (TooWide at)

abbrev pub counted_by : ℕ → Constant → Result ℕ Refusal
counted_by at (constant.Value Null) = Err (TooWide at)
counted_by at (constant.Value (Truth b)) = Err (TooWide at)
counted_by at (constant.Value (Num n)) = counted at n
counted_by at (constant.Value (Str s)) = Err (TooWide at)
counted_by at constant.Fraction = Err (TooWide at)
counted_by at constant.TooLong = Err (TooWide at)

-- LIMIT and OFFSET are at most 9,223,372,036,854,775,807, and are refused at the numeral
abbrev pub count_of : Option Literal → Result (Option ℕ) Refusal
count_of None = Ok None
count_of (Some literal) = next (counted_by literal.at literal.constant) (λ n. Ok (Some n))

abbrev pub or_zero : Option ℕ → ℕ
or_zero None = 0
or_zero (Some n) = n

abbrev pub ranked : Selected → List model.Key → Option ℕ → Option ℕ → Ranked
ranked s keys limit offset = record { rel = union_of s.parts; names = names_of s.columns; tys = types_of s.columns; keys = keys; offset = or_zero offset; limit = limit }

abbrev pub query_walk : Defined → Query → Result Ranked Refusal
query_walk defined q =
    next (set_walk defined q.set) (λ s.
    next (keys_of s.columns q.keys []) (λ keys.
    next (count_of q.limit) (λ limit.
    next (count_of q.offset) (λ offset. Ok (ranked s keys limit offset)))))
