-- What the walk of a whole query gives is typed over the catalog.
use Rattle.std.proofs.Common.{◌≡◌, ℕ, suc, ◌+◌, ◌-◌, Bool, true, false, ◌&&◌, if◌then◌else◌, List, [], ◌∷◌, ◌++◌, length, Ok, ℤ, pos, negsuc, refl, ap, sym, subst, arith}
use Rattle.std.specs.Prelude.{nat_lt, nat_le}
use Rattle.std.specs.List.{AllByRecursion}
use Rattle.std.specs.Cmp.Derive.{both_true}
use Rattle.std.proofs.lemmas.Bool.Decides.{nat_tests}
use Rattle.vdb_base.specs.declared.value.Value.TheVariants as value
use Rattle.vdb_model.specs.declared.rel.Key as model
use Rattle.vdb_model.specs.declared.reply.Refusal.TheVariants.{Mismatch}
use Rattle.vdb_model.specs.Defined.{Defined}
use Rattle.vdb_model.specs.Defs.{same_name}
use Rattle.vdb_model.specs.NameText.{name_text}
use Rattle.vdb_model.specs.WellFormed.{are_placed}
use Rattle.vdb_model.proofs.Ranges.{and_left, and_right}
use Rattle.sql_reader.specs.declared.tree.expr.Constant.{Constant}
use Rattle.sql_reader.specs.declared.tree.expr.Constant.TheVariants as constant
use Rattle.sql_reader.specs.declared.tree.name.Name.{Name}
use Rattle.sql_reader.specs.declared.tree.query.Key.{Key}
use Rattle.sql_reader.specs.declared.tree.query.KeyTarget.{KeyTarget}
use Rattle.sql_reader.specs.declared.tree.query.KeyTarget.TheVariants as target
use Rattle.sql_reader.specs.declared.tree.query.Query.{Query}
use Rattle.resolver.specs.declared.selected.Column.{Column}
use Rattle.resolver.specs.Queries.{names_of, types_of, places_of, named, numbered, numbered_by, key_column, keys_of, count_of, ranked, query_walk}
use Rattle.walk_laws.specs.Typed.{keys_below, IsTypedOver, QueriesAreTyped}
use Rattle.walk_laws.proofs.Gives.{Gives, gives, refuses, gives_any, gives_where, gives_next, gives_only}
use Rattle.walk_laws.proofs.KnownTypes.{agrees_settled}
use Rattle.walk_laws.proofs.TypedFrom.{AllAgree}
use Rattle.walk_laws.proofs.TypedSets.{set_typed}

types_agree : (cs : List Column) → AllAgree cs (types_of cs)
types_agree [] = tt
types_agree (c ∷ cs) = (agrees_settled c.ty, types_agree cs)

types_count : (cs : List Column) → length (types_of cs) ≡ length cs
types_count [] = refl
types_count (c ∷ cs) = ap suc (types_count cs)

names_count : (cs : List Column) → length (names_of cs) ≡ length (types_of cs)
names_count [] = refl
names_count (c ∷ cs) = ap suc (names_count cs)

abbrev IsBelow : ℕ → ℕ → Type 0
IsBelow count at = nat_lt at count ≡ true

below_if : (count : ℕ) (b : Bool) (x : ℕ) (xs : List ℕ) → IsBelow count x → AllByRecursion (IsBelow count) xs → AllByRecursion (IsBelow count) (if b then x ∷ xs else xs)
below_if count true x xs h all = (h, all)
below_if count false x xs h all = all

places_below : (count at : ℕ) (name : List ℕ) (cs : List Column) → at + length cs ≡ count → AllByRecursion (IsBelow count) (places_of at name cs)
places_below count at name [] whole = tt
places_below count at name (c ∷ cs) whole =
    let here : nat_lt at count ≡ true = grind (arith, nat_tests) in
    below_if count (same_name c.name name) at (places_of (at + 1) name cs) here (places_below count (at + 1) name cs (omega arith))

named_below : (columns : List Column) (name : Name) → Gives (named columns name) (IsBelow (length columns))
named_below columns name =
    gives_only (IsBelow (length columns)) (name_text name.text) (places_of 0 name.text columns) (places_below (length columns) 0 name.text columns (omega arith))

number_below : (n count : ℕ) → (nat_le 1 n && nat_le n count) ≡ true → nat_lt (n - 1) count ≡ true
number_below n count h =
    let one : nat_le 1 n ≡ true = and_left (nat_le 1 n) (nat_le n count) h in
    let most : nat_le n count ≡ true = and_right (nat_le 1 n) (nat_le n count) h in
    grind (arith, nat_tests)

numbered_below : (at : ℕ) (columns : List Column) (n : ℤ) → Gives (numbered at columns n) (IsBelow (length columns))
numbered_below at columns (pos n) =
    gives_where (IsBelow (length columns)) (nat_le 1 n && nat_le n (length columns)) (Ok (n - 1)) (Mismatch at)
    (λ h. gives (IsBelow (length columns)) (n - 1) (number_below n (length columns) h))
numbered_below at columns (negsuc n) = refuses _ (Mismatch at)

by_number : (at : ℕ) (columns : List Column) (c : Constant) → Gives (numbered_by at columns c) (IsBelow (length columns))
by_number at columns (constant.Value value.Null) = refuses _ (Mismatch at)
by_number at columns (constant.Value (value.Bool b)) = refuses _ (Mismatch at)
by_number at columns (constant.Value (value.Num n)) = numbered_below at columns n
by_number at columns (constant.Value (value.Str s)) = refuses _ (Mismatch at)
by_number at columns constant.Fraction = refuses _ (Mismatch at)
by_number at columns constant.TooLong = refuses _ (Mismatch at)

key_below : (columns : List Column) (k : KeyTarget) → Gives (key_column columns k) (IsBelow (length columns))
key_below columns (target.Name name) = named_below columns name
key_below columns (target.Number literal) = by_number literal.at columns literal.constant

one_more : (count : ℕ) (keys : List model.Key) (key : model.Key) → keys_below count keys ≡ true → nat_lt key.column count ≡ true → keys_below count (keys ++ key ∷ []) ≡ true
one_more count [] key all h = both_true h refl
one_more count (k ∷ keys) key all h =
    let first = nat_lt k.column count in
    both_true (and_left first (keys_below count keys) all) (one_more count keys key (and_right first (keys_below count keys) all) h)

all_keys_below : (columns : List Column) (ks : List Key) (made : List model.Key) → keys_below (length columns) made ≡ true → Gives (keys_of columns ks made) (λ keys. keys_below (length columns) keys ≡ true)
all_keys_below columns [] made all = gives _ made all
all_keys_below columns (k ∷ ks) made all =
    gives_next (key_below columns k.target)
    (λ at h. all_keys_below columns ks (made ++ record { column = at; desc = k.descending } ∷ []) (one_more (length columns) made (record { column = at; desc = k.descending }) all h))

module _ (defined : Defined) (placed : are_placed 0 defined.tables ≡ true) where
  pub query_typed : (q : Query) → Gives (query_walk defined q) (IsTypedOver defined)
  query_typed q =
      gives_next (set_typed defined placed q.set) (λ s parts.
      gives_next (all_keys_below s.columns q.keys [] refl) (λ keys below.
      gives_next (gives_any (count_of q.limit)) (λ limit any.
      gives_next (gives_any (count_of q.offset)) (λ offset any.
      gives (IsTypedOver defined) (ranked s keys limit offset) (record {
        columns = parts.has (types_of s.columns) (types_agree s.columns);
        names = names_count s.columns;
        keys = subst (λ n. keys_below n keys ≡ true) (sym (types_count s.columns)) below;
      })))))

pub queries_are_typed : QueriesAreTyped
queries_are_typed defined placed q r is = (query_typed defined placed q).each r is
