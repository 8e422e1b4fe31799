-- The primary key of a table whose parts pass their tests is fit: its columns are there and are NOT NULL.
use Rattle.std.proofs.Common.{◌≡◌, ℕ, suc, ◌+◌, ◌<◌, Bool, true, false, ◌||◌, ◌==◌, if◌then◌else◌, List, [], ◌∷◌, length, Option, Some, None, refl, sym, ap, subst, arith, slice_index_or}
use Rattle.std.specs.Prelude.{nat_lt}
use Rattle.std.specs.List.{list_any}
use Rattle.std.specs.Cmp.Derive.{both_true}
use Rattle.std.specs.Cmp.Lexicographic.{same_text}
use Rattle.std.proofs.lemmas.Bool.Decides.{nat_tests}
use Rattle.std.proofs.lemmas.Cmp.{nat_list_eq_equiv}
use Rattle.vdb_model.specs.declared.reply.DeployFault.{DeployFault}
use Rattle.vdb_model.specs.declared.table.ColumnDef.{ColumnDef}
use Rattle.vdb_model.specs.Defs.{no_column, all_below, all_required, is_fit_key, same_name}
use Rattle.sql_reader.specs.declared.tree.name.Name.{Name}
use Rattle.vdb_ddl.specs.declared.tree.TablePart.{TablePart}
use Rattle.vdb_ddl.specs.declared.tree.TablePart.TheVariants.{Column, PrimaryKey}
use Rattle.metadata.specs.Columns.{has_column, unknown_column, unknown_part, unknown_in, names, is_in_key, columns_of, place_from, places_of, key_of}
use Rattle.metadata.specs.Tests.{Test}
use Rattle.metadata.proofs.DeployGives.{all_pass}
use Rattle.metadata.proofs.LongerLists.{left_true, right_true}

-- where the name is found, from a place on, there is a column that is NOT NULL
record IsPlaced (n : ℕ) (columns : List ColumnDef) (name : List ℕ) : Type 0 where
  pub at : ℕ
  pub is : place_from n columns name ≡ n + at
  pub below : at < length columns
  pub required : (slice_index_or columns at no_column).not_null ≡ true

here_or_later : (n : ℕ) (column : ColumnDef) (columns : List ColumnDef) (name : List ℕ) (has b : Bool) → same_name column.name name ≡ b → (b || has) ≡ true → (column.name ≡ name → column.not_null ≡ true)
    → (has ≡ true → IsPlaced (n + 1) columns name) → IsPlaced n (column ∷ columns) name
here_or_later n column columns name has true is h here later =
    let found : place_from n (column ∷ columns) name ≡ n = ap (λ (b : Bool). if b then n else place_from (n + 1) columns name) is in
    record { at = 0; is = omega arith; below = omega arith; required = here (same_text column.name name (sym is)) }
here_or_later n column columns name has false is h here later =
    let rest = later h in
    let passed : place_from n (column ∷ columns) name ≡ place_from (n + 1) columns name = ap (λ (b : Bool). if b then n else place_from (n + 1) columns name) is in
    let there = rest.is in
    let below = rest.below in
    record { at = suc rest.at; is = omega arith; below = omega arith; required = rest.required }

-- its first test, and the others
known_first : (has : Bool) (fault : DeployFault) (others : Test) → (if has then others else Some fault) ≡ None → (has ≡ true) × (others ≡ None)
known_first true fault others h = (refl, h)
known_first false fault others h = absurd (cc h)

places_many : (columns : List ColumnDef) (keys : List Name) → length (places_of columns keys) ≡ length keys
places_many columns [] = refl
places_many columns (key ∷ keys) = let h = places_many columns keys in omega arith

module _ (all : List TablePart) where
  placed : (parts : List TablePart) (n : ℕ) (name : List ℕ) → has_column name parts ≡ true → is_in_key all name ≡ true → IsPlaced n (columns_of all parts) name
  placed [] n name has key = absurd (cc has)
  placed (Column own ty not_null options ∷ parts) n name has key =
      here_or_later n _ (columns_of all parts) name (has_column name parts) (same_name own.text name) refl has
      (λ is. right_true not_null (is_in_key all own.text) (subst (λ (text : List ℕ). is_in_key all text ≡ true) (sym is) key))
      (λ more. placed parts (n + 1) name more key)
  placed (PrimaryKey columns ∷ parts) n name has key = placed parts n name has key

  -- the columns of a key
  abbrev InKey : List Name → Type 0
  InKey keys = (name : List ℕ) → list_any (names name) keys ≡ true → is_in_key all name ≡ true

  key_first : (key : Name) (keys : List Name) → InKey (key ∷ keys) → is_in_key all key.text ≡ true
  key_first key keys in_key = in_key key.text (left_true (names key.text key) (list_any (names key.text) keys) (nat_list_eq_equiv.refl key.text))

  key_later : (key : Name) (keys : List Name) → InKey (key ∷ keys) → InKey keys
  key_later key keys in_key name h = in_key name (right_true (names name key) (list_any (names name) keys) h)

  found : (key : Name) → has_column key.text all ≡ true → is_in_key all key.text ≡ true → IsPlaced 0 (columns_of all all) key.text
  found key has in_key = placed all 0 key.text has in_key

  all_there : (keys : List Name) → unknown_column all keys ≡ None → InKey keys → all_below (length (columns_of all all)) (places_of (columns_of all all) keys) ≡ true
  all_there [] known in_key = refl
  all_there (key ∷ keys) known in_key =
      let c = known_first (has_column key.text all) _ (unknown_column all keys) known in
      let at = found key c.0 (key_first key keys in_key) in
      let is = at.is in
      let below = at.below in
      let here : nat_lt (place_from 0 (columns_of all all) key.text) (length (columns_of all all)) ≡ true = grind (arith, nat_tests) in
      both_true here (all_there keys c.1 (key_later key keys in_key))

  all_not_null : (keys : List Name) → unknown_column all keys ≡ None → InKey keys → all_required (columns_of all all) (places_of (columns_of all all) keys) ≡ true
  all_not_null [] known in_key = refl
  all_not_null (key ∷ keys) known in_key =
      let c = known_first (has_column key.text all) _ (unknown_column all keys) known in
      let at = found key c.0 (key_first key keys in_key) in
      let is : at.at ≡ place_from 0 (columns_of all all) key.text = let from = at.is in omega arith in
      both_true (subst (λ (n : ℕ). (slice_index_or (columns_of all all) n no_column).not_null ≡ true) is at.required) (all_not_null keys c.1 (key_later key keys in_key))

  names_fit : (keys : List Name) → (length keys == 0) ≡ false → unknown_column all keys ≡ None → InKey keys → is_fit_key (columns_of all all) (Some (places_of (columns_of all all) keys)) ≡ true
  names_fit keys some known in_key =
      let many = places_many (columns_of all all) keys in
      let one : nat_lt 0 (length (places_of (columns_of all all) keys)) ≡ true = grind (arith, nat_tests) in
      both_true (both_true one (all_there keys known in_key)) (all_not_null keys known in_key)

  first_key : (keys : List Name) (other : Option (List ℕ)) (b : Bool) → (length keys == 0) ≡ b → unknown_column all keys ≡ None → InKey keys → is_fit_key (columns_of all all) other ≡ true
      → is_fit_key (columns_of all all) (if b then other else Some (places_of (columns_of all all) keys)) ≡ true
  first_key keys other true none known in_key h = h
  first_key keys other false some known in_key h = names_fit keys some known in_key

  -- of the parts from here on
  key_fits : (parts : List TablePart) → unknown_in all parts ≡ None → ((name : List ℕ) → is_in_key parts name ≡ true → is_in_key all name ≡ true) → is_fit_key (columns_of all all) (key_of (columns_of all all) parts) ≡ true
  key_fits [] known in_key = refl
  key_fits (Column own ty not_null options ∷ parts) known in_key =
      let pass = all_pass (unknown_part all (Column own ty not_null options) ∷ unknown_in all parts ∷ []) known in
      key_fits parts pass.1.0 in_key
  key_fits (PrimaryKey keys ∷ parts) known in_key =
      let pass = all_pass (unknown_part all (PrimaryKey keys) ∷ unknown_in all parts ∷ []) known in
      first_key keys (key_of (columns_of all all) parts) (length keys == 0) refl pass.0 (λ name h. in_key name (left_true (list_any (names name) keys) (is_in_key parts name) h))
      (key_fits parts pass.1.0 (λ name h. in_key name (right_true (list_any (names name) keys) (is_in_key parts name) h)))

pub its_key_fits : (parts : List TablePart) → unknown_in parts parts ≡ None → is_fit_key (columns_of parts parts) (key_of (columns_of parts parts) parts) ≡ true
its_key_fits parts known = key_fits parts parts known (λ name h. h)
