-- Lists of a catalog that grew: what held of them holds.
use Rattle.std.proofs.Common.{◌≡◌, ◌∙◌, ℕ, ◌≤◌, Bool, true, false, ◌||◌, if◌then◌else◌, List, [], ◌∷◌, ◌++◌, Option, Some, None, refl, arith}
use Rattle.std.specs.Prelude.{nat_le}
use Rattle.std.specs.List.{list_any, list_all}
use Rattle.std.specs.Cmp.Derive.{both_true}
use Rattle.std.proofs.lemmas.Bool.Decides.{nat_tests}
use Rattle.std.proofs.lemmas.List.Folds.{list_any-append, list_all-append}
use Rattle.vdb_model.specs.declared.catalog.SchemaDef.{SchemaDef}
use Rattle.vdb_model.specs.declared.catalog.ViewDef.{ViewDef}
use Rattle.vdb_model.specs.declared.table.TableDef.{TableDef}
use Rattle.vdb_model.specs.WellFormed.{is_below, names_server, is_schema_of, stands_in_schema, tables_stand, views_stand}
use Rattle.view_stack.proofs.NoVariables.{both}

pub at_most : (m n : ℕ) → m ≤ n → nat_le m n ≡ true
at_most m n h = grind (arith, nat_tests)

pub left_true : (a b : Bool) → a ≡ true → (a || b) ≡ true
left_true true b h = refl
left_true false b h = absurd (cc h)

pub any_more : {X : Type 0} (p : X → Bool) (xs ys : List X) → list_any p xs ≡ true → list_any p (xs ++ ys) ≡ true
any_more p xs ys h = list_any-append p xs ys ∙ left_true (list_any p xs) (list_any p ys) h

pub all_more : {X : Type 0} (p : X → Bool) (xs : List X) (x : X) → list_all p xs ≡ true → p x ≡ true → list_all p (xs ++ x ∷ []) ≡ true
all_more p xs x h k = list_all-append p xs (x ∷ []) ∙ both_true h (both_true k refl)

below_more : (m n : ℕ) (server : Option ℕ) → m ≤ n → is_below m server ≡ true → is_below n server ≡ true
below_more m n None le h = refl
below_more m n (Some k) le h = grind (arith, nat_tests)

pub servers_more : (m n : ℕ) (schemas : List SchemaDef) → m ≤ n → list_all (names_server m) schemas ≡ true → list_all (names_server n) schemas ≡ true
servers_more m n [] le h = refl
servers_more m n (schema ∷ schemas) le h =
    let c = both (names_server m schema) (list_all (names_server m) schemas) h in
    both_true (below_more m n schema.server le c.0) (servers_more m n schemas le c.1)

pub tables_still : (schemas more : List SchemaDef) (tables : List TableDef) → tables_stand schemas tables ≡ true → tables_stand (schemas ++ more) tables ≡ true
tables_still schemas more [] h = refl
tables_still schemas more (d ∷ ds) h =
    let c = both (stands_in_schema schemas (Some d.server) d.schema) (tables_stand schemas ds) h in
    both_true (any_more (is_schema_of (Some d.server) d.schema) schemas more c.0) (tables_still schemas more ds c.1)

pub views_still : (schemas more : List SchemaDef) (views : List ViewDef) → views_stand schemas views ≡ true → views_stand (schemas ++ more) views ≡ true
views_still schemas more [] h = refl
views_still schemas more (d ∷ ds) h =
    let c = both (stands_in_schema schemas None d.schema) (views_stand schemas ds) h in
    both_true (any_more (is_schema_of None d.schema) schemas more c.0) (views_still schemas more ds c.1)

pub right_true : (a b : Bool) → b ≡ true → (a || b) ≡ true
right_true true b h = refl
right_true false b h = h

-- both tests fail where one of two would do
pub none_of : (a b : Bool) → (a || b) ≡ false → (a ≡ false) × (b ≡ false)
none_of true b h = absurd (cc h)
none_of false b h = (refl, h)

pub neither : (a b : Bool) → a ≡ false → b ≡ false → (a || b) ≡ false
neither true b h k = absurd (cc h)
neither false b h k = k

-- what holds of both holds of either
pub either : {A : Type 0} (P : A → Type 0) (b : Bool) (x y : A) → P x → P y → P (if b then x else y)
either P true x y h k = h
either P false x y h k = k
