-- Names in a set, and the columns that are to come.
use Rattle.std.proofs.Common.{◌≡◌, ◌∙◌, ℕ, Bool, true, false, not, ◌&&◌, ◌||◌, List, [], ◌∷◌, refl, sym, ap}
use Rattle.std.specs.List.{list_any}
use Rattle.vdb_model.specs.declared.typed.VarDef.{VarDef}
use Rattle.vdb_model.specs.Defs.{same_name}
use Rattle.metadata.specs.Texts.{is_among}
use Rattle.metadata.specs.Views.{is_named, are_apart}

-- none of the columns has one of these names
abbrev pub are_new : List (List ℕ) → List VarDef → Bool
are_new names [] = true
are_new names (column ∷ columns) = not (is_among names column.name) && are_new names columns

-- and no two of them have one name
abbrev pub go_on : List (List ℕ) → List VarDef → Bool
go_on names columns = are_new names columns && are_apart columns

none_new : (columns : List VarDef) → are_new [] columns ≡ true
none_new [] = refl
none_new (column ∷ columns) = none_new columns

pub at_first : (columns : List VarDef) → go_on [] columns ≡ are_apart columns
at_first columns = ap (λ (b : Bool). b && are_apart columns) (none_new columns)

apart_from : (a b c d : Bool) → (not (a || b) && (c && not d)) ≡ ((not b && c) && not (a || d))
apart_from true true c d = refl
apart_from true false true d = refl
apart_from true false false d = refl
apart_from false true c d = refl
apart_from false false c d = refl

new_with : (names more : List (List ℕ)) (name : List ℕ) (columns : List VarDef) → ((q : List ℕ) → is_among more q ≡ (same_name name q || is_among names q))
    → are_new more columns ≡ (are_new names columns && not (list_any (is_named name) columns))
new_with names more name [] added = refl
new_with names more name (column ∷ columns) added =
    cc (added column.name, new_with names more name columns added, apart_from (same_name name column.name) (is_among names column.name) (are_new names columns) (list_any (is_named name) columns))

regrouped : (a b c : Bool) → ((a && b) && c) ≡ (a && (b && c))
regrouped true b c = refl
regrouped false b c = refl

after_new : (b rest all whole : Bool) → b ≡ false → ((not b && rest) && whole) ≡ all → (rest && whole) ≡ all
after_new true rest all whole is h = absurd (cc is)
after_new false rest all whole is h = h

-- a column whose name is new
pub one_on : (names more : List (List ℕ)) (column : VarDef) (columns : List VarDef) (all : Bool) → is_among names column.name ≡ false
    → ((q : List ℕ) → is_among more q ≡ (same_name column.name q || is_among names q)) → go_on names (column ∷ columns) ≡ all → go_on more columns ≡ all
one_on names more column columns all new added h =
    ap (λ (b : Bool). b && are_apart columns) (new_with names more column.name columns added)
    ∙ regrouped (are_new names columns) (not (list_any (is_named column.name) columns)) (are_apart columns)
    ∙ after_new (is_among names column.name) (are_new names columns) all (not (list_any (is_named column.name) columns) && are_apart columns) new h

-- a column whose name isn't new
pub not_on : (names : List (List ℕ)) (column : VarDef) (columns : List VarDef) (all : Bool) → is_among names column.name ≡ true → go_on names (column ∷ columns) ≡ all → all ≡ false
not_on names column columns all old h = sym h ∙ ap (λ (b : Bool). (not b && are_new names columns) && are_apart (column ∷ columns)) old
