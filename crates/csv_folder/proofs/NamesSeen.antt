-- Names in lower case that were seen.
use Rattle.std.proofs.Common.{◌≡◌, ◌∙◌, ◌||◌, not, Bool, true, ℕ, List, [], ◌∷◌, sym, ap}
use Rattle.std.specs.List.{list_any}
use Rattle.std.specs.Cmp.Lexicographic.{slice_cmp, texts_ties}
use Rattle.std.specs.Ordering.{nat_cmp}
use Rattle.std.specs.Str.{str_to_ascii_lowercase}
use Rattle.csv_folder.specs.declared.seen.Seen.{Seen}
use Rattle.csv_folder.specs.Cells.{same_folded}
use Rattle.csv_folder.specs.Header.{are_apart}
use Rattle.csv_folder.specs.Seen.{is_same}
use Rattle.csv_folder.specs.SeenItems.{items_of}
use Rattle.csv_folder.proofs.Apart.{apart_from, apart_none, apart_more, was_new}

-- a name is one of those that were seen, in any case
abbrev pub was_named : Seen (List ℕ) → List ℕ → Bool
was_named seen name = list_any (is_same (slice_cmp nat_cmp) (str_to_ascii_lowercase name)) (items_of seen)

-- an item is one of those that were seen
abbrev pub was_seen : Seen (List ℕ) → List ℕ → Bool
was_seen seen item = list_any (is_same (slice_cmp nat_cmp) item) (items_of seen)

-- at first nothing was seen
pub names_first : (seen : Seen (List ℕ)) (names : List (List ℕ)) → items_of seen ≡ [] → apart_from (was_named seen) same_folded names ≡ are_apart same_folded names
names_first seen names e = apart_none (was_named seen) same_folded names (λ name. ap (list_any (is_same (slice_cmp nat_cmp) (str_to_ascii_lowercase name))) e)

-- a name that is new
pub names_more : (old new : Seen (List ℕ)) (name item : List ℕ) (names : List (List ℕ)) → item ≡ str_to_ascii_lowercase name → not (was_seen old item) ≡ true
    → ((other : List ℕ) → was_seen new other ≡ (is_same (slice_cmp nat_cmp) item other || was_seen old other))
    → apart_from (was_named new) same_folded names ≡ apart_from (was_named old) same_folded (name ∷ names)
names_more old new name item names is fresh added =
    apart_more (was_named old) (was_named new) same_folded name names
    (λ other.
    added (str_to_ascii_lowercase other)
    ∙ ap (λ b. b || was_named old other)
    (ap (λ i. is_same (slice_cmp nat_cmp) i (str_to_ascii_lowercase other)) is ∙ sym (texts_ties (str_to_ascii_lowercase name) (str_to_ascii_lowercase other))))
    (ap (was_seen old) (sym is) ∙ was_new (was_seen old item) fresh)
