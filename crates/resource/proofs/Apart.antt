-- Rows that are keyed apart, read from the front beside the keys so far.
use Rattle.std.proofs.Common.{◌≡◌, ◌∙◌, Bool, true, false, not, ◌&&◌, ◌||◌, ℕ, List, [], ◌∷◌, refl, sym, ap}
use Rattle.std.specs.List.{list_any}
use Rattle.vdb_model.specs.Rows.{Cells, same_row, cut}
use Rattle.vdb_model.specs.World.{are_keyed_apart}

-- no row's key is among those that were seen
abbrev pub all_new : (Cells → Bool) → List ℕ → List Cells → Bool
all_new seen ats [] = true
all_new seen ats (row ∷ rows) = not (seen (cut ats row)) && all_new seen ats rows

-- the rows are keyed apart, and from what was seen
abbrev pub apart_from : (Cells → Bool) → List ℕ → List Cells → Bool
apart_from seen ats rows = all_new seen ats rows && are_keyed_apart ats rows

none_seen : (ats : List ℕ) (rows : List Cells) → all_new (λ key. false) ats rows ≡ true
none_seen ats [] = refl
none_seen ats (row ∷ rows) = none_seen ats rows

pub apart_none : (ats : List ℕ) (rows : List Cells) → apart_from (λ key. false) ats rows ≡ are_keyed_apart ats rows
apart_none ats rows = ap (λ b. b && are_keyed_apart ats rows) (none_seen ats rows)

-- one more key
pub one_more : (seen more : Cells → Bool) (key : Cells) (ats : List ℕ) (rows : List Cells) → ((q : Cells) → more q ≡ (same_row key q || seen q))
    → all_new more ats rows ≡ (not (list_any (λ other. same_row key (cut ats other)) rows) && all_new seen ats rows)
one_more seen more key ats [] e = refl
one_more seen more key ats (row ∷ rows) e =
    ap (λ b. not b && all_new more ats rows) (e (cut ats row))
    ∙ ap (λ b. not (same_row key (cut ats row) || seen (cut ats row)) && b) (one_more seen more key ats rows e)
    ∙ swap (same_row key (cut ats row)) (seen (cut ats row)) (list_any (λ other. same_row key (cut ats other)) rows) (all_new seen ats rows)
  where
    swap : (p a q b : Bool) → (not (p || a) && (not q && b)) ≡ (not (p || q) && (not a && b))
    swap true true true b = refl
    swap true true false b = refl
    swap true false true b = refl
    swap true false false b = refl
    swap false true true b = refl
    swap false true false b = refl
    swap false false true b = refl
    swap false false false b = refl

-- the first row is new: its key was seen from then on
pub apart_more : (seen more : Cells → Bool) (ats : List ℕ) (row : Cells) (rows : List Cells) → ((q : Cells) → more q ≡ (same_row (cut ats row) q || seen q)) → seen (cut ats row) ≡ false
    → apart_from more ats rows ≡ apart_from seen ats (row ∷ rows)
apart_more seen more ats row rows e new =
    ap (λ b. b && are_keyed_apart ats rows) (one_more seen more (cut ats row) ats rows e)
    ∙ swap (list_any (λ other. same_row (cut ats row) (cut ats other)) rows) (all_new seen ats rows) (are_keyed_apart ats rows)
    ∙ ap (λ b. (not b && all_new seen ats rows) && (not (list_any (λ other. same_row (cut ats row) (cut ats other)) rows) && are_keyed_apart ats rows)) (sym new)
  where
    swap : (q a b : Bool) → ((not q && a) && b) ≡ (a && (not q && b))
    swap true true b = refl
    swap true false b = refl
    swap false true b = refl
    swap false false b = refl

pub was_new : (b : Bool) → not b ≡ true → b ≡ false
was_new true h = cc
was_new false h = refl
