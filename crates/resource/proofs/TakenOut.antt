-- A row taken out at the first place where it stands.
use Rattle.std.proofs.Common.{◌≡◌, ◌∙◌, ◌++◌, ◌+◌, ◌≤◌, ℕ, true, if◌then◌else◌, List, ◌∷◌, length, drop, take, sym, ap}
use Rattle.std.proofs.lemmas.List.{take_all, drop_all, append-nil}
use Rattle.vdb_model.specs.Deltas.{without_one}
use Rattle.vdb_model.specs.Rows.{Cells, same_row}

-- it stands at this place
pub out_here : (row x : Cells) (i : ℕ) (rows now whole : List Cells) → drop i rows ≡ x ∷ drop (i + 1) rows → same_row row x ≡ true → now ≡ take i rows ++ drop (i + 1) rows
    → take i rows ++ without_one row (drop i rows) ≡ whole → now ≡ whole
out_here row x i rows now whole front same is so_far =
    let rest = drop (i + 1) rows in
    let step : without_one row (drop i rows) ≡ rest = ap (without_one row) front ∙ ap (λ b. if b then rest else x ∷ without_one row rest) same in
    is ∙ ap (λ more. take i rows ++ more) (sym step) ∙ so_far

-- it stands nowhere
pub out_nowhere : (row : Cells) (i : ℕ) (rows whole : List Cells) → length rows ≤ i → take i rows ++ without_one row (drop i rows) ≡ whole → rows ≡ whole
out_nowhere row i rows whole end so_far =
    sym (ap (λ front. front ++ without_one row (drop i rows)) (take_all i rows end) ∙ ap (λ rest. rows ++ without_one row rest) (drop_all i rows end) ∙ append-nil rows) ∙ so_far
