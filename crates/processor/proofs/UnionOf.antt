-- The parts of a union, once all are done.
use Rattle.std.proofs.Common.{◌≡◌, ◌≤◌, ◌==◌, ◌∙◌, ℕ, Bool, true, false, List, [], ◌++◌, length, drop, if◌then◌else◌, sym, ap, refl, append-nil, eqb-true}
use Rattle.std.proofs.lemmas.List.{drop_all}
use Rattle.vdb_model.specs.declared.bag.Bag.{Bag}
use Rattle.vdb_model.specs.declared.rel.Rel.{Rel}
use Rattle.vdb_model.specs.Relations.{bags_of, first_width, union_rows}
use Rattle.vdb_model.specs.Rows.{Cells}

pub all_done : (tables : List Bag) (vars : Cells) (parts : List Rel) (i width : ℕ) (rows : List Cells) → length parts ≤ i
    → rows ++ union_rows (bags_of tables [] vars (drop i parts)) ≡ union_rows (bags_of tables [] vars parts)
    → (if i == 0 then first_width (bags_of tables [] vars (drop i parts)) else width) ≡ first_width (bags_of tables [] vars parts)
    → (i ≡ 0 → width ≡ 0)
    → (width ≡ first_width (bags_of tables [] vars parts)) × (rows ≡ union_rows (bags_of tables [] vars parts))
all_done tables vars parts i width rows past sofar first none =
    (at (i == 0) refl, sym (append-nil rows) ∙ ap (λ x. rows ++ union_rows (bags_of tables [] vars x)) (sym over) ∙ sofar)
  where
    over : drop i parts ≡ []
    over = drop_all i parts past

    at : (c : Bool) → (i == 0) ≡ c → width ≡ first_width (bags_of tables [] vars parts)
    at true e =
        none (eqb-true i 0 e) ∙ ap (λ x. first_width (bags_of tables [] vars x)) (sym over)
        ∙ ap (λ d. if d then first_width (bags_of tables [] vars (drop i parts)) else width) (sym e) ∙ first
    at false e = ap (λ d. if d then first_width (bags_of tables [] vars (drop i parts)) else width) (sym e) ∙ first
