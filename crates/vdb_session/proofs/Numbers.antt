-- Numbers in turn.
use Rattle.std.proofs.Common.{◌≡◌, ℕ, zero, suc, ◌+◌, [], ◌∷◌, ◌++◌, ap, ◌∙◌, arith}
use Rattle.vdb_session.specs.Fetching.{numbers}

more_from : (from n : ℕ) → numbers from (suc n) ≡ numbers from n ++ (from + n) ∷ []
more_from from zero = let e : from ≡ from + 0 = omega arith in ap (λ k. k ∷ []) e
more_from from (suc n) =
    let e : from + 1 + n ≡ from + suc n = omega arith in
    ap (λ ns. from ∷ ns) (more_from (from + 1) n ∙ ap (λ k. numbers (from + 1) n ++ k ∷ []) e)

pub numbers_more : (n : ℕ) → numbers 0 (n + 1) ≡ numbers 0 n ++ n ∷ []
numbers_more n =
    let e : n + 1 ≡ suc n = omega arith in
    let z : 0 + n ≡ n = omega arith in
    ap (numbers 0) e ∙ more_from 0 n ∙ ap (λ k. numbers 0 n ++ k ∷ []) z
