-- What a whole slice of a Vec writes back.
use Rattle.std.proofs.Common.{◌≡◌, ℕ, ◌≤◌, List, ◌++◌, length, take, drop, ap, ◌∙◌, arith}
use Rattle.std.proofs.lemmas.List.{take_all, drop_all, append-nil}

pub whole_slice : {X : Type 0} (n : ℕ) (xs ys : List X) → length xs ≡ n → length ys ≡ n → take n (xs ++ drop (length xs) ys) ≡ xs
whole_slice n xs ys e h =
    let p : length ys ≤ length xs = omega arith in
    let q : length xs ≤ n = omega arith in
    ap (λ zs. take n (xs ++ zs)) (drop_all (length xs) ys p) ∙ ap (take n) (append-nil xs) ∙ take_all n xs q
