-- The parts of an array, written one behind the other.
use Rattle.std.proofs.Common.{◌≡◌, ℕ, ◌+◌, ◌-◌, List, ◌++◌, length, take, drop, ap, sym, refl, ◌∙◌, length-append, arith}
use Rattle.std.specs.Prelude.{replicate}
use Rattle.std.proofs.lemmas.List.{append_assoc, drop-replicate, take_at, drop_at}
use borrow.Rule.Slice.PartMut.{put_mid}

-- two parts of 8 bytes, a third behind them, and the zeros that are left
pub laid : (a b name : List ℕ) → length a ≡ 8 → length b ≡ 8
    → put_mid 16 (16 + length name - 16) (put_mid 8 8 (a ++ drop 8 (replicate 128 0)) b) name ≡ ((a ++ b) ++ name) ++ replicate (112 - length name) 0
laid a b name la lb =
    let z120 : List ℕ = replicate 120 0 in
    let z112 : List ℕ = replicate 112 0 in
    let first : a ++ drop 8 (replicate 128 0) ≡ a ++ z120 = ap (λ (l : List ℕ). a ++ l) (drop-replicate {X = ℕ} 8 128 0) in
    let second : put_mid 8 8 (a ++ z120) b ≡ (a ++ b) ++ z112 =
    rw (take_at a z120 8 la, drop_at a z120 8 la, drop-replicate {X = ℕ} 8 120 0) (sym (append_assoc a b z112)) in
    let len : length (a ++ b) ≡ 16 = length-append a b ∙ rw (la, lb) refl in
    let count : 16 + length name - 16 ≡ length name = omega arith in
    let third : put_mid 16 (length name) ((a ++ b) ++ z112) name ≡ ((a ++ b) ++ name) ++ replicate (112 - length name) 0 =
    rw (take_at (a ++ b) z112 16 len, drop_at (a ++ b) z112 16 len, drop-replicate {X = ℕ} (length name) 112 0) (sym (append_assoc (a ++ b) name (replicate (112 - length name) 0))) in
    rw (first, second, count) third
