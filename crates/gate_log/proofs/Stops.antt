-- Contents that a step leaves as they are, and steps one after another.
use Rattle.std.proofs.Common.{ℕ, ◌+◌, ◌≤◌, List, ◌++◌, length, take, drop, refl, sym, ◌∙◌, ap, arith, append_assoc, length-append, length-drop, length-take-le}
use Rattle.std.proofs.lemmas.List.{take_all, take_at, drop_at}
use Rattle.gate_log.specs.Disk.{overwritten}
use Rattle.gate_log.specs.Stops.{Torn, CutBack, Same}

pub Torn-same : (at n : ℕ) (c : List ℕ) → Torn at n c c
Torn-same at n c = record { before = refl; after = refl; no_shorter = omega arith; no_longer = omega arith }

-- a write that was done whole
pub Torn-overwritten : (at : ℕ) (bytes c : List ℕ) → at ≤ length c → Torn at (length bytes) c (overwritten at bytes c)
Torn-overwritten at bytes c le =
    let size = length-take-le at c le in
    let front = length-append (take at c) bytes in
    let rest = length-drop (at + length bytes) c in
    let whole = length-append (take at c ++ bytes) (drop (at + length bytes) c) in
    record {
      before = ap (take at) (append_assoc (take at c) bytes (drop (at + length bytes) c)) ∙ take_at (take at c) (bytes ++ drop (at + length bytes) c) at size;
      after = drop_at (take at c ++ bytes) (drop (at + length bytes) c) (at + length bytes) (omega arith);
      no_shorter = omega arith;
      no_longer = omega arith;
    }

pub CutBack-same : (n : ℕ) (c : List ℕ) → CutBack n c c
CutBack-same n c = record { front = sym (take_all (length c) c (omega arith)); no_shorter = omega arith }

pub Same-trans : (a b c : List ℕ → Type 0) → Same a b → Same b c → Same a c
Same-trans a b c p q = record { within = λ x h. p.within x (q.within x h); keeps = λ x h. q.keeps x (p.keeps x h) }
