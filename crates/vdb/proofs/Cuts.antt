-- Words that are cut at a mark.
use Rattle.std.proofs.Common.{◌≡◌, ◌≢◌, ℕ, ◌+◌, ◌<◌, ◌==◌, true, false, List, [], ◌∷◌, ◌++◌, length, get_or, Some, None, refl, ap, arith}
use Rattle.std.proofs.lemmas.Bool.Decides.{nat_tests}
use Rattle.std.proofs.lemmas.Grind.{common_steps}
use Rattle.vdb.specs.Words.{begin_with, split_at_byte}

same_test : (n : ℕ) → (n == n) ≡ true
same_test n = grind (arith, nat_tests)

-- no byte is the mark
abbrev pub Lacks : ℕ → List ℕ → Type 0
Lacks mark bs = (i : ℕ) → i < length bs → get_or bs i 0 ≢ mark

head_differs : (mark b : ℕ) (bs : List ℕ) → Lacks mark (b ∷ bs) → (b == mark) ≡ false
head_differs mark b bs h = let ne : b ≢ mark = h 0 (grind (arith, common_steps)) in grind (arith, nat_tests)

tail_lacks : (mark b : ℕ) (bs : List ℕ) → Lacks mark (b ∷ bs) → Lacks mark bs
tail_lacks mark b bs h i lt = let k = h (i + 1) (grind (arith, common_steps)) in grind (arith, common_steps)

pub cut_found : (mark : ℕ) (front tail : List ℕ) → Lacks mark front → split_at_byte mark (front ++ mark ∷ tail) ≡ Some (front, tail)
cut_found mark [] tail h = rw (same_test mark) refl
cut_found mark (b ∷ bs) tail h = rw (head_differs mark b bs h) (ap (begin_with b) (cut_found mark bs tail (tail_lacks mark b bs h)))

pub cut_missing : (mark : ℕ) (bs : List ℕ) → Lacks mark bs → split_at_byte mark bs ≡ None
cut_missing mark [] h = refl
cut_missing mark (b ∷ bs) h = rw (head_differs mark b bs h) (ap (begin_with b) (cut_missing mark bs (tail_lacks mark b bs h)))
