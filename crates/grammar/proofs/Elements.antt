-- Elements of a list that grows at its end, and of one whose elements all pass a test.
use Rattle.std.proofs.Common.{Bool, true, List, [], ◌∷◌, ◌++◌, ◌≡◌, ◌⊎◌, inl, inr, refl}
use Rattle.std.proofs.lemmas.Bool.{and_parts}
use Rattle.std.specs.List.{list_all}
use Rattle.grammar.specs.Derivation.{Among, here, there}

pub among_more : {A : Type 0} (p x : A) (ps : List A) → Among p (ps ++ x ∷ []) → Among p ps ⊎ (p ≡ x)
among_more p x [] here = inr refl
among_more p x [] (there m) = elim m [ ]
among_more p x (q ∷ ps) here = inl here
among_more p x (q ∷ ps) (there m) = elim (among_more p x ps m) [ inl a ↦ inl (there a) | inr b ↦ inr b ]

pub among_front : {A : Type 0} (p x : A) (ps : List A) → Among p ps → Among p (ps ++ x ∷ [])
among_front p x [] m = elim m [ ]
among_front p x (q ∷ ps) here = here
among_front p x (q ∷ ps) (there m) = there (among_front p x ps m)

pub among_last : {A : Type 0} (x : A) (ps : List A) → Among x (ps ++ x ∷ [])
among_last x [] = here
among_last x (q ∷ ps) = there (among_last x ps)

-- a test that all pass
pub each_passes : {A : Type 0} (test : A → Bool) (x : A) (xs : List A) → Among x xs → list_all test xs ≡ true → test x ≡ true
each_passes test x [] m h = elim m [ ]
each_passes test x (y ∷ xs) here h = (and_parts (test y) (list_all test xs) h).0
each_passes test x (y ∷ xs) (there m) h = each_passes test x xs m (and_parts (test y) (list_all test xs) h).1
