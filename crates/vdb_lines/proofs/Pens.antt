-- Texts that go through a buffer piece by piece.
use Rattle.std.proofs.Common.{◌≡◌, ℕ, ◌+◌, ◌<◌, ◌^◌, Bool, true, false, List, [], ◌∷◌, ◌++◌, length, get_or, drop, refl, sym, ap, ◌∙◌, subst, append_assoc, arith}
use Rattle.std.proofs.lemmas.List.{at_drop_more}
use Rattle.std.proofs.lemmas.Fmt.{decimal_nonempty}
use Rattle.vdb_base.specs.Printing.{SinkTold, Prints}
use Rattle.vdb_base.specs.Buffering.{Buffers}
use Rattle.vdb_base.proofs.Writing.{Buffers-append, Buffers-longer, Buffers-flush}
use Rattle.vdb_model.specs.Lines.{number_text, spaced}
use Rattle.vdb_model.specs.ReplyText.{after_commas, listed}

-- a text in two pieces
pub Pen-two : (whole : Bool) (a b c : SinkTold) (x y z text t u : List ℕ) → Buffers true a b x y t → Buffers whole b c y z u → text ≡ t ++ u → Buffers whole a c x z text
Pen-two whole a b c x y z text t u p q e = rw e (Buffers-append whole a b c x y z t u p q)

-- a text that was cut short in its first piece
pub Pen-cut : (a b : SinkTold) (x text t u : List ℕ) → Buffers false a b x [] t → text ≡ t ++ u → Buffers false a b x [] text
Pen-cut a b x text t u p e = rw e (Buffers-longer a b x [] [] t u p)

-- a text in three pieces
pub Pen-three : (whole : Bool) (a b c d : SinkTold) (x y z w text t u v : List ℕ) → Buffers true a b x y t → Buffers true b c y z u → Buffers whole c d z w v → text ≡ t ++ (u ++ v) → Buffers whole a d x w text
Pen-three whole a b c d x y z w text t u v p q r e = Pen-two whole a b d x y w text t (u ++ v) p (Buffers-append whole b c d y z w u v q r) e

-- a text that was cut short in its second piece
pub Pen-cut_second : (a b c : SinkTold) (x y text t u v : List ℕ) → Buffers true a b x y t → Buffers false b c y [] u → text ≡ t ++ (u ++ v) → Buffers false a c x [] text
Pen-cut_second a b c x y text t u v p q e = Pen-two false a b c x y [] text t (u ++ v) p (Buffers-longer b c y [] [] u v q) e

-- the first of a text went through the buffer, and the rest is still to come
pub record Part (a b : SinkTold) (x y text rest : List ℕ) : Type 0 where
  pub done : List ℕ
  pub printed : Buffers true a b x y done
  pub split : text ≡ done ++ rest

-- one more piece, a piece that was cut short, and the last piece
pub Part-more : (a b c : SinkTold) (x y z text rest t more : List ℕ) → Part a b x y text rest → Buffers true b c y z t → rest ≡ t ++ more → Part a c x z text more
Part-more a b c x y z text rest t more p q e = record {
  done = p.done ++ t;
  printed = Buffers-append true a b c x y z p.done t p.printed q;
  split = p.split ∙ ap (λ l. p.done ++ l) e ∙ sym (append_assoc p.done t more);
}

pub Part-cut : (a b c : SinkTold) (x y text rest t more : List ℕ) → Part a b x y text rest → Buffers false b c y [] t → rest ≡ t ++ more → Buffers false a c x [] text
Part-cut a b c x y text rest t more p q e =
    Pen-cut a c x text (p.done ++ t) more (Buffers-append false a b c x y [] p.done t p.printed q) (p.split ∙ ap (λ l. p.done ++ l) e ∙ sym (append_assoc p.done t more))

pub Part-last : (whole : Bool) (a b c : SinkTold) (x y z text rest t : List ℕ) → Part a b x y text rest → Buffers whole b c y z t → rest ≡ t → Buffers whole a c x z text
Part-last whole a b c x y z text rest t p q e = Pen-two whole a b c x y z text p.done t p.printed q (p.split ∙ ap (λ l. p.done ++ l) e)

-- texts, a mark before the first and commas before the others
abbrev pub marked : ℕ → List (List ℕ) → List ℕ
marked mark [] = []
marked mark (text ∷ texts) = mark ∷ text ++ after_commas texts

after_commas-marked : (texts : List (List ℕ)) → after_commas texts ≡ marked 44 texts
after_commas-marked [] = refl
after_commas-marked (text ∷ texts) = refl

pub listed-marked : (word : List ℕ) (texts : List (List ℕ)) (end : List ℕ) → listed word texts ++ end ≡ word ++ (marked 32 texts ++ end)
listed-marked word [] end = refl
listed-marked word (text ∷ texts) end = append_assoc (word ++ 32 ∷ text) (after_commas texts) end ∙ append_assoc word (32 ∷ text) (after_commas texts ++ end) ∙ ap (λ l. word ++ l) (sym (append_assoc (32 ∷ text) (after_commas texts) end))

marked-cons : (mark : ℕ) (text : List ℕ) (texts : List (List ℕ)) (end : List ℕ) → marked mark (text ∷ texts) ++ end ≡ (mark ∷ text) ++ (marked 44 texts ++ end)
marked-cons mark text texts end = append_assoc (mark ∷ text) (after_commas texts) end ∙ ap (λ l. (mark ∷ text) ++ (l ++ end)) (after_commas-marked texts)

-- the texts of the elements of a list from a place on
pub marked-at : {X : Type 0} (f : X → List ℕ) (texts : List X → List (List ℕ)) → ((x : X) (xs : List X) → texts (x ∷ xs) ≡ f x ∷ texts xs)
    → (mark : ℕ) (xs : List X) (i : ℕ) (x d : X) (end : List ℕ) → i < length xs → x ≡ get_or xs i d
    → marked mark (texts (drop i xs)) ++ end ≡ (mark ∷ f x) ++ (marked 44 (texts (drop (i + 1) xs)) ++ end)
marked-at f texts step mark xs i x d end h e =
    rw e (ap (λ ts. marked mark ts ++ end) (at_drop_more texts xs i d h ∙ step (get_or xs i d) (drop (i + 1) xs)) ∙ marked-cons mark (f (get_or xs i d)) (texts (drop (i + 1) xs)) end)

-- the texts of the elements of a list from a place on, one after another
pub pieces-at : {X : Type 0} (f : X → List ℕ) (texts : List X → List ℕ) → ((x : X) (xs : List X) → texts (x ∷ xs) ≡ f x ++ texts xs)
    → (xs : List X) (i : ℕ) (x d : X) (text : List ℕ) → i < length xs → x ≡ get_or xs i d → text ≡ f x
    → texts (drop i xs) ≡ text ++ texts (drop (i + 1) xs)
pieces-at f texts step xs i x d text h e same =
    at_drop_more texts xs i d h ∙ step (get_or xs i d) (drop (i + 1) xs) ∙ ap (λ l. l ++ texts (drop (i + 1) xs)) (ap f (sym e) ∙ sym same)

-- a buffer that is empty at first and flushed in the end prints what went through it
pub Pen-flush : (whole : Bool) (a b c : SinkTold) (x y text : List ℕ) → x ≡ [] → Buffers true a b x y text → Prints whole b c y → Prints whole a c text
Pen-flush whole a b c x y text e p q = Buffers-flush whole a b c y text (subst (λ l. Buffers true a b l y text) e p) q

pub spaced-full : (text : List ℕ) → 0 < length text → spaced text ≡ 32 ∷ text
spaced-full [] h = absurd (omega arith)
spaced-full (b ∷ bs) h = refl

pub number-full : (n : ℕ) → n < 2 ^ 64 → 0 < length (number_text n)
unfolding number_text
number-full n h = decimal_nonempty n h
