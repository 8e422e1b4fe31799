-- Parts that wait and are the same but for some of what they are: what is made of them is so too.
use Rattle.std.proofs.Common.{◌≡◌, ◌∙◌, ℕ, List, [], ◌∷◌, ◌++◌, map, ap, sym, refl}
use Rattle.sql_reader.specs.Waiting.{rest, on, made, made2, made_of_two, made_of_three, put, put2, put_two, joined, joined3, with}

pub map_append : {A B : Type 0} (f : A → B) (xs ys : List A) → map f (xs ++ ys) ≡ map f xs ++ map f ys
map_append f [] ys = refl
map_append f (x ∷ xs) ys = ap (λ l. f x ∷ l) (map_append f xs ys)

pub same_rest : {A B : Type 0} (a : A → B) (xs ys : List A) → map a xs ≡ map a ys → map a (rest xs) ≡ map a (rest ys)
same_rest a [] [] e = refl
same_rest a [] (y ∷ ys) e = absurd cc
same_rest a (x ∷ xs) [] e = absurd cc
same_rest a (x ∷ xs) (y ∷ ys) e = cc

module _ {Z Y : Type 0} (z : Z → Y) where
  pub same_on : (f g : Z → Z) → ((x y : Z) → z x ≡ z y → z (f x) ≡ z (g y)) → (us vs : List Z) → map z us ≡ map z vs → map z (on f us) ≡ map z (on g vs)
  same_on f g h [] [] e = refl
  same_on f g h [] (v ∷ vs) e = absurd cc
  same_on f g h (u ∷ us) [] e = absurd cc
  same_on f g h (u ∷ us) (v ∷ vs) e = let p : z u ≡ z v = cc in let q = h u v p in cc

  pub same_joined : (f g : Z → Z → Z) → ((x x' y y' : Z) → z x ≡ z x' → z y ≡ z y' → z (f x y) ≡ z (g x' y')) → (us vs : List Z) → map z us ≡ map z vs → map z (joined f us) ≡ map z (joined g vs)
  same_joined f g h [] [] e = refl
  same_joined f g h [] (v ∷ vs) e = absurd cc
  same_joined f g h (u ∷ us) [] e = absurd cc
  same_joined f g h (u ∷ us) (v ∷ vs) e =
      let p : z u ≡ z v = cc in
      let q : map z us ≡ map z vs = cc in
      same_on (λ x. f x u) (λ x. g x v) (λ x y d. h x y u v d p) us vs q

  pub same_joined3 : (f g : Z → Z → Z → Z) → ((w w' x x' y y' : Z) → z w ≡ z w' → z x ≡ z x' → z y ≡ z y' → z (f w x y) ≡ z (g w' x' y')) → (us vs : List Z) → map z us ≡ map z vs → map z (joined3 f us) ≡ map z (joined3 g vs)
  same_joined3 f g h [] [] e = refl
  same_joined3 f g h [] (v ∷ vs) e = absurd cc
  same_joined3 f g h (u ∷ us) [] e = absurd cc
  same_joined3 f g h (u ∷ us) (v ∷ vs) e =
      let p : z u ≡ z v = cc in
      let q : map z us ≡ map z vs = cc in
      same_joined (λ x y. f x y u) (λ x y. g x y v) (λ x x' y y' c d. h x x' y y' u v c d p) us vs q

  module _ {A B : Type 0} (a : A → B) where
    pub same_made : (f g : A → Z) → ((x y : A) → a x ≡ a y → z (f x) ≡ z (g y)) → (xs ys : List A) (us vs : List Z)
        → map a xs ≡ map a ys → map z us ≡ map z vs → map z (made f xs us) ≡ map z (made g ys vs)
    same_made f g h [] [] us vs d e = e
    same_made f g h [] (y ∷ ys) us vs d e = absurd cc
    same_made f g h (x ∷ xs) [] us vs d e = absurd cc
    same_made f g h (x ∷ xs) (y ∷ ys) us vs d e = let p : a x ≡ a y = cc in let q = h x y p in cc

    pub same_made_of_two : (f g : A → A → Z) → ((x x' y y' : A) → a x ≡ a x' → a y ≡ a y' → z (f x y) ≡ z (g x' y')) → (xs ys : List A) (us vs : List Z)
        → map a xs ≡ map a ys → map z us ≡ map z vs → map z (made_of_two f xs us) ≡ map z (made_of_two g ys vs)
    same_made_of_two f g h [] [] us vs d e = e
    same_made_of_two f g h [] (y ∷ ys) us vs d e = absurd cc
    same_made_of_two f g h (x ∷ xs) [] us vs d e = absurd cc
    same_made_of_two f g h (x ∷ xs) (y ∷ ys) us vs d e =
        let p : a x ≡ a y = cc in
        let q : map a xs ≡ map a ys = cc in
        same_made (λ w. f w x) (λ w. g w y) (λ w w' c. h w w' x y c p) xs ys us vs q e

    pub same_made_of_three : (f g : A → A → A → Z) → ((w w' x x' y y' : A) → a w ≡ a w' → a x ≡ a x' → a y ≡ a y' → z (f w x y) ≡ z (g w' x' y')) → (xs ys : List A) (us vs : List Z)
        → map a xs ≡ map a ys → map z us ≡ map z vs → map z (made_of_three f xs us) ≡ map z (made_of_three g ys vs)
    same_made_of_three f g h [] [] us vs d e = e
    same_made_of_three f g h [] (y ∷ ys) us vs d e = absurd cc
    same_made_of_three f g h (x ∷ xs) [] us vs d e = absurd cc
    same_made_of_three f g h (x ∷ xs) (y ∷ ys) us vs d e =
        let p : a x ≡ a y = cc in
        let q : map a xs ≡ map a ys = cc in
        same_made_of_two (λ v w. f v w x) (λ v w. g v w y) (λ v v' w w' b c. h v v' w w' x y b c p) xs ys us vs q e

    pub same_put : (f g : A → Z → Z) → ((x x' : A) (y y' : Z) → a x ≡ a x' → z y ≡ z y' → z (f x y) ≡ z (g x' y')) → (xs ys : List A) (us vs : List Z)
        → map a xs ≡ map a ys → map z us ≡ map z vs → map z (put f xs us) ≡ map z (put g ys vs)
    same_put f g h [] [] us vs d e = e
    same_put f g h [] (y ∷ ys) us vs d e = absurd cc
    same_put f g h (x ∷ xs) [] us vs d e = absurd cc
    same_put f g h (x ∷ xs) (y ∷ ys) us vs d e = let p : a x ≡ a y = cc in same_on (f x) (g y) (λ u v c. h x y u v p c) us vs e

    pub same_put_two : (f g : A → A → Z → Z) → ((w w' x x' : A) (y y' : Z) → a w ≡ a w' → a x ≡ a x' → z y ≡ z y' → z (f w x y) ≡ z (g w' x' y')) → (xs ys : List A) (us vs : List Z)
        → map a xs ≡ map a ys → map z us ≡ map z vs → map z (put_two f xs us) ≡ map z (put_two g ys vs)
    same_put_two f g h [] [] us vs d e = e
    same_put_two f g h [] (y ∷ ys) us vs d e = absurd cc
    same_put_two f g h (x ∷ xs) [] us vs d e = absurd cc
    same_put_two f g h (x ∷ xs) (y ∷ ys) us vs d e =
        let p : a x ≡ a y = cc in
        let q : map a xs ≡ map a ys = cc in
        same_put (λ w. f w x) (λ w. g w y) (λ w w' u v b c. h w w' x y u v b p c) xs ys us vs q e

    pub same_with : (f g : A → List Z → List Z) → ((x x' : A) (us vs : List Z) → a x ≡ a x' → map z us ≡ map z vs → map z (f x us) ≡ map z (g x' vs)) → (xs ys : List A) (us vs : List Z)
        → map a xs ≡ map a ys → map z us ≡ map z vs → map z (with f xs us) ≡ map z (with g ys vs)
    same_with f g h [] [] us vs d e = e
    same_with f g h [] (y ∷ ys) us vs d e = absurd cc
    same_with f g h (x ∷ xs) [] us vs d e = absurd cc
    same_with f g h (x ∷ xs) (y ∷ ys) us vs d e = let p : a x ≡ a y = cc in h x y us vs p e

    module _ {C D : Type 0} (c : C → D) where
      pub same_made2 : (f g : A → C → Z) → ((x x' : A) (y y' : C) → a x ≡ a x' → c y ≡ c y' → z (f x y) ≡ z (g x' y')) → (xs ys : List A) (ws ts : List C) (us vs : List Z)
          → map a xs ≡ map a ys → map c ws ≡ map c ts → map z us ≡ map z vs → map z (made2 f xs ws us) ≡ map z (made2 g ys ts vs)
      same_made2 f g h [] [] ws ts us vs d b e = e
      same_made2 f g h [] (y ∷ ys) ws ts us vs d b e = absurd cc
      same_made2 f g h (x ∷ xs) [] ws ts us vs d b e = absurd cc
      same_made2 f g h (x ∷ xs) (y ∷ ys) [] [] us vs d b e = e
      same_made2 f g h (x ∷ xs) (y ∷ ys) [] (t ∷ ts) us vs d b e = absurd cc
      same_made2 f g h (x ∷ xs) (y ∷ ys) (w ∷ ws) [] us vs d b e = absurd cc
      same_made2 f g h (x ∷ xs) (y ∷ ys) (w ∷ ws) (t ∷ ts) us vs d b e =
          let p : a x ≡ a y = cc in
          let q : c w ≡ c t = cc in
          let r = h x y w t p q in
          cc

      pub same_put2 : (f g : A → C → Z → Z) → ((x x' : A) (y y' : C) (u v : Z) → a x ≡ a x' → c y ≡ c y' → z u ≡ z v → z (f x y u) ≡ z (g x' y' v)) → (xs ys : List A) (ws ts : List C) (us vs : List Z)
          → map a xs ≡ map a ys → map c ws ≡ map c ts → map z us ≡ map z vs → map z (put2 f xs ws us) ≡ map z (put2 g ys ts vs)
      same_put2 f g h [] [] ws ts us vs d b e = e
      same_put2 f g h [] (y ∷ ys) ws ts us vs d b e = absurd cc
      same_put2 f g h (x ∷ xs) [] ws ts us vs d b e = absurd cc
      same_put2 f g h (x ∷ xs) (y ∷ ys) [] [] us vs d b e = e
      same_put2 f g h (x ∷ xs) (y ∷ ys) [] (t ∷ ts) us vs d b e = absurd cc
      same_put2 f g h (x ∷ xs) (y ∷ ys) (w ∷ ws) [] us vs d b e = absurd cc
      same_put2 f g h (x ∷ xs) (y ∷ ys) (w ∷ ws) (t ∷ ts) us vs d b e =
          let p : a x ≡ a y = cc in
          let q : c w ≡ c t = cc in
          same_on (f x w) (g y t) (λ u v r. h x y w t u v p q r) us vs e
