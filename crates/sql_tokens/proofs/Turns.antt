-- The statements are found in turn.
use Rattle.std.proofs.Common.{◌≡◌, ◌≤◌, ℕ, zero, suc, ◌+◌, ◌-◌, Bool, true, false, List, [], ◌∷◌, ◌++◌, Option, Some, None, arith, refl, sym, ap, ◌∙◌, length, drop, if◌then◌else◌}
use Rattle.sql_tokens.specs.declared.token.Kind.{Kind}
use Rattle.sql_tokens.specs.declared.token.Kind.TheVariants as kind
use Rattle.sql_tokens.specs.declared.token.Token.{Token}
use Rattle.sql_tokens.specs.declared.cut.Found.{Found}
use Rattle.sql_tokens.specs.declared.cut.Found.TheVariants.{Statement}
use Rattle.sql_tokens.specs.Pieces.{piece, one}
use Rattle.sql_tokens.specs.Tokens.{tokens_after, seen}
use Rattle.sql_tokens.specs.Cut.{found, statement, cuts, cut_after}
use Rattle.sql_tokens.specs.Laws.{FoundInTurn}
use Rattle.sql_tokens.proofs.Steps.{going}
use Rattle.sql_tokens.proofs.Stay.{drop_le}
use Rattle.sql_tokens.proofs.Stays.{cuts_is, semicolon_is, semicolon_piece}

-- these statements are X and then those of the bytes from the place n on, where the bytes bs begin at a place
record Turn (ended : Bool) (m n place : ℕ) (bs : List ℕ) (all : List Found) (X : Found) : Type 0 where
  k : ℕ
  at : n ≡ place + k
  within : k ≤ length bs
  is : all ≡ X ∷ cut_after ended m None (tokens_after 0 (place + k) (drop k bs))

-- one byte more in front
further_turn : (ended : Bool) (m n place b : ℕ) (bs : List ℕ) (all : List Found) (X : Found)
    → Turn ended m n (place + 1) bs all X → Turn ended m n place (b ∷ bs) all X
further_turn ended m n place b bs all X w =
    let e : place + 1 + w.k ≡ place + suc w.k = omega arith in
    record {
      k = suc w.k;
      at = w.at ∙ e;
      within = omega (arith, w.within);
      is = w.is ∙ ap (λ x. X ∷ cut_after ended m None (tokens_after 0 x (drop w.k bs))) e;
    }

pick : (c ended : Bool) (m n place : ℕ) (bs : List ℕ) (A A' X : Found) (B B' : List Found)
    → (c ≡ true → A ≡ X → Turn ended m n place bs B X) → (A' ≡ X → Turn ended m n place bs B' X)
    → (if c then A else A') ≡ X → Turn ended m n place bs (if c then B else B') X
pick true ended m n place bs A A' X B B' f g h = f refl h
pick false ended m n place bs A A' X B B' f g h = g h

seen_turn : (k : Option Kind) (first : Option ℕ) (ended : Bool) (m n place len : ℕ) (bs : List ℕ) (ts : List Token) (s e : ℕ)
    → (k ≡ Some kind.Semicolon → ts ≡ tokens_after 0 (place + 1) bs)
    → ((next : Option ℕ) → going ended m next ts ≡ Statement s e n → Turn ended m n (place + 1) bs (cut_after ended m next ts) (Statement s e n))
    → going ended m first (seen place len k ++ ts) ≡ Statement s e n
    → Turn ended m n (place + 1) bs (cut_after ended m first (seen place len k ++ ts)) (Statement s e n)
seen_turn None first ended m n place len bs ts s e u f h = f first h
seen_turn (Some k) None ended m n place len bs ts s e u f h =
    pick (cuts k) ended m n (place + 1) bs (found ended m ts) (statement ended m place ts) (Statement s e n)
    (cut_after ended m None ts) (cut_after ended m (Some place) ts) (λ _ i. f None i) (f (Some place)) h
seen_turn (Some k) (Some start) ended m n place len bs ts s e u f h =
    pick (cuts k) ended m n (place + 1) bs (Statement start place (place + 1)) (statement ended m start ts) (Statement s e n)
    (Statement start place (place + 1) ∷ cut_after ended m None ts) (cut_after ended m (Some start) ts) semi (f (Some start)) h
  where
    semi : cuts k ≡ true → Statement start place (place + 1) ≡ Statement s e n
        → Turn ended m n (place + 1) bs (Statement start place (place + 1) ∷ cut_after ended m None ts) (Statement s e n)
    semi c i =
        let j : n ≡ place + 1 = cc in
        let z : place + 1 ≡ place + 1 + 0 = omega arith in
        record {
          k = 0;
          at = j ∙ z;
          within = omega arith;
          is = ap (λ x. x ∷ cut_after ended m None ts) i
              ∙ ap (λ x. Statement s e n ∷ cut_after ended m None x) (u (ap (λ x. Some x) (cuts_is k c)) ∙ ap (λ x. tokens_after 0 x bs) z);
        }

turns : (first : Option ℕ) (ended : Bool) (m s e n left place : ℕ) (bs : List ℕ) → m ≡ place + length bs
    → going ended m first (tokens_after left place bs) ≡ Statement s e n
    → Turn ended m n place bs (cut_after ended m first (tokens_after left place bs)) (Statement s e n)
turns None true m s e n left place [] l h = cc
turns None false m s e n left place [] l h = cc
turns (Some k) true m s e n left place [] l h =
    let j : n ≡ m = cc in record { k = 0; at = omega arith; within = omega arith; is = ap (λ x. x ∷ []) h }
turns (Some k) false m s e n left place [] l h = cc
turns first ended m s e n (suc left) place (b ∷ bs) l h =
    further_turn ended m n place b bs _ _ (turns first ended m s e n left (place + 1) bs (omega (arith, l)) h)
turns first ended m s e n zero place (b ∷ bs) l h =
    let p = piece (b ∷ bs) in
    further_turn ended m n place b bs _ _
    (seen_turn p.kind first ended m n place p.len bs (tokens_after (p.len - 1) (place + 1) bs) s e (alone place b bs)
    (λ next i. turns next ended m s e n (p.len - 1) (place + 1) bs (omega (arith, l)) i) h)
  where
    alone : (place b : ℕ) (bs : List ℕ) → (piece (b ∷ bs)).kind ≡ Some kind.Semicolon
        → tokens_after ((piece (b ∷ bs)).len - 1) (place + 1) bs ≡ tokens_after 0 (place + 1) bs
    alone place b bs e =
        let i : b ≡ 59 = semicolon_is b bs e in
        let j : piece (b ∷ bs) ≡ one kind.Semicolon 1 = ap (λ x. piece (x ∷ bs)) i ∙ semicolon_piece bs in
        ap (λ x. tokens_after (x.len - 1) (place + 1) bs) j

drop_nil : (k : ℕ) → drop {A = ℕ} k [] ≡ []
drop_nil zero = refl
drop_nil (suc k) = refl

drop_drop : (a b : ℕ) (xs : List ℕ) → drop b (drop a xs) ≡ drop (a + b) xs
drop_drop zero b xs = let e : b ≡ 0 + b = omega arith in ap (λ x. drop x xs) e
drop_drop (suc a) b [] = drop_nil b ∙ sym (drop_nil (suc a + b))
drop_drop (suc a) b (x ∷ xs) = let e : suc (a + b) ≡ suc a + b = omega arith in drop_drop a b xs ∙ ap (λ y. drop y (x ∷ xs)) e

pub found_in_turn : FoundInTurn
found_in_turn script from ended s e n within h =
    let w = turns None ended (length script) s e n 0 from (drop from script) (omega (arith, drop_le from script)) h in
    let d = drop_drop from w.k script in (
      omega (arith, drop_le from script, w.at, w.within),
      w.is ∙ ap (λ x. Statement s e n ∷ cut_after ended (length script) None (tokens_after 0 (from + w.k) x)) d
          ∙ ap (λ x. Statement s e n ∷ cut_after ended (length script) None (tokens_after 0 x (drop x script))) (sym w.at),
    )
