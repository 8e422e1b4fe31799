-- A statement that is found in a front of the bytes is found in all.
use Rattle.std.proofs.Common.{eqb-true, inl, inr, ◌≡◌, ◌≤◌, ℕ, zero, suc, ◌+◌, ◌-◌, Bool, true, false, not, ◌&&◌, ◌||◌, ◌==◌, List, [], ◌∷◌, ◌++◌, Option, Some, None, arith, refl, sym, ap, ◌∙◌, length, drop, take, get_or, if◌then◌else◌, append_assoc, ◌⊎◌}
use Rattle.sql_tokens.specs.declared.token.Kind.{Kind}
use Rattle.sql_tokens.specs.declared.token.Kind.TheVariants as kind
use Rattle.sql_tokens.specs.declared.pieces.Opening.{Opening}
use Rattle.sql_tokens.specs.declared.pieces.Opening.TheVariants as begin
use Rattle.sql_tokens.specs.declared.token.Token.{Token}
use Rattle.sql_tokens.specs.declared.cut.Found.{Found}
use Rattle.sql_tokens.specs.declared.cut.Found.TheVariants.{Statement}
use Rattle.sql_tokens.specs.Bytes.{is_letter, is_printable}
use Rattle.sql_tokens.specs.Lengths.{quoted, commented, digits, fraction, exponent}
use Rattle.std.specs.List.{list_all}
use Rattle.std.specs.Str.{is_utf8}
use Rattle.sql_tokens.specs.Pieces.{piece, piece_of, opens, closed, comment, number_of, sign, one}
use Rattle.sql_tokens.specs.Tokens.{tokens_after, seen}
use Rattle.sql_tokens.specs.Cut.{found, statement, cuts}
use Rattle.sql_tokens.specs.Laws.{FoundStays}
use Rattle.sql_tokens.proofs.Steps.{going}
use Rattle.sql_tokens.proofs.Stay.{piece_stays, drop_before}

-- a `;` token begins with the byte `;`

closed_no : (k : Kind) (c : Bool) (n : ℕ) → (k ≡ kind.Semicolon → ⊥) → (one (if c then k else kind.Bad) n).kind ≡ Some kind.Semicolon → ⊥
closed_no k true n f e = let g : k ≡ kind.Semicolon = cc in f g
closed_no k false n f e = cc

quote_no : (k : Kind) (good : List ℕ → Bool) (text : List ℕ) (o : Option ℕ) → (k ≡ kind.Semicolon → ⊥) → (closed k good text o).kind ≡ Some kind.Semicolon → ⊥
quote_no k good text None f e = cc
quote_no k good text (Some n) f e = closed_no k (good (take (1 + n) text)) (1 + n) f e

comment_no : (text : List ℕ) (o : Option ℕ) → (comment text o).kind ≡ Some kind.Semicolon → ⊥
comment_no text None e = cc
comment_no text (Some n) e = cc

number_no : (n p q b : ℕ) → (number_of n p q b).kind ≡ Some kind.Semicolon → ⊥
number_no n p q b e = at (not (p + q == 0)) (is_letter b) e
  where
    at : (c d : Bool) → (if c then one kind.Fraction (n + p + q) else one (if d then kind.Bad else kind.Numeral) n).kind ≡ Some kind.Semicolon → ⊥
    at true d e = cc
    at false true e = cc
    at false false e = cc

-- the cases of a sign, one by one
ladder : (c0 c1 c2 c3 c4 c5 c6 c7 c8 c9 c10 c11 c12 c13 c14 c15 : Bool) → (if c0 then one kind.NotEqual 2 else if c1 then one kind.NotEqual 2 else if c2 then one kind.AtMost 2 else if c3 then one kind.AtLeast 2 else if c4 then one kind.Join 2 else if c5 then one kind.Open 1 else if c6 then one kind.Close 1 else if c7 then one kind.Comma 1 else if c8 then one kind.Dot 1 else if c9 then one kind.Semicolon 1 else if c10 then one kind.Equal 1 else if c11 then one kind.Less 1 else if c12 then one kind.Greater 1 else if c13 then one kind.Plus 1 else if c14 then one kind.Minus 1 else if c15 then one kind.Times 1 else one kind.Bad 1).kind ≡ Some kind.Semicolon → c9 ≡ true
ladder true c1 c2 c3 c4 c5 c6 c7 c8 c9 c10 c11 c12 c13 c14 c15 e = cc
ladder false true c2 c3 c4 c5 c6 c7 c8 c9 c10 c11 c12 c13 c14 c15 e = cc
ladder false false true c3 c4 c5 c6 c7 c8 c9 c10 c11 c12 c13 c14 c15 e = cc
ladder false false false true c4 c5 c6 c7 c8 c9 c10 c11 c12 c13 c14 c15 e = cc
ladder false false false false true c5 c6 c7 c8 c9 c10 c11 c12 c13 c14 c15 e = cc
ladder false false false false false true c6 c7 c8 c9 c10 c11 c12 c13 c14 c15 e = cc
ladder false false false false false false true c7 c8 c9 c10 c11 c12 c13 c14 c15 e = cc
ladder false false false false false false false true c8 c9 c10 c11 c12 c13 c14 c15 e = cc
ladder false false false false false false false false true c9 c10 c11 c12 c13 c14 c15 e = cc
ladder false false false false false false false false false true c10 c11 c12 c13 c14 c15 e = refl
ladder false false false false false false false false false false true c11 c12 c13 c14 c15 e = cc
ladder false false false false false false false false false false false true c12 c13 c14 c15 e = cc
ladder false false false false false false false false false false false false true c13 c14 c15 e = cc
ladder false false false false false false false false false false false false false true c14 c15 e = cc
ladder false false false false false false false false false false false false false false true c15 e = cc
ladder false false false false false false false false false false false false false false false true e = cc
ladder false false false false false false false false false false false false false false false false e = cc

sign_is : (a b : ℕ) → (sign a b).kind ≡ Some kind.Semicolon → a ≡ 59
sign_is a b e = eqb-true a 59 (ladder (a == 60 && b == 62) (a == 33 && b == 61) (a == 60 && b == 61) (a == 62 && b == 61) (a == 124 && b == 124) (a == 40) (a == 41) (a == 44) (a == 46) (a == 59) (a == 61) (a == 60) (a == 62) (a == 43) (a == 45) (a == 42) e)

of_is : (o : Opening) (b : ℕ) (bs : List ℕ) → (piece_of o (b ∷ bs)).kind ≡ Some kind.Semicolon → b ≡ 59
of_is begin.Space b bs e = cc
of_is begin.Line b bs e = cc
of_is begin.Block b bs e = absurd (comment_no (b ∷ bs) (commented false (drop 2 (b ∷ bs))) e)
of_is begin.Letter b bs e = cc
of_is begin.Digit b bs e = absurd (number_no (digits (b ∷ bs)) (fraction (drop (digits (b ∷ bs)) (b ∷ bs))) (exponent (drop (digits (b ∷ bs) + fraction (drop (digits (b ∷ bs)) (b ∷ bs))) (b ∷ bs))) (get_or (b ∷ bs) (digits (b ∷ bs)) 0) e)
of_is begin.Double b bs e = absurd (quote_no kind.Name (list_all is_printable) (b ∷ bs) (quoted 34 false bs) (λ w. cc) e)
of_is begin.Single b bs e = absurd (quote_no kind.Text is_utf8 (b ∷ bs) (quoted 39 false bs) (λ w. cc) e)
of_is begin.Other b bs e = sign_is b _ e

pub semicolon_is : (b : ℕ) (bs : List ℕ) → (piece (b ∷ bs)).kind ≡ Some kind.Semicolon → b ≡ 59
unfolding piece
semicolon_is b bs e = of_is (opens b (get_or (b ∷ bs) 1 0)) b bs e

pub semicolon_piece : (bs : List ℕ) → piece (59 ∷ bs) ≡ one kind.Semicolon 1
unfolding piece
semicolon_piece bs = refl

-- where tokens have a `;`, the bytes have one, after those that are passed

unfoldable pub any_cut : List Token → Bool
any_cut [] = false
any_cut (t ∷ ts) = cuts t.kind || any_cut ts

pub cuts_is : (k : Kind) → cuts k ≡ true → k ≡ kind.Semicolon
cuts_is kind.Semicolon e = refl
cuts_is _ e = cc

first_cut : (k : Option Kind) (place n : ℕ) (ts : List Token) → any_cut (seen place n k ++ ts) ≡ true
    → (k ≡ Some kind.Semicolon) ⊎ (any_cut ts ≡ true)
unfolding any_cut
first_cut None place n ts h = inr h
first_cut (Some k) place n ts h = at (cuts k) (cuts_is k) h
  where
    at : (c : Bool) → (c ≡ true → k ≡ kind.Semicolon) → (c || any_cut ts) ≡ true → (Some k ≡ Some kind.Semicolon) ⊎ (any_cut ts ≡ true)
    at true f h = inl (ap (λ x. Some x) (f refl))
    at false f h = inr h

record Has (left : ℕ) (bs : List ℕ) : Type 0 where
  us : List ℕ
  vs : List ℕ
  is : bs ≡ us ++ 59 ∷ vs
  over : left ≤ length us

some_cut : (left place : ℕ) (bs : List ℕ) → any_cut (tokens_after left place bs) ≡ true → Has left bs
unfolding any_cut
some_cut left place [] h = cc
some_cut (suc left) place (b ∷ bs) h =
    let r = some_cut left (place + 1) bs h in
    record { us = b ∷ r.us; vs = r.vs; is = ap (λ x. b ∷ x) r.is; over = omega (arith, r.over) }
some_cut zero place (b ∷ bs) h =
    let k = piece (b ∷ bs) in
    at (first_cut k.kind place k.len _ h) (λ e. some_cut (k.len - 1) (place + 1) bs e)
  where
    at : ((piece (b ∷ bs)).kind ≡ Some kind.Semicolon) ⊎ (any_cut (tokens_after ((piece (b ∷ bs)).len - 1) (place + 1) bs) ≡ true)
        → (any_cut (tokens_after ((piece (b ∷ bs)).len - 1) (place + 1) bs) ≡ true → Has ((piece (b ∷ bs)).len - 1) bs) → Has 0 (b ∷ bs)
    at (inl e) f = record { us = []; vs = bs; is = ap (λ x. x ∷ bs) (semicolon_is b bs e); over = omega arith }
    at (inr e) f = let r = f e in record { us = b ∷ r.us; vs = r.vs; is = ap (λ x. b ∷ x) r.is; over = omega arith }

-- a statement is found where a token cuts

pick : (c r : Bool) (A B X : Found) → (if c then A else B) ≡ X → (B ≡ X → r ≡ true) → (c || r) ≡ true
pick true r A B X e f = refl
pick false r A B X e f = f e

statement_cut : (m first s e n : ℕ) (ts : List Token) → statement false m first ts ≡ Statement s e n → any_cut ts ≡ true
unfolding any_cut
statement_cut m first s e n [] h = cc
statement_cut m first s e n (t ∷ ts) h =
    pick (cuts t.kind) (any_cut ts) (Statement first t.start (t.start + 1)) (statement false m first ts) (Statement s e n) h
    (statement_cut m first s e n ts)

found_cut : (m s e n : ℕ) (ts : List Token) → found false m ts ≡ Statement s e n → any_cut ts ≡ true
unfolding any_cut
found_cut m s e n [] h = cc
found_cut m s e n (t ∷ ts) h =
    pick (cuts t.kind) (any_cut ts) (found false m ts) (statement false m t.start ts) (Statement s e n) h
    (statement_cut m t.start s e n ts)

going_cut : (first : Option ℕ) (m s e n : ℕ) (ts : List Token) → going false m first ts ≡ Statement s e n → any_cut ts ≡ true
going_cut None m s e n ts h = found_cut m s e n ts h
going_cut (Some k) m s e n ts h = statement_cut m k s e n ts h

-- one piece more

branch : (c : Bool) (A A' B B' X : Found) → (A ≡ X → A' ≡ X) → (B ≡ X → B' ≡ X) → (if c then A else B) ≡ X → (if c then A' else B') ≡ X
branch true A A' B B' X f g h = f h
branch false A A' B B' X f g h = g h

seen_step : (k : Option Kind) (first : Option ℕ) (ended : Bool) (m m' place len : ℕ) (ts ts' : List Token) (X : Found)
    → ((next : Option ℕ) → going false m next ts ≡ X → going ended m' next ts' ≡ X)
    → going false m first (seen place len k ++ ts) ≡ X → going ended m' first (seen place len k ++ ts') ≡ X
seen_step None first ended m m' place len ts ts' X f h = f first h
seen_step (Some k) None ended m m' place len ts ts' X f h =
    branch (cuts k) (found false m ts) (found ended m' ts') (statement false m place ts) (statement ended m' place ts') X (f None) (f (Some place)) h
seen_step (Some k) (Some s) ended m m' place len ts ts' X f h =
    branch (cuts k) (Statement s place (place + 1)) (Statement s place (place + 1)) (statement false m s ts) (statement ended m' s ts') X (λ e. e) (f (Some s)) h

-- the next piece is the same where a `;` comes later
same_piece : (b place : ℕ) (bs zs : List ℕ)
    → ((piece (b ∷ bs)).kind ≡ Some kind.Semicolon) ⊎ (any_cut (tokens_after ((piece (b ∷ bs)).len - 1) (place + 1) bs) ≡ true)
    → piece (b ∷ (bs ++ zs)) ≡ piece (b ∷ bs)
same_piece b place bs zs (inl e) =
    let i : b ≡ 59 = semicolon_is b bs e in rw i (semicolon_piece (bs ++ zs) ∙ sym (semicolon_piece bs))
same_piece b place bs zs (inr e) =
    let r = some_cut ((piece (b ∷ bs)).len - 1) (place + 1) bs e in
    let i : bs ≡ r.us ++ 59 ∷ r.vs = r.is in
    let j : bs ++ zs ≡ r.us ++ 59 ∷ (r.vs ++ zs) = ap (λ x. x ++ zs) i ∙ append_assoc r.us (59 ∷ r.vs) zs in
    let l : (piece (b ∷ (r.us ++ 59 ∷ r.vs))).len ≤ length (b ∷ r.us) = omega (arith, r.over, ap (λ x. (piece (b ∷ x)).len) i) in
    ap (λ x. piece (b ∷ x)) j ∙ piece_stays (b ∷ r.us) r.vs (r.vs ++ zs) (omega arith) l ∙ sym (ap (λ x. piece (b ∷ x)) i)

pub stays : (first : Option ℕ) (ended : Bool) (m m' s e n : ℕ) (left place : ℕ) (bs zs : List ℕ)
    → going false m first (tokens_after left place bs) ≡ Statement s e n
    → going ended m' first (tokens_after left place (bs ++ zs)) ≡ Statement s e n
stays None ended m m' s e n left place [] zs h = cc
stays (Some k) ended m m' s e n left place [] zs h = cc
stays first ended m m' s e n (suc left) place (b ∷ bs) zs h = stays first ended m m' s e n left (place + 1) bs zs h
stays first ended m m' s e n zero place (b ∷ bs) zs h =
    let p = piece (b ∷ bs) in
    let c = first_cut p.kind place p.len (tokens_after (p.len - 1) (place + 1) bs) (going_cut first m s e n _ h) in
    let q = same_piece b place bs zs c in
    let w = seen_step p.kind first ended m m' place p.len (tokens_after (p.len - 1) (place + 1) bs) (tokens_after (p.len - 1) (place + 1) (bs ++ zs)) (Statement s e n)
    (λ next i. stays next ended m m' s e n (p.len - 1) (place + 1) bs zs i) h in
    ap (λ x. going ended m' first (seen place x.len x.kind ++ tokens_after (x.len - 1) (place + 1) (bs ++ zs))) q ∙ w

pub found_stays : FoundStays
found_stays script more from ended s e n within h =
    ap (λ x. found ended (length (script ++ more)) (tokens_after 0 from x)) (drop_before from script more within)
    ∙ stays None ended (length script) (length (script ++ more)) s e n 0 from (drop from script) more h
