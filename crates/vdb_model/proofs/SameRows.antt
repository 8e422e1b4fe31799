-- The operators keep lists of rows that are rearrangements of each other.
use Rattle.std.proofs.Common.{◌≡◌, ◌++◌, List, [], ◌∷◌, ℕ, ap, sym, refl, subst, Bool, true, false, filter, flat_map, IsPermutation, length, arith, if◌then◌else◌}
use Rattle.std.specs.Bool.{⊤}
use Rattle.std.proofs.lemmas.List.Sorted.{IsPermutation-refl, IsPermutation-sym, IsPermutation-trans, IsPermutation-append, length_permutation}
use Rattle.vdb_model.specs.declared.expr.Expr.{Expr}
use Rattle.vdb_model.specs.declared.rel.JoinKind.{JoinKind}
use Rattle.vdb_model.specs.declared.rel.JoinKind.TheVariants.{Inner, Left}
use Rattle.vdb_model.specs.Meaning.{values}
use Rattle.vdb_model.specs.Rows.{Cells, passes, where_rows, select_rows, matches, padded, join_rows, cut, cut_rows}
use Rattle.vdb_model.specs.Answers.{before, crossed, combos, passes_all}
use Rattle.vdb_model.proofs.Rearranged.{IsPermutation-flat_map, IsPermutation-filter}

abbrev pub Same : List Cells → List Cells → Type 0
Same xs ys = IsPermutation xs ys

-- a function on rows as a flat_map
module _ (f : List Cells → List Cells) (g : Cells → List Cells) (is : (xs : List Cells) → f xs ≡ flat_map g xs) where
  pub keeps_by_row : (xs ys : List Cells) → Same xs ys → Same (f xs) (f ys)
  keeps_by_row xs ys h = subst (λ z. Same z (f ys)) (sym (is xs)) (subst (Same (flat_map g xs)) (sym (is ys)) (IsPermutation-flat_map g xs ys h))

pub same_where : (e : Expr) (vars : Cells) (xs ys : List Cells) → Same xs ys → Same (where_rows e vars xs) (where_rows e vars ys)
same_where e vars = IsPermutation-filter (passes e vars)

pub same_passing : (es : List Expr) (xs ys : List Cells) → Same xs ys → Same (filter (passes_all es) xs) (filter (passes_all es) ys)
same_passing es = IsPermutation-filter (passes_all es)

select_by_row : (es : List Expr) (vars : Cells) (xs : List Cells) → select_rows es vars xs ≡ flat_map (λ row. values es row vars ∷ []) xs
select_by_row es vars [] = refl
select_by_row es vars (x ∷ xs) = ap (λ z. values es x vars ∷ z) (select_by_row es vars xs)

pub same_select : (es : List Expr) (vars : Cells) (xs ys : List Cells) → Same xs ys → Same (select_rows es vars xs) (select_rows es vars ys)
same_select es vars = keeps_by_row (select_rows es vars) (λ row. values es row vars ∷ []) (select_by_row es vars)

cut_by_row : (ats : List ℕ) (xs : List Cells) → cut_rows ats xs ≡ flat_map (λ row. cut ats row ∷ []) xs
cut_by_row ats [] = refl
cut_by_row ats (x ∷ xs) = ap (λ z. cut ats x ∷ z) (cut_by_row ats xs)

pub same_cut : (ats : List ℕ) (xs ys : List Cells) → Same xs ys → Same (cut_rows ats xs) (cut_rows ats ys)
same_cut ats = keeps_by_row (cut_rows ats) (λ row. cut ats row ∷ []) (cut_by_row ats)

before_by_row : (row : Cells) (xs : List Cells) → before row xs ≡ flat_map (λ x. (row ++ x) ∷ []) xs
before_by_row row [] = refl
before_by_row row (x ∷ xs) = ap (λ z. (row ++ x) ∷ z) (before_by_row row xs)

same_before : (row : Cells) (xs ys : List Cells) → Same xs ys → Same (before row xs) (before row ys)
same_before row = keeps_by_row (before row) (λ x. (row ++ x) ∷ []) (before_by_row row)

crossed_by_row : (tails xs : List Cells) → crossed xs tails ≡ flat_map (λ x. before x tails) xs
crossed_by_row tails [] = refl
crossed_by_row tails (x ∷ xs) = ap (λ z. before x tails ++ z) (crossed_by_row tails xs)

same_tails : (xs us vs : List Cells) → Same us vs → Same (crossed xs us) (crossed xs vs)
same_tails [] us vs h = IsPermutation-refl []
same_tails (x ∷ xs) us vs h = IsPermutation-append (before x us) (before x vs) (crossed xs us) (crossed xs vs) (same_before x us vs h) (same_tails xs us vs h)

pub same_crossed : (xs ys us vs : List Cells) → Same xs ys → Same us vs → Same (crossed xs us) (crossed ys vs)
same_crossed xs ys us vs h k = IsPermutation-trans (crossed xs us) (crossed ys us) (crossed ys vs) (keeps_by_row (λ zs. crossed zs us) (λ x. before x us) (crossed_by_row us) xs ys h) (same_tails ys us vs k)

abbrev pub SameEach : List (List Cells) → List (List Cells) → Type 0
SameEach [] [] = ⊤
SameEach [] (y ∷ ys) = ⊥
SameEach (x ∷ xs) [] = ⊥
SameEach (x ∷ xs) (y ∷ ys) = Same x y × SameEach xs ys

pub same_combos : (xs ys : List (List Cells)) → SameEach xs ys → Same (combos xs) (combos ys)
same_combos [] [] h = IsPermutation-refl ([] ∷ [])
same_combos [] (y ∷ ys) h = absurd h
same_combos (x ∷ xs) [] h = absurd h
same_combos (x ∷ xs) (y ∷ ys) h = same_crossed x y (combos xs) (combos ys) h.0 (same_combos xs ys h.1)

-- Join of either kind
matches_by_row : (on : Expr) (vars : Cells) (left : Cells) (rights : List Cells) → matches on vars left rights ≡ filter (passes on vars) (before left rights)
matches_by_row on vars left [] = refl
matches_by_row on vars left (r ∷ rights) = go (passes on vars (left ++ r)) (matches_by_row on vars left rights)
  where
    go : (b : Bool) → matches on vars left rights ≡ filter (passes on vars) (before left rights)
        → (if b then (left ++ r) ∷ matches on vars left rights else matches on vars left rights) ≡ (if b then (left ++ r) ∷ filter (passes on vars) (before left rights) else filter (passes on vars) (before left rights))
    go true ih = ap (λ z. (left ++ r) ∷ z) ih
    go false ih = ih

same_matches : (on : Expr) (vars : Cells) (left : Cells) (xs ys : List Cells) → Same xs ys → Same (matches on vars left xs) (matches on vars left ys)
same_matches on vars left xs ys h =
    subst (λ z. Same z (matches on vars left ys)) (sym (matches_by_row on vars left xs)) (subst (Same (filter (passes on vars) (before left xs))) (sym (matches_by_row on vars left ys))
    (IsPermutation-filter (passes on vars) (before left xs) (before left ys) (same_before left xs ys h)))

longer_than_nothing : (y : Cells) (ys : List Cells) → Same [] (y ∷ ys) → ⊥
longer_than_nothing y ys h = let l : length (y ∷ ys) ≡ length {A = Cells} [] = length_permutation [] (y ∷ ys) h in omega (arith, l)

-- what a left row gives is empty on both sides or on none
same_padded : (kind : JoinKind) (n : ℕ) (left : Cells) (xs ys : List Cells) → Same xs ys → Same (padded kind n left xs) (padded kind n left ys)
same_padded Inner n left xs ys h = h
same_padded Left n left [] [] h = IsPermutation-refl (padded Left n left [])
same_padded Left n left [] (y ∷ ys) h = absurd (longer_than_nothing y ys h)
same_padded Left n left (x ∷ xs) [] h = absurd (longer_than_nothing x xs (IsPermutation-sym (x ∷ xs) [] h))
same_padded Left n left (x ∷ xs) (y ∷ ys) h = h

same_rights : (kind : JoinKind) (n : ℕ) (on : Expr) (vars : Cells) (lefts xs ys : List Cells) → Same xs ys → Same (join_rows kind n on vars lefts xs) (join_rows kind n on vars lefts ys)
same_rights kind n on vars [] xs ys h = IsPermutation-refl []
same_rights kind n on vars (l ∷ lefts) xs ys h = IsPermutation-append (padded kind n l (matches on vars l xs)) (padded kind n l (matches on vars l ys)) (join_rows kind n on vars lefts xs) (join_rows kind n on vars lefts ys)
    (same_padded kind n l (matches on vars l xs) (matches on vars l ys) (same_matches on vars l xs ys h)) (same_rights kind n on vars lefts xs ys h)

join_by_row : (kind : JoinKind) (n : ℕ) (on : Expr) (vars : Cells) (rights lefts : List Cells) → join_rows kind n on vars lefts rights ≡ flat_map (λ l. padded kind n l (matches on vars l rights)) lefts
join_by_row kind n on vars rights [] = refl
join_by_row kind n on vars rights (l ∷ lefts) = ap (λ z. padded kind n l (matches on vars l rights) ++ z) (join_by_row kind n on vars rights lefts)

pub same_join : (kind : JoinKind) (n : ℕ) (on : Expr) (vars : Cells) (xs ys us vs : List Cells) → Same xs ys → Same us vs → Same (join_rows kind n on vars xs us) (join_rows kind n on vars ys vs)
same_join kind n on vars xs ys us vs h k = IsPermutation-trans (join_rows kind n on vars xs us) (join_rows kind n on vars ys us) (join_rows kind n on vars ys vs)
    (keeps_by_row (λ zs. join_rows kind n on vars zs us) (λ l. padded kind n l (matches on vars l us)) (join_by_row kind n on vars us) xs ys h)
    (same_rights kind n on vars ys us vs k)
