-- Lists of rows that have each row as often are rearrangements of each other.
use Rattle.std.proofs.Common.{◌≡◌, ℕ, ◌<◌, cond, map, List, [], ◌∷◌, ◌++◌, inl, inr, sym, ap, subst, ◌∙◌, IsPermutation, refl, arith}
use Rattle.std.proofs.lemmas.Bool.{cases_Bool}
use Rattle.std.proofs.lemmas.List.Sorted.{IsPermutation-refl, IsPermutation-sym, IsPermutation-trans, IsPermutation-cons, IsPermutation-middle, IsPermutation-map, sum_by-IsPermutation}
use Rattle.std.specs.List.{filter}
use Rattle.vdb_model.specs.declared.expr.Expr.{Expr}
use Rattle.vdb_model.specs.Answers.{passes_all}
use Rattle.vdb_model.specs.Rows.{Cells, same_row, cut, cut_rows}
use Rattle.vdb_model.proofs.Rearranged.{IsPermutation-filter}
use Rattle.vdb_model.proofs.SameDistinct.{equal_rows}
use Rattle.resource.specs.Checked.{passing_cut}
use Rattle.store_tables.specs.Counting.{times, SameBag}
use Rattle.store_tables.proofs.Times.{alike, once, never, times-append, times-cons}

-- where a row stands among others
record Found (row : Cells) (rows : List Cells) : Type 0 where
  before : List Cells
  after : List Cells
  is : rows ≡ before ++ row ∷ after

found : (row : Cells) (rows : List Cells) → 0 < times row rows → Found row rows
found row [] some = absurd (omega arith)
found row (o ∷ rows) some =
    elim (cases_Bool (same_row row o)) [
      | inl same ↦ record { before = []; after = rows; is = ap (λ (x : Cells). x ∷ rows) (sym (equal_rows row o same)) }
      | inr other ↦
          let f = found row rows (omega (arith, some, times-cons row o rows, never row o other)) in
          record { before = o ∷ f.before; after = f.after; is = ap (λ (x : List Cells). o ∷ x) f.is }
    ]

none_left : (rows : List Cells) → ((r : Cells) → times r rows ≡ 0) → rows ≡ []
none_left [] h = refl
none_left (o ∷ rows) h = absurd (omega (arith, h o, times-cons o o rows, once o o (alike.refl o)))

pub rearranged : (xs ys : List Cells) → ((r : Cells) → times r xs ≡ times r ys) → IsPermutation xs ys
rearranged [] ys h = subst (IsPermutation []) (sym (none_left ys (λ r. sym (h r)))) (IsPermutation-refl [])
rearranged (x ∷ xs) ys h =
    let f = found x ys (omega (arith, h x, times-cons x x xs, once x x (alike.refl x))) in
    let less : (r : Cells) → times r xs ≡ times r (f.before ++ f.after) = λ r. without_it r f (h r) in
    subst (IsPermutation (x ∷ xs)) (sym f.is)
    (IsPermutation-trans (x ∷ xs) (x ∷ (f.before ++ f.after)) (f.before ++ x ∷ f.after)
    (IsPermutation-cons x xs (f.before ++ f.after) (rearranged xs (f.before ++ f.after) less))
    (IsPermutation-sym (f.before ++ x ∷ f.after) (x ∷ (f.before ++ f.after)) (IsPermutation-middle f.before x f.after)))
  where
    without_it : (r : Cells) (f : Found x ys) → times r (x ∷ xs) ≡ times r ys → times r xs ≡ times r (f.before ++ f.after)
    without_it r f e =
        let whole : times r ys ≡ times r (f.before ++ x ∷ f.after) = ap (times r) f.is in
        omega (arith, e, whole, times-cons r x xs, times-cons r x f.after, times-append r f.before (x ∷ f.after), times-append r f.before f.after)

cut_rows-map : (columns : List ℕ) (rows : List Cells) → cut_rows columns rows ≡ map (cut columns) rows
cut_rows-map columns [] = refl
cut_rows-map columns (row ∷ rows) = ap (λ l. cut columns row ∷ l) (cut_rows-map columns rows)

pub times-permutation : (r : Cells) (xs ys : List Cells) → IsPermutation xs ys → times r ys ≡ times r xs
times-permutation r xs ys p = sum_by-IsPermutation (λ x. cond (same_row r x) 1 0) xs ys p

-- what passes conditions and is cut stands as often where the rows do
pub SameBag-passing : (es : List Expr) (columns : List ℕ) (xs ys : List Cells) → SameBag xs ys → SameBag (passing_cut es columns xs) (passing_cut es columns ys)
SameBag-passing es columns xs ys same = λ r.
    let kept = IsPermutation-filter (passes_all es) xs ys (rearranged xs ys same) in
    let made = IsPermutation-map (cut columns) (filter (passes_all es) xs) (filter (passes_all es) ys) kept in
    ap (times r) (cut_rows-map columns (filter (passes_all es) xs)) ∙ sym (times-permutation r _ _ made) ∙ sym (ap (times r) (cut_rows-map columns (filter (passes_all es) ys)))
