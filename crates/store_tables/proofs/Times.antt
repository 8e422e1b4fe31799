-- How often a row stands among rows.
use Rattle.std.proofs.Common.{◌≡◌, ℕ, ◌+◌, ◌-◌, ◌<◌, Bool, true, false, cond, List, [], ◌∷◌, ◌++◌, length, get_or, take, inl, inr, refl, sym, ap, ◌∙◌, arith}
use Rattle.std.specs.Cmp.{IsEquivalence}
use Rattle.std.proofs.lemmas.Cmp.{eq_by_cmp_equiv}
use Rattle.std.proofs.lemmas.Bool.{cases_Bool}
use Rattle.std.proofs.lemmas.List.{take_more}
use Rattle.std.proofs.lemmas.List.Sums.{sum_by-append}
use Rattle.vdb_base.specs.Total.{row_total}
use Rattle.vdb_model.specs.Rows.{Cells, same_row}
use Rattle.vdb_model.proofs.SameDistinct.{equal_rows}
use Rattle.vdb_model.specs.Deltas.{without_one}
use Rattle.store_tables.specs.Counting.{times}

pub alike : IsEquivalence same_row
alike = eq_by_cmp_equiv row_total

pub times-append : (r : Cells) (xs ys : List Cells) → times r (xs ++ ys) ≡ times r xs + times r ys
times-append r xs ys = sum_by-append (λ x. cond (same_row r x) 1 0) xs ys

pub times-cons : (r x : Cells) (xs : List Cells) → times r (x ∷ xs) ≡ times r (x ∷ []) + times r xs
times-cons r x xs = times-append r (x ∷ []) xs

pub once : (r x : Cells) → same_row r x ≡ true → times r (x ∷ []) ≡ 1
once r x e = rw e (omega arith)

pub never : (r x : Cells) → same_row r x ≡ false → times r (x ∷ []) ≡ 0
never r x e = rw e (omega arith)

pub times_more : (r : Cells) (rows : List Cells) (i : ℕ) (x : Cells) → i < length rows → x ≡ get_or rows i x → times r (take (i + 1) rows) ≡ times r (take i rows) + times r (x ∷ [])
times_more r rows i x lt is =
    let front : times r (take (i + 1) rows) ≡ times r (take i rows ++ x ∷ []) = ap (times r) (take_more rows i x lt ∙ ap (λ (y : Cells). take i rows ++ y ∷ []) (sym is)) in
    front ∙ times-append r (take i rows) (x ∷ [])

pub times-without_one : (r x : Cells) (rows : List Cells) → times r (without_one x rows) ≡ times r rows - times r (x ∷ [])
times-without_one r x [] = omega arith
times-without_one r x (o ∷ rows) = by (same_row x o) refl (times-without_one r x rows)
  where
    by : (b : Bool) → same_row x o ≡ b → times r (without_one x rows) ≡ times r rows - times r (x ∷ []) → times r (cond b rows (o ∷ without_one x rows)) ≡ times r (o ∷ rows) - times r (x ∷ [])
    by true is rest =
        let here : times r (x ∷ []) ≡ times r (o ∷ []) = ap (λ (y : Cells). times r (y ∷ [])) (equal_rows x o is) in
        omega (arith, here, times-cons r o rows)
    by false is rest =
        elim (cases_Bool (same_row r x)) [
          | inl same ↦
              let apart : times r (o ∷ []) ≡ 0 = never r o (ap (λ (y : Cells). same_row y o) (equal_rows r x same) ∙ is) in
              omega (arith, rest, apart, times-cons r o rows, times-cons r o (without_one x rows))
          | inr other ↦ omega (arith, rest, never r x other, times-cons r o rows, times-cons r o (without_one x rows))
        ]
