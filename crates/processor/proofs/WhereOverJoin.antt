-- A condition over an inner join is one more condition of the join.
use Rattle.std.proofs.Common.{◌≡◌, ◌∙◌, ◌+◌, ℕ, Bool, true, false, ◌&&◌, List, [], ◌∷◌, ◌++◌, if◌then◌else◌, ap, refl}
use Rattle.std.specs.List.{filter}
use Rattle.std.proofs.lemmas.List.Elements.{filter-append}
use Rattle.vdb_base.specs.declared.value.Value.{Value}
use Rattle.vdb_base.specs.declared.value.Value.TheVariants.{Null, Bool as Truth, Num, Str}
use Rattle.vdb_model.specs.declared.expr.Expr.{Expr}
use Rattle.vdb_model.specs.declared.expr.Expr.TheVariants.{And}
use Rattle.vdb_model.specs.declared.rel.JoinKind.TheVariants.{Inner}
use Rattle.vdb_model.specs.Logic.{is_true, all_of}
use Rattle.vdb_model.specs.Meaning.{value}
use Rattle.vdb_model.specs.Rows.{Cells, passes, where_rows, matches, join_rows}
use Rattle.vdb_model.proofs.Value.{value-And}

both_true : (a b : Value) → is_true (all_of (a ∷ b ∷ [])) ≡ (is_true a && is_true b)
both_true Null Null = refl
both_true Null (Truth true) = refl
both_true Null (Truth false) = refl
both_true Null (Num n) = refl
both_true Null (Str s) = refl
both_true (Num m) Null = refl
both_true (Num m) (Truth true) = refl
both_true (Num m) (Truth false) = refl
both_true (Num m) (Num n) = refl
both_true (Num m) (Str s) = refl
both_true (Str t) Null = refl
both_true (Str t) (Truth true) = refl
both_true (Str t) (Truth false) = refl
both_true (Str t) (Num n) = refl
both_true (Str t) (Str s) = refl
both_true (Truth true) Null = refl
both_true (Truth true) (Truth true) = refl
both_true (Truth true) (Truth false) = refl
both_true (Truth true) (Num n) = refl
both_true (Truth true) (Str s) = refl
both_true (Truth false) Null = refl
both_true (Truth false) (Truth true) = refl
both_true (Truth false) (Truth false) = refl
both_true (Truth false) (Num n) = refl
both_true (Truth false) (Str s) = refl

module _ (on condition : Expr) (vars : Cells) where
  abbrev together : Expr
  together = And (on ∷ condition ∷ [])

  passes_both : (row : Cells) → passes together vars row ≡ (passes on vars row && passes condition vars row)
  passes_both row = ap is_true (value-And row vars (on ∷ condition ∷ [])) ∙ both_true (value on row vars) (value condition row vars)

  where_matches : (left : Cells) (rights : List Cells) → filter (passes condition vars) (matches on vars left rights) ≡ matches together vars left rights
  where_matches left [] = refl
  where_matches left (right ∷ rights) = at (passes on vars (left ++ right)) (passes condition vars (left ++ right)) refl refl (where_matches left rights)
    where
      at : (c d : Bool) → passes on vars (left ++ right) ≡ c → passes condition vars (left ++ right) ≡ d
          → filter (passes condition vars) (matches on vars left rights) ≡ matches together vars left rights
          → filter (passes condition vars) (if c then (left ++ right) ∷ matches on vars left rights else matches on vars left rights)
          ≡ (if passes together vars (left ++ right) then (left ++ right) ∷ matches together vars left rights else matches together vars left rights)
      at true true e f more = let t : passes together vars (left ++ right) ≡ true = passes_both (left ++ right) ∙ ap (λ x. x && passes condition vars (left ++ right)) e ∙ f in rw (t, f) (ap (λ x. (left ++ right) ∷ x) more)
      at true false e f more = let t : passes together vars (left ++ right) ≡ false = passes_both (left ++ right) ∙ ap (λ x. x && passes condition vars (left ++ right)) e ∙ f in rw (t, f) more
      at false d e f more = let t : passes together vars (left ++ right) ≡ false = passes_both (left ++ right) ∙ ap (λ x. x && passes condition vars (left ++ right)) e in rw t more

  pub where_join : (width : ℕ) (lefts rights : List Cells) → where_rows condition vars (join_rows Inner width on vars lefts rights) ≡ join_rows Inner width together vars lefts rights
  where_join width [] rights = refl
  where_join width (left ∷ lefts) rights =
      filter-append (passes condition vars) (matches on vars left rights) (join_rows Inner width on vars lefts rights)
      ∙ ap (λ x. x ++ filter (passes condition vars) (join_rows Inner width on vars lefts rights)) (where_matches left rights)
      ∙ ap (λ x. matches together vars left rights ++ x) (where_join width lefts rights)
