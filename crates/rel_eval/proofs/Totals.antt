-- Sums that are gone through.
use Rattle.std.proofs.Common.{◌≡◌, ◌∙◌, ℤ, pos, ◌+ℤ◌, ◌-ℤ◌, ◌*ℤ◌, List, ◌∷◌, refl, ap, sym, arith}
use Rattle.std.proofs.Math.IntN.{pred_ℤ, suc_ℤ-*ℤ, pred_ℤ-*ℤ, +ℤ_one, pred-suc}
use Rattle.std.proofs.lemmas.Int.{ints}
use Rattle.vdb_base.specs.declared.value.Value.{Value}
use Rattle.vdb_base.specs.declared.value.Value.TheVariants.{Null, Bool as Truth, Num, Str}
use Rattle.vdb_model.specs.Groups.{total}
use Rattle.rel_eval.specs.Sums.{number_in}

pub total_step : (v : Value) (vs : List Value) → total (v ∷ vs) ≡ number_in v +ℤ total vs
total_step (Num n) vs = refl
total_step Null vs = grind (arith, ints)
total_step (Truth b) vs = grind (arith, ints)
total_step (Str s) vs = grind (arith, ints)

-- one more or one less of the upper word
up : (low n product base : ℤ) → ((low +ℤ n) -ℤ base) +ℤ (product +ℤ base) ≡ (low +ℤ product) +ℤ n
up low n product base = omega (arith, ints)

down : (low n product base : ℤ) → ((low +ℤ n) +ℤ base) +ℤ (product -ℤ base) ≡ (low +ℤ product) +ℤ n
down low n product base = omega (arith, ints)

less_one : (c : ℤ) → c -ℤ pos 1 ≡ pred_ℤ c
less_one c = pred_of (c -ℤ pos 1) c (omega (arith, ints))
  where
    pred_of : (a b : ℤ) → a +ℤ pos 1 ≡ b → a ≡ pred_ℤ b
    pred_of a b e = sym (pred-suc a) ∙ ap pred_ℤ (sym (+ℤ_one a) ∙ e)

pub carried_up : (low n carries base : ℤ) → ((low +ℤ n) -ℤ base) +ℤ ((carries +ℤ pos 1) *ℤ base) ≡ (low +ℤ (carries *ℤ base)) +ℤ n
carried_up low n carries base = ap (λ z. ((low +ℤ n) -ℤ base) +ℤ z) (ap (λ z. z *ℤ base) (+ℤ_one carries) ∙ suc_ℤ-*ℤ carries base) ∙ up low n (carries *ℤ base) base

pub carried_down : (low n carries base : ℤ) → ((low +ℤ n) +ℤ base) +ℤ ((carries -ℤ pos 1) *ℤ base) ≡ (low +ℤ (carries *ℤ base)) +ℤ n
carried_down low n carries base = ap (λ z. ((low +ℤ n) +ℤ base) +ℤ z) (ap (λ z. z *ℤ base) (less_one carries) ∙ pred_ℤ-*ℤ carries base) ∙ down low n (carries *ℤ base) base

pub next_total : (sum sum' n : ℤ) (v : Value) (vs : List Value) (all : ℤ) → sum +ℤ total (v ∷ vs) ≡ all → n ≡ number_in v → sum' ≡ sum +ℤ n → sum' +ℤ total vs ≡ all
next_total sum sum' n v vs all e f g = ap (λ z. z +ℤ total vs) (g ∙ ap (λ z. sum +ℤ z) f) ∙ together sum (number_in v) (total vs) ∙ ap (λ z. sum +ℤ z) (sym (total_step v vs)) ∙ e
  where
    together : (a b c : ℤ) → (a +ℤ b) +ℤ c ≡ a +ℤ (b +ℤ c)
    together a b c = omega (arith, ints)
