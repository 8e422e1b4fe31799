-- Lemmas for the test of capabilities.
use Rattle.std.proofs.Common.{◌≡◌, ◌≤◌, ◌<◌, ◌+◌, ◌-◌, List, [], ◌∷◌, ℕ, suc, ap, refl, length, nat_lt, true, arith}
use Rattle.std.proofs.lemmas.Bool.Decides.{nat_tests}
use Rattle.vdb_model.specs.declared.expr.Expr.{Expr}
use Rattle.vdb_model.specs.declared.source.Caps.{Caps}
use Rattle.vdb_model.specs.Can.{forms}
use Rattle.vdb_model.proofs.FormOf.{form_of_kinds}

pub ruleset form_rules = (form_of_kinds)

pub length_forms : (caps : Caps) (widths : List ℕ) (es : List Expr) → length (forms caps widths es) ≡ length es
length_forms caps widths [] = refl
length_forms caps widths (e ∷ es) = ap suc (length_forms caps widths es)

-- a column past the first table counts on from the next one
pub past_width : (c w total : ℕ) → w ≤ c → nat_lt (c - w) total ≡ nat_lt c (w + total)
past_width c w total h = grind (arith, nat_tests)

pub within_width : (c w total : ℕ) → c < w → nat_lt c (w + total) ≡ true
within_width c w total h = grind (arith, nat_tests)

pub ruleset below_sum = (past_width, within_width)
