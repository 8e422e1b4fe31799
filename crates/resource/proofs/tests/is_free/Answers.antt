use Rattle.std.proofs.Common.{◌≡◌, ◌∙◌, ◌==◌, true, ℕ, List, [], ◌∷◌, length, refl, sym, ap, arith}
use Rattle.std.proofs.lemmas.Bool.Decides.{nat_tests}
use Rattle.vdb_model.specs.declared.table.TableDef.{TableDef}
use Rattle.vdb_model.specs.Defs.{def_of}
use Rattle.resource.proofs.tests.is_free.Goals as goal

nothing : (xs : List (List ℕ)) → (length xs == 0) ≡ true → xs ≡ []
nothing [] h = refl
nothing (x ∷ xs) h = absurd (grind (arith, nat_tests))

pub returns-in-Some : goal.returns-in-Some
returns-in-Some c h =
    let found = c.in-Some.ensures.0 ∙ ap (λ ds. def_of ds 0) c.as_slice.ensures in
    sym (ap (λ (d : TableDef). d.patterns) found) ∙ nothing c.in-Some.def.now.patterns (sym c.is_empty.ensures ∙ h)
