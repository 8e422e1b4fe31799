-- The items that a select has chosen, one more.
use Rattle.std.proofs.Common.{◌≡◌, ◌++◌, List, [], ◌∷◌, ap, refl}
use Rattle.resolver.specs.declared.selected.Chosen.{Chosen}
use Rattle.resolver.specs.Items as item

pub chosen_exprs_more : (cs : List Chosen) (c : Chosen) → item.exprs_of (cs ++ c ∷ []) ≡ item.exprs_of cs ++ c.expr ∷ []
chosen_exprs_more [] c = refl
chosen_exprs_more (d ∷ cs) c = ap (λ z. d.expr ∷ z) (chosen_exprs_more cs c)

pub chosen_columns_more : (cs : List Chosen) (c : Chosen) → item.columns_of (cs ++ c ∷ []) ≡ item.columns_of cs ++ c.column ∷ []
chosen_columns_more [] c = refl
chosen_columns_more (d ∷ cs) c = ap (λ z. d.column ∷ z) (chosen_columns_more cs c)
