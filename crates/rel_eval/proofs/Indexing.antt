-- One more row under a key.
use Rattle.std.proofs.Common.{◌≡◌, ◌∙◌, Bool, true, false, [], ◌∷◌, ◌++◌, if◌then◌else◌, cond, refl, ap, Some, Option, Vec}
use denote.Ref.{Bor}
use Rattle.vdb_model.specs.Rows.{Cells, same_row}
use Rattle.vdb_model.proofs.SameDistinct.{equal_rows}
use Rattle.rel_eval.specs.Indexed.{listed}
use Rattle.rel_eval.specs.Lent.{lent}

pub put_under : {A : Type 0} (m n : Cells → Option (Vec (Bor Cells) A)) (key row : Cells) (rows : Vec (Bor Cells) A)
    → ((q : Cells) → n q ≡ cond (same_row key q) (Some rows) (m q)) → lent rows.items ≡ listed (m key) ++ row ∷ []
    → (q : Cells) → listed (n q) ≡ (if same_row key q then listed (m q) ++ row ∷ [] else listed (m q))
put_under m n key row rows puts is q = ap listed (puts q) ∙ at (same_row key q) refl
  where
    at : (b : Bool) → same_row key q ≡ b → listed (cond b (Some rows) (m q)) ≡ (if b then listed (m q) ++ row ∷ [] else listed (m q))
    at true e = is ∙ ap (λ z. listed (m z) ++ row ∷ []) (equal_rows key q e)
    at false e = refl
