-- The rows of a union are those of its parts.
use Rattle.std.proofs.Common.{◌≡◌, ◌∙◌, List, [], ◌∷◌, ◌++◌, refl, ap, sym}
use Rattle.vdb_model.specs.declared.bag.Bag.{Bag}
use Rattle.vdb_model.specs.Rows.{Cells}
use Rattle.vdb_model.specs.Relations.{union_rows}
use Rattle.rel_eval.specs.Unions.{rows_of}

-- part after part
abbrev pub one_after_another : List (List Cells) → List Cells
one_after_another [] = []
one_after_another (rows ∷ parts) = rows ++ one_after_another parts

pub union_by_rows : (bags : List Bag) → union_rows bags ≡ one_after_another (rows_of bags)
union_by_rows [] = refl
union_by_rows (bag ∷ bags) = ap (λ rows. bag.rows ++ rows) (union_by_rows bags)

pub union_of_parts : (bags : List Bag) (parts : List (List Cells)) → rows_of bags ≡ parts → one_after_another parts ≡ union_rows bags
union_of_parts bags parts e = sym (union_by_rows bags ∙ ap one_after_another e)
