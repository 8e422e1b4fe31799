-- The rows of a table, looked up by its number.
use Rattle.std.proofs.Common.{◌≡◌, ◌∙◌, ◌+◌, ◌<◌, ◌≤◌, ◌==◌, ◌≢◌, if◌then◌else◌, false, min, ℕ, List, [], ◌∷◌, length, drop, refl, sym, ap, arith}
use Rattle.std.specs.Prelude.{slice_index_or}
use Rattle.std.proofs.lemmas.Bool.Decides.{nat_tests}
use Rattle.std.proofs.lemmas.List.{drop_more, length-drop}
use Rattle.vdb_model.specs.declared.table.TableDef.{TableDef}
use Rattle.vdb_model.specs.Rows.{Cells}
use Rattle.vdb_model.specs.World.{table_rows}

-- another number stands here
pub table_next : (n i : ℕ) (defs : List TableDef) (tables : List (List Cells)) (d : TableDef) → i < length defs → i < length tables → (slice_index_or defs i d).number ≢ n
    → table_rows (drop (i + 1) defs) (drop (i + 1) tables) n ≡ table_rows (drop i defs) (drop i tables) n
table_next n i defs tables d h k other =
    let here = slice_index_or defs i d in
    let rest = drop (i + 1) defs in
    let more = drop (i + 1) tables in
    let rows = slice_index_or tables i [] in
    let e : (here.number == n) ≡ false = grind (arith, nat_tests) in
    sym (
    ap (λ ds. table_rows ds (drop i tables) n) (drop_more defs i d h)
    ∙ ap (λ ts. table_rows (here ∷ rest) ts n) (drop_more tables i [] k)
    ∙ ap (λ b. if b then rows else table_rows rest more n) e
    )

none_left : (n : ℕ) (defs : List TableDef) (tables : List (List Cells)) → min (length tables) (length defs) ≤ 0 → table_rows defs tables n ≡ []
none_left n [] tables h = refl
none_left n (d ∷ ds) [] h = refl
none_left n (d ∷ ds) (rows ∷ tables) h = absurd (omega arith)

-- it stands nowhere
pub table_nowhere : (n i : ℕ) (defs : List TableDef) (tables : List (List Cells)) → min (length tables) (length defs) ≤ i → table_rows (drop i defs) (drop i tables) n ≡ []
table_nowhere n i defs tables h = none_left n (drop i defs) (drop i tables) (omega (arith, length-drop i defs, length-drop i tables))
