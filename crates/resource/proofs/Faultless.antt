-- Tables without a fault are those that their definitions take.
use Rattle.std.proofs.Common.{◌≡◌, ◌∙◌, ◌+◌, Bool, true, false, ◌&&◌, ◌==◌, if◌then◌else◌, ℕ, suc, List, [], ◌∷◌, Option, Some, None, length, refl, ap, arith}
use Rattle.std.proofs.lemmas.Bool.{and_parts, and_from}
use Rattle.std.proofs.lemmas.Bool.Decides.{nat_tests}
use Rattle.vdb_model.specs.declared.table.ColumnDef.{ColumnDef}
use Rattle.vdb_model.specs.declared.table.TableDef.{TableDef}
use Rattle.vdb_model.specs.Rows.{Cells}
use Rattle.vdb_model.specs.World.{takes_cell, takes_row, takes_rows, keeps_key, is_table, is_world}
use Rattle.resource.specs.Reading.{Reading, StoreFault}
use Rattle.resource.specs.Stored.{bad_column, fault_at, first_fault, cell_fault, all_long, table_fault, tables_fault}

same_number : (a b : ℕ) → (a == b) ≡ true → a ≡ b
same_number a b h = grind (arith, nat_tests)

-- a row as long as its columns without a bad cell is taken
pub taken_cells : (at : ℕ) (cs : List ColumnDef) (row : Cells) → length row ≡ length cs → bad_column at cs row ≡ None → takes_row cs row ≡ true
taken_cells at [] [] long h = refl
taken_cells at [] (v ∷ vs) long h = absurd (omega arith)
taken_cells at (c ∷ cs) [] long h = absurd (omega arith)
taken_cells at (c ∷ cs) (v ∷ vs) long h =
    let more : length vs ≡ length cs = omega arith in
    here (takes_cell c v) refl h (λ rest. taken_cells (at + 1) cs vs more rest)
  where
    here : (b : Bool) → takes_cell c v ≡ b → (if b then bad_column (at + 1) cs vs else Some at) ≡ None → (bad_column (at + 1) cs vs ≡ None → takes_row cs vs ≡ true) → (takes_cell c v && takes_row cs vs) ≡ true
    here true is h more = and_from (takes_cell c v) (takes_row cs vs) is (more h)
    here false is h more = cc

-- a row that is taken is as long as its columns, and has no bad cell
good_cells : (at : ℕ) (cs : List ColumnDef) (row : Cells) → takes_row cs row ≡ true → (length row ≡ length cs) × (bad_column at cs row ≡ None)
good_cells at [] [] h = (refl, refl)
good_cells at [] (v ∷ vs) h = cc
good_cells at (c ∷ cs) [] h = cc
good_cells at (c ∷ cs) (v ∷ vs) h =
    let parts = and_parts (takes_cell c v) (takes_row cs vs) h in
    let rest = good_cells (at + 1) cs vs parts.1 in
    (ap suc rest.0, ap (λ b. if b then bad_column (at + 1) cs vs else Some at) parts.0 ∙ rest.1)

first_none : (a b : Option Reading) → first_fault a b ≡ None → (a ≡ None) × (b ≡ None)
first_none None b h = (refl, h)
first_none (Some fault) b h = cc

both_none : (a b : Option Reading) → a ≡ None → b ≡ None → first_fault a b ≡ None
both_none None b h k = k
both_none (Some fault) b h k = cc

at_none : (table row : ℕ) (col : Option ℕ) → fault_at table row col ≡ None → col ≡ None
at_none table row None h = refl
at_none table row (Some col) h = cc

taken_rows : (table : ℕ) (cs : List ColumnDef) (at : ℕ) (rows : List Cells) → all_long (length cs) rows ≡ true → cell_fault table cs at rows ≡ None → takes_rows cs rows ≡ true
taken_rows table cs at [] long h = refl
taken_rows table cs at (row ∷ rows) long h =
    let parts = first_none (fault_at table at (bad_column 1 cs row)) (cell_fault table cs (at + 1) rows) h in
    let longs = and_parts (length row == length cs) (all_long (length cs) rows) long in
    let width : length row ≡ length cs = same_number (length row) (length cs) longs.0 in
    and_from (takes_row cs row) (takes_rows cs rows) (taken_cells 1 cs row width (at_none table at (bad_column 1 cs row) parts.0)) (taken_rows table cs (at + 1) rows longs.1 parts.1)

good_rows : (table : ℕ) (cs : List ColumnDef) (at : ℕ) (rows : List Cells) → takes_rows cs rows ≡ true → (all_long (length cs) rows ≡ true) × (cell_fault table cs at rows ≡ None)
good_rows table cs at [] h = (refl, refl)
good_rows table cs at (row ∷ rows) h =
    let parts = and_parts (takes_row cs row) (takes_rows cs rows) h in
    let cells = good_cells 1 cs row parts.0 in
    let rest = good_rows table cs (at + 1) rows parts.1 in
    let long : (length row == length cs) ≡ true = same_test (length row) (length cs) cells.0 in (
      and_from (length row == length cs) (all_long (length cs) rows) long rest.0,
      both_none (fault_at table at (bad_column 1 cs row)) (cell_fault table cs (at + 1) rows) (ap (fault_at table at) cells.1) rest.1,
    )
  where
    same_test : (a b : ℕ) → a ≡ b → (a == b) ≡ true
    same_test a b h = grind (arith, nat_tests)

-- a table without a fault is one that its definition takes
faultless : (d : TableDef) (rows : List Cells) → table_fault d rows ≡ None → is_table d rows ≡ true
faultless d rows h = here (all_long (length d.columns) rows) (keeps_key d.key rows) refl refl h
  where
    here : (a b : Bool) → all_long (length d.columns) rows ≡ a → keeps_key d.key rows ≡ b → (if a && b then cell_fault (d.number + 1) d.columns 1 rows else Some (StoreFault (d.number + 1))) ≡ None → is_table d rows ≡ true
    here true true is key h = and_from (takes_rows d.columns rows) (keeps_key d.key rows) (taken_rows (d.number + 1) d.columns 1 rows is h) key
    here true false is key h = cc
    here false b is key h = cc

without_fault : (d : TableDef) (rows : List Cells) → is_table d rows ≡ true → table_fault d rows ≡ None
without_fault d rows h =
    let parts = and_parts (takes_rows d.columns rows) (keeps_key d.key rows) h in
    let good = good_rows (d.number + 1) d.columns 1 rows parts.0 in
    ap (λ b. if b then cell_fault (d.number + 1) d.columns 1 rows else Some (StoreFault (d.number + 1))) (and_from (all_long (length d.columns) rows) (keeps_key d.key rows) good.0 parts.1) ∙ good.1

-- as many tables as definitions
abbrev pub are_as_many : List TableDef → List (List Cells) → Bool
are_as_many [] [] = true
are_as_many [] (rows ∷ tables) = false
are_as_many (d ∷ ds) [] = false
are_as_many (d ∷ ds) (rows ∷ tables) = are_as_many ds tables

-- tables without a fault are a world, as they are kept and as they are left
pub worlds : (defs : List TableDef) (kept left : List (List Cells)) → are_as_many defs kept ≡ true → are_as_many defs left ≡ true → tables_fault defs kept left ≡ None
    → (is_world defs kept ≡ true) × (is_world defs left ≡ true)
worlds [] [] [] p q h = (refl, refl)
worlds [] [] (after ∷ left) p q h = cc
worlds [] (rows ∷ kept) left p q h = cc
worlds (d ∷ ds) [] left p q h = cc
worlds (d ∷ ds) (rows ∷ kept) [] p q h = cc
worlds (d ∷ ds) (rows ∷ kept) (after ∷ left) p q h =
    let parts = first_none (first_fault (table_fault d rows) (table_fault d after)) (tables_fault ds kept left) h in
    let here = first_none (table_fault d rows) (table_fault d after) parts.0 in
    let rest = worlds ds kept left p q parts.1 in
    (and_from (is_table d rows) (is_world ds kept) (faultless d rows here.0) rest.0, and_from (is_table d after) (is_world ds left) (faultless d after here.1) rest.1)

-- and two worlds have no fault
pub no_faults : (defs : List TableDef) (kept left : List (List Cells)) → is_world defs kept ≡ true → is_world defs left ≡ true → tables_fault defs kept left ≡ None
no_faults [] kept left p q = refl
no_faults (d ∷ ds) [] left p q = refl
no_faults (d ∷ ds) (rows ∷ kept) [] p q = refl
no_faults (d ∷ ds) (rows ∷ kept) (after ∷ left) p q =
    let a = and_parts (is_table d rows) (is_world ds kept) p in
    let b = and_parts (is_table d after) (is_world ds left) q in
    both_none (first_fault (table_fault d rows) (table_fault d after)) (tables_fault ds kept left)
    (both_none (table_fault d rows) (table_fault d after) (without_fault d rows a.0) (without_fault d after b.0)) (no_faults ds kept left a.1 b.1)
