-- Which tables a relation reads, itself and not by views.
use Rattle.std.specs.Prelude.{ℕ, Bool, false, ◌||◌, ◌==◌, List, [], ◌∷◌, length, slice_index_or, ◌≡◌, ◌<◌}
use Rattle.vdb_model.specs.declared.rel.Rel.{Rel}
use Rattle.vdb_model.specs.declared.rel.Rel.TheOpen.{Rel-F}
use Rattle.vdb_model.specs.declared.rel.Rel.TheFolds.{fold-Rel}

abbrev pub any_true : List Bool → Bool
any_true [] = false
any_true (b ∷ bs) = b || any_true bs

-- one layer of a relation, by whether its parts read the table
abbrev pub reads_step : ℕ → Rel-F Bool → Bool
reads_step table Rel-F.One = false
reads_step table (Rel-F.Table t) = t == table
reads_step table (Rel-F.View v) = false
reads_step table (Rel-F.Where r condition) = r
reads_step table (Rel-F.Select r es) = r
reads_step table (Rel-F.Join kind l r on) = l || r
reads_step table (Rel-F.Group r keys aggs) = r
reads_step table (Rel-F.Distinct r) = r
reads_step table (Rel-F.Union rs) = any_true rs

unfoldable pub reads : ℕ → Rel → Bool
reads table = fold-Rel Bool (reads_step table)

-- the same of each relation of a list
abbrev pub reads_each : ℕ → List Rel → List Bool
reads_each table [] = []
reads_each table (r ∷ rs) = reads table r ∷ reads_each table rs

-- the mark of a table, by its number
abbrev pub mark : List Bool → ℕ → Bool
mark marks table = slice_index_or marks table false

-- as many marks as before, each set where it was, or where that holds of the table
pub record Marks (holds : ℕ → Bool) (old new : List Bool) : Type 0 where
  pub count : length new ≡ length old
  pub each : (table : ℕ) → table < length old → mark new table ≡ (mark old table || holds table)
