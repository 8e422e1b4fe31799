-- Whether a change keeps primary keys apart, by how often keys stand.
use Rattle.std.specs.Prelude.{ℕ, Bool, nat_le, ◌&&◌}
use Rattle.vdb_model.specs.Rows.{Cells}

-- a key that comes in stands alone: no row has it that stays, and it comes once
abbrev pub is_alone : (Cells → ℕ) → (Cells → ℕ) → (Cells → ℕ) → Cells → Bool
is_alone stood gone come key = nat_le (stood key) (gone key) && nat_le (come key) 1
