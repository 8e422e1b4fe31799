use Rattle.std.proofs.Common.{◌≡◌, ℕ, ◌<◌, get_or}
use Rattle.vdb_model.specs.declared.table.TableDef.{TableDef}
use Rattle.store_tables.proofs.place.place_of.Given as goal

-- no definition so far has the number
abbrev pub invariant-loop-i : goal.invariant-loop-i
invariant-loop-i l = (k : ℕ) (d : TableDef) → k < l.i → (get_or l.defs k d).number ≡ l.number → ⊥
