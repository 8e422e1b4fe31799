use Rattle.std.proofs.Common.{◌≡◌, ◌||◌, ℕ, List, drop}
use Rattle.metadata.specs.Columns.{has_column}
use Rattle.metadata.specs.Texts.{is_among}
use Rattle.metadata.proofs.parts.column_names.Given as goal

-- the names so far and those to come are all
abbrev pub invariant-loop-part : goal.invariant-loop-part
invariant-loop-part l = (q : List ℕ) → (is_among l.names.texts.keys q || has_column q (drop l.part-index l.parts)) ≡ has_column q l.parts
