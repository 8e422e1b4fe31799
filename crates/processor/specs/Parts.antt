-- The rows of a part of a relation, which were lent or made.
use Rattle.std.specs.Prelude.{List}
use Rattle.vdb_model.specs.declared.bag.Bag.{Bag}
use Rattle.vdb_model.specs.Rows.{Cells}
use Rattle.processor.specs.declared.part.Held.{Held}
use Rattle.processor.specs.declared.part.Held.TheVariants.{Lent, Made}
use Rattle.processor.specs.declared.part.Part.{Part}

abbrev pub held : Held → List Cells
held (Lent rows) = rows.now
held (Made rows) = rows

-- the bag that a part is
abbrev pub bag_of_part : Part → Bag
bag_of_part part = record { width = part.width; rows = held part.rows }
