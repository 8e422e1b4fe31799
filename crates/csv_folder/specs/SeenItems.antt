-- The items that were seen so far.
use Rattle.std.specs.Prelude.{List}
use Rattle.csv_folder.specs.declared.seen.Seen.{Seen}

abbrev pub items_of : {K : Type 0} → Seen K → List K
items_of seen = seen.items.keys
