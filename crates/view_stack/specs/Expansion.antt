-- What an expansion keeps, and why there is none.
use Rattle.std.specs.Prelude.{◌≡◌, ℕ, IsFalse, List, [], ⊤}
use Rattle.vdb_model.specs.declared.bag.Bag.{Bag}
use Rattle.vdb_model.specs.declared.rel.Rel.{Rel}
use Rattle.vdb_model.specs.Defined.{Defined}
use Rattle.vdb_model.specs.Rows.{Cells}
use Rattle.vdb_model.specs.Relations.{bag_of, views_after}
use Rattle.vdb_model.specs.World.{view_rels}
use Rattle.vdb_model.specs.Sizes.{is_within_size}
use Rattle.view_stack.specs.declared.fault.ExpandFault.{ExpandFault}
use Rattle.view_stack.specs.declared.fault.ExpandFault.TheVariants.{TooLarge, Memory}

-- over any tables and variables the made relation has the very rows of the relation of the catalog, in the same order, and
-- as many columns; no views are needed for it
abbrev pub HasRowsOf : Defined → Rel → Rel → Type 0
HasRowsOf cat rel made = (tables views : List Bag) (vars : Cells) → bag_of tables views vars made ≡ bag_of tables (views_after tables [] [] (view_rels cat.views)) vars rel

-- both counts, of which one is past its limit
abbrev pub HasCause : ℕ → ℕ → ExpandFault → Type 0
HasCause nodes depth (TooLarge n d) = (n ≡ nodes) × (d ≡ depth) × IsFalse (is_within_size nodes depth)
HasCause nodes depth Memory = ⊤
