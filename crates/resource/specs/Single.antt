-- The capabilities of a resource that is asked for rows of one table at a time.
use Rattle.std.specs.Prelude.{Bool, not, ◌&&◌}
use Rattle.vdb_model.specs.declared.source.Caps.{Caps}

-- no joins, DISTINCT, order, limit or count; criteria and writes are left free
abbrev pub asks_one_table : Caps → Bool
asks_one_table caps = not caps.joins && not caps.distinct && not caps.order && not caps.limit && not caps.count_star
