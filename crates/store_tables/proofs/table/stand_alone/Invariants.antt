use Rattle.std.proofs.Common.{◌≡◌, drop}
use Rattle.std.specs.List.{list_all}
use Rattle.store_tables.specs.Keyed.{is_alone}
use Rattle.store_tables.specs.Tallies.{seen_times}
use Rattle.store_tables.proofs.table.stand_alone.Given as goal

-- the keys to come decide
abbrev pub invariant-loop-key : goal.invariant-loop-key
invariant-loop-key l = list_all (is_alone (seen_times l.stood) (seen_times l.gone) (seen_times l.come)) (drop l.key-index l.keys) ≡ list_all (is_alone (seen_times l.stood) (seen_times l.gone) (seen_times l.come)) l.keys
