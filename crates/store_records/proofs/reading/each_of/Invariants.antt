use Rattle.std.proofs.Common.{◌≡◌, ◌-◌}
use Rattle.store_records.specs.Fields.{each_at}
use Rattle.store_records.proofs.Loop.{with_front}
use Rattle.store_records.proofs.reading.each_of.Given as goal

-- what was read and what is still read are all
abbrev pub invariant-loop : goal.invariant-loop
invariant-loop g l = with_front l.items.items (each_at g.T.Field.at (l.count - l.counter) l.rest) ≡ each_at g.T.Field.at l.count l.bytes
