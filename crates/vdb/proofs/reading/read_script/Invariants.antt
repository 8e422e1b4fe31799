use Rattle.std.proofs.Common.{◌-◌, ◌≤◌, length, vec_len}
use Rattle.vdb.specs.Reading.{TookBytes}
use Rattle.vdb.proofs.reading.read_script.Given as goal

-- what is there so far was taken
abbrev pub invariant-turns : goal.invariant-turns
invariant-turns g l = record {
  short : length l.bytes.items ≤ 16777217;
  took : TookBytes (g.I.Feed.told l.fn.script) (g.I.Feed.told l.script) l.bytes.items;
}

abbrev pub decreases-turns : goal.decreases-turns
decreases-turns g l = 16777217 - vec_len l.bytes
