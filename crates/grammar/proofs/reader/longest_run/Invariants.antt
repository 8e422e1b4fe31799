use Rattle.std.proofs.Common.{◌<◌, take, vec_len}
use Rattle.grammar.specs.Table.{shapes}
use Rattle.grammar.specs.Reading.{start_of}
use Rattle.grammar.specs.Runs.{Follows}
use Rattle.grammar.proofs.reader.longest_run.Given as goal

abbrev pub invariant-loop-at : goal.invariant-loop-at
invariant-loop-at l = record {
  some : 0 < vec_len l.threads;
  follows : Follows (shapes l.rules) (start_of l.start) (take l.at l.text) l.at l.done.items l.threads.items;
}
