use Rattle.std.proofs.Common.{◌≡◌, drop}
use Rattle.std.specs.List.{list_all}
use Rattle.vdb.specs.Words.{is_printable}
use Rattle.vdb.proofs.words.all_printable.Given as goal

abbrev pub invariant-loop-b : goal.invariant-loop-b
invariant-loop-b l = list_all is_printable (drop l.b-index l.bytes) ≡ list_all is_printable l.fn.bytes
