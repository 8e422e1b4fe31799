use Rattle.std.proofs.Common.{◌≡◌, drop}
use Rattle.std.specs.List.{list_all}
use Rattle.metadata.specs.Options.{is_no_nul}
use Rattle.metadata.proofs.options.has_no_nul.Given as goal

abbrev pub invariant-loop-byte : goal.invariant-loop-byte
invariant-loop-byte l = list_all is_no_nul (drop l.byte-index l.bytes) ≡ list_all is_no_nul l.bytes
