use Rattle.std.proofs.Common.{◌≡◌, drop}
use Rattle.std.specs.Prelude.{codes}
use Rattle.metadata.specs.Options.{said, source_or, source_of}
use Rattle.metadata.proofs.options.source_of.Given as goal

abbrev pub invariant-loop-setting : goal.invariant-loop-setting
invariant-loop-setting l = said (codes "nameinsource") (source_or l.own) l.source (drop l.setting-index l.settings) ≡ source_of l.own l.settings
