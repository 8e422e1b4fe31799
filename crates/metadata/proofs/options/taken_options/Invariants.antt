use Rattle.std.proofs.Common.{◌≡◌, drop}
use Rattle.metadata.specs.Options.{refused_option}
use Rattle.metadata.proofs.options.taken_options.Given as goal

abbrev pub invariant-loop-setting : goal.invariant-loop-setting
invariant-loop-setting l = refused_option l.owner (drop l.setting-index l.settings) ≡ refused_option l.owner l.settings
