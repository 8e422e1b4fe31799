use Rattle.std.proofs.Common.{◌≡◌, drop}
use Rattle.std.specs.Prelude.{codes}
use Rattle.metadata.specs.Options.{said, truth_or_true, is_updatable}
use Rattle.metadata.proofs.options.is_updatable.Given as goal

abbrev pub invariant-loop-setting : goal.invariant-loop-setting
invariant-loop-setting l = said (codes "updatable") truth_or_true l.updatable (drop l.setting-index l.settings) ≡ is_updatable l.settings
