use Rattle.std.proofs.Common.{◌≡◌, drop}
use Rattle.std.specs.Prelude.{codes}
use Rattle.metadata.specs.Options.{said, narrowed_by, narrowed}
use Rattle.metadata.proofs.options.narrowed.Given as goal

abbrev pub invariant-loop-setting : goal.invariant-loop-setting
invariant-loop-setting l = said (codes "without") (narrowed_by l.caps) l.made (drop l.setting-index l.settings) ≡ narrowed l.settings l.caps
