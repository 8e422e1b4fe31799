use Rattle.std.proofs.Common.{◌≡◌, drop}
use Rattle.std.specs.Prelude.{codes}
use Rattle.metadata.specs.Options.{said, sized_by, sized}
use Rattle.metadata.proofs.options.sized.Given as goal

abbrev pub invariant-loop-setting : goal.invariant-loop-setting
invariant-loop-setting l = said (codes "maxincriteriasize") (sized_by l.caps) l.made (drop l.setting-index l.settings) ≡ sized l.settings l.caps
