use Rattle.std.proofs.Common.{refl}
use Rattle.gate_log.specs.Records.{body}
use Rattle.gate_log.proofs.tests.frame.Goals as goal

pub returns : goal.returns
unfolding body
returns c = refl
