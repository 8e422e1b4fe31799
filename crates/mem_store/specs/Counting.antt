-- The faults that a journaled store counts itself.
use Rattle.std.specs.Prelude.{◌≡◌}
use Rattle.vdb_base.specs.Counts.{Rose}
use Rattle.resource.specs.declared.resource.AttachFault.{AttachFault}
use Rattle.resource.specs.declared.resource.AttachFault.TheVariants as attach
use Rattle.resource.specs.declared.resource.ResFault.{ResFault}
use Rattle.resource.specs.declared.resource.ResFault.TheVariants as fault
use Rattle.mem_store.specs.declared.inner.Inner.{Inner}

-- one was counted
abbrev pub CountsOne : {D : Type 0} → Inner D → Inner D → ResFault → Type 0
CountsOne old new answer = (new ≡ record old { own_faults = new.own_faults }) × Rose old.own_faults new.own_faults × (answer ≡ fault.Failed)

-- what a reopening answers that read no store: bytes that are no sound store's count
abbrev pub CountsFault : {D : Type 0} → AttachFault → Inner D → Inner D → ResFault → Type 0
CountsFault (attach.BadCell table row col) old new answer = CountsOne old new answer
CountsFault (attach.BadStore table) old new answer = CountsOne old new answer
CountsFault attach.Failed old new answer = (new ≡ old) × (answer ≡ fault.Failed)
CountsFault attach.Memory old new answer = (new ≡ old) × (answer ≡ fault.Memory)
