-- Taking what was opened.
use Rattle.std.proofs.Common.{◌≡◌, [], Option, Some, None, refl, sym, subst}
use Rattle.resource.specs.declared.resource.ResState.{ResState}
use Rattle.resource.specs.declared.resource.ResState.TheVariants as state
use Rattle.mem_store.specs.declared.attached.Attached.{Attached}
use Rattle.store_replay.specs.declared.opening.Waiting.{Waiting}
use Rattle.mem_store.specs.Attaching.{IsWritten}
use Rattle.mem_store.specs.Taking.{TakesBranch}

pub takes_none : (w : Option Waiting) (a : Attached) → w ≡ None → a.deltas.items ≡ [] → IsWritten a → TakesBranch w state.Idle a
takes_none w a none empty written = subst (λ (o : Option Waiting). TakesBranch o state.Idle a) (sym none) (refl, empty, written)

pub takes_some : (w : Option Waiting) (waiting : Waiting) (s : ResState) (a : Attached) → w ≡ Some waiting → s ≡ state.Prepared waiting.xid → a.deltas.items ≡ waiting.deltas.items → TakesBranch w s a
takes_some w waiting s a some waits same = subst (λ (o : Option Waiting). TakesBranch o s a) (sym some) (waits, same)
