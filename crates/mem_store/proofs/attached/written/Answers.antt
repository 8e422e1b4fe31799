use Rattle.std.proofs.Common.{IfOk, subst}
use Rattle.resource.specs.declared.stored.StoredDelta.{StoredDelta}
use Rattle.store_records.specs.Encoding.{Encodes}
use Rattle.mem_store.proofs.ChangeSteps.{named_at}
use Rattle.mem_store.proofs.attached.written.Goals as goal

pub returns-clause-is : goal.returns-clause-is
returns-clause-is c =
    subst (λ (s : StoredDelta). IfOk c.encoded.result (λ bytes. Encodes s bytes.items))
    (named_at c.args.shelf.now.defs c.defs.result.now c.args.delta.now c.args.at c.index-defs-at.result c.in_ok-stored.stored c.requires c.defs.ensures c.in_ok-stored.ensures)
    c.encoded.ensures.is
