use Rattle.std.proofs.Common.{◌∙◌, sym, ap}
use Rattle.resource.specs.Stored.{after_stored}
use Rattle.resource.proofs.ByName.{stored_append}
use Rattle.resource.proofs.inner.Inner.take_in.Goals as goal

pub invariant_of-self : goal.invariant_of-self
invariant_of-self c =
    let kept = c.args.self.now.kept in
    record { worked = c.requires ∙ sym (ap (after_stored kept) c.in-Ok.ensures.items ∙ stored_append kept c.args.self.now.deltas.items c.args.made.delta) }
