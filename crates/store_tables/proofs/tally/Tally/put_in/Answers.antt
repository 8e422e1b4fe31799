use Rattle.std.proofs.Common.{◌+◌, ap, refl}
use Rattle.store_tables.proofs.TallySteps.{OnlyAt-sees, sees_gains}
use Rattle.store_tables.proofs.tally.Tally.put_in.Goals as goal

pub invariant_of-self : goal.invariant_of-self
invariant_of-self c = record { only_touched = OnlyAt-sees _ _ _ _ _ c.requires.touched c.see.ensures c.args.self.now.only_touched }

pub returns : goal.returns
returns c = sees_gains _ _ c.args.self.now _ c.see.ensures refl (ap (λ n. n + 1) c.seen_in-times.ensures)
