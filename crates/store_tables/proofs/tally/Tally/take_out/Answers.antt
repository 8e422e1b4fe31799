use Rattle.std.proofs.Common.{◌-◌, ◌∙◌, ap, refl}
use Rattle.store_tables.proofs.TallySteps.{OnlyAt-sees, sees_loses}
use Rattle.store_tables.proofs.tally.Tally.take_out.Goals as goal

pub invariant_of-self : goal.invariant_of-self
invariant_of-self c = record { only_touched = OnlyAt-sees _ _ _ _ _ c.requires.touched c.see.ensures c.args.self.now.only_touched }

pub returns : goal.returns
returns c = sees_loses _ _ c.args.self.now _ c.see.ensures refl (c.saturating_sub.ensures ∙ ap (λ n. n - 1) c.seen_in-times.ensures)
