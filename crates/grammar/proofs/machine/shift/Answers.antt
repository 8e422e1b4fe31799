use Rattle.std.proofs.Common.{sym, ◌∙◌}
use Rattle.grammar.specs.Table.{shapes}
use Rattle.grammar.proofs.Steps.{adds_token}
use Rattle.grammar.proofs.machine.shift.Goals as goal

pub returns-clause-adds : goal.returns-clause-adds
returns-clause-adds c = rw (c.in_ok-push.ensures.items, ← c.in_ok-clone.ensures.cases)
    (adds_token (shapes c.args.rules.now) c.args.at c.args.trail.now.items c.args.token c.args.symbol c.args.kinds.now c.args.out.now.items _
    c.requires (sym c.if-not-takes.ensures) (c.in_ok-log.ensures.items ∙ c.as_slice.ensures.value))
