use Rattle.rel_eval.proofs.joining.join.Goals as goal

pub matched-requires : goal.matched-requires
matched-requires c = c.in_ok-side.ensures c.args.on.now c.in_ok-equal.ensures
