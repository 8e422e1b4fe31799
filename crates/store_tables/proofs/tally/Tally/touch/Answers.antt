use Rattle.std.proofs.Common.{◌++◌, ◌∷◌, [], ◌∙◌, ap, arith}
use Rattle.store_tables.proofs.TallySteps.{touched_ready}
use Rattle.store_tables.proofs.tally.Tally.touch.Goals as goal

pub returns-clause-ready : goal.returns-clause-ready
returns-clause-ready c =
    touched_ready c.args.row.now c.args.self.now _ c.make_place.ensures.same c.args.more
    (c.in_ok-push.ensures.items ∙ ap (λ x. c.args.self.now.touched.items ++ x ∷ []) c.in_ok-copy.ensures)
    c.in_ok-make_place.ensures.here (omega (arith, c.seen_in.ensures, c.if-seen_in-more.false))
