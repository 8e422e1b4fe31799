use Rattle.std.proofs.Common.{arith}
use Rattle.rel_eval.proofs.Forced.{forced_columns, across_forced, turned_forced}
use Rattle.rel_eval.proofs.equalities.across.Goals as goal

pub returns-in_ok-one : goal.returns-in_ok-one
returns-in_ok-one c =
    forced_columns _ _ _ _ _ _ _ c.in_ok-one.ensures.lefts c.in_ok-one.ensures.rights (across_forced c.args.a c.args.b c.args.width (omega (arith, c.if-a-width.true)) (omega (arith, c.if-width-b.true)))

pub returns-in_ok-one-2 : goal.returns-in_ok-one-2
returns-in_ok-one-2 c =
    forced_columns _ _ _ _ _ _ _ c.in_ok-one-2.ensures.lefts c.in_ok-one-2.ensures.rights (turned_forced c.args.a c.args.b c.args.width (omega (arith, c.if-b-width.true)) (omega (arith, c.if-width-a.true)))
