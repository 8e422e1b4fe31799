use Rattle.std.proofs.Common.{sym, ◌∙◌, ap}
use Rattle.grammar.specs.Table.{shapes}
use Rattle.grammar.specs.WellFormed.{cause_of, is_right}
use Rattle.grammar.proofs.Tables.{shape_at, right_more, right_all, length_shapes}
use Rattle.grammar.proofs.check.first_ill.Goals as goal

pub returns-in-Some : goal.returns-in-Some
returns-in-Some c = record {
  there = rw (length_shapes c.args.rules.now) c.loop-at-test.true;
  wrong = ap (cause_of (shapes c.args.rules.now)) (sym (shape_at c.args.rules.now c.loop-at.at _ c.loop-at-test.true)) ∙ sym c.in-Some.ensures;
  before = c.loop-at.invariant;
}

pub loop-at-preserved : goal.loop-at-preserved
loop-at-preserved c =
    let fine = ap (cause_of (shapes c.args.rules.now)) (sym (shape_at c.args.rules.now c.loop-at.at _ c.loop-at-test.true)) ∙ sym c.cause_of.ensures ∙ c.in_default.is in
    right_more (shapes c.args.rules.now) (shapes c.args.rules.now) c.loop-at.at (rw (length_shapes c.args.rules.now) c.loop-at-test.true) c.loop-at.invariant (ap is_right fine)

pub returns : goal.returns
returns c = right_all c.args.rules.now c.loop-at.at c.loop-at-test.false c.loop-at.invariant
