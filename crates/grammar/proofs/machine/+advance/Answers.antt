use Rattle.std.proofs.Common.{◌<◌, refl, sym, ap, ◌∙◌, arith}
use Rattle.grammar.specs.Table.{shapes}
use Rattle.grammar.specs.Threads.{symbols}
use Rattle.grammar.proofs.Adding.{adds_none, keeps_ended_same, keeps_ended_then}
use Rattle.grammar.proofs.Steps.{falls_at, adds_guard, adds_action, adds_next, adds_skipped, adds_all}
use Rattle.grammar.proofs.Tables.{cost}
use Rattle.grammar.proofs.machine.+advance.Goals.{then-not-is_barred+in_ok-next-in-Choice+in_ok-advance-in-Choice, else-not-is_barred}
use Rattle.grammar.proofs.machine.+advance.Goals as goal

pub loop-items-init : goal.loop-items-init
loop-items-init t c = record { trail = refl; adds = adds_none _ _ _ _ (λ log ts more w. elim w.1 [ ]); ended = keeps_ended_same _ _ }

pub advance-requires-then-not-is_barred : goal.advance-requires-then-not-is_barred
advance-requires-then-not-is_barred t c =
    let fall : cost (shapes c.args.rules.now) (symbols c.deref-then-not-is_barred.result.now) < cost (shapes c.args.rules.now) (symbols c.args.stack.now) =
    rw c.in-On.is (falls_at (shapes c.args.rules.now) c.in-On.symbol _ _ _ c.in-Choice.alternatives.now c.loop-items.items-index _ (symbols c.in-On.rest.value) _ c.requires c.in-Choice.ensures c.loop-items-test.true
    (ap symbols c.deref-then-not-is_barred.ensures ∙ c.in_ok-next-in-Choice.ensures)) in
    (omega arith, c.requires)

pub loop-items-preserved : goal.loop-items-preserved
loop-items-preserved t c = elim c.if-not-is_barred.branch [
  | then-not-is_barred+in_ok-next-in-Choice+in_ok-advance-in-Choice w ↦ rw (w.trail-is, w.out-is) (record {
    trail = w.in_ok-advance-in-Choice.ensures.trail ∙ c.loop-items.invariant.trail;
    adds = adds_next (shapes c.args.rules.now) c.args.at c.args.trail.now.items c.args.token c.in-On.symbol c.in-Choice.alternatives.now c.loop-items.items-index _ (symbols c.in-On.rest.value) _ _ _ _ _ c.loop-items-test.true
        c.loop-items.invariant.trail (ap symbols w.deref-then-not-is_barred.ensures ∙ w.in_ok-next-in-Choice.ensures) c.loop-items.invariant.adds w.in_ok-advance-in-Choice.ensures.adds;
    ended = keeps_ended_then c.args.token _ _ _ c.loop-items.invariant.ended w.in_ok-advance-in-Choice.ensures.ended;
  })
  | else-not-is_barred w ↦ rw (w.trail-is, w.out-is) (record {
    trail = c.loop-items.invariant.trail;
    adds = adds_skipped (shapes c.args.rules.now) c.args.at c.args.trail.now.items c.args.token c.in-On.symbol c.in-Choice.alternatives.now c.loop-items.items-index _ (symbols c.in-On.rest.value) _ _ c.loop-items-test.true
        (sym w.if-not-is_barred.ensures) c.loop-items.invariant.adds;
    ended = c.loop-items.invariant.ended;
  })
]

pub returns-in_ok-advance-in-Action-clause-adds : goal.returns-in_ok-advance-in-Action-clause-adds
returns-in_ok-advance-in-Action-clause-adds t c = rw (c.in-On.is, ← c.deref.ensures)
    (adds_action (shapes c.args.rules.now) c.args.at c.args.trail.now.items c.args.token c.in-On.symbol (symbols c.deref.result.now) _ _ c.in-Action.ensures
    (rw (← c.in_ok-push-in-Action.ensures.items) c.in_ok-advance-in-Action.ensures.adds))

pub returns-after-loop-items-clause-adds : goal.returns-after-loop-items-clause-adds
returns-after-loop-items-clause-adds t c = rw c.in-On.is (adds_all (shapes c.args.rules.now) c.args.at c.args.trail.now.items c.args.token c.in-On.symbol _ _ _ c.in-Choice.alternatives.now c.loop-items.items-index (symbols c.in-On.rest.value) _ _ c.in-Choice.ensures c.loop-items-test.false c.loop-items.invariant.adds)

pub returns-in_ok-advance-in-Unless-clause-adds : goal.returns-in_ok-advance-in-Unless-clause-adds
returns-in_ok-advance-in-Unless-clause-adds t c = rw (c.in-On.is, ← c.deref-in-Unless.ensures)
    (adds_guard (shapes c.args.rules.now) c.args.at c.args.trail.now.items c.args.token c.in-On.symbol (symbols c.deref-in-Unless.result.now) c.in-Unless.kinds.now _ _ c.in-Unless.ensures (sym c.if-stops.ensures)
    c.in_ok-advance-in-Unless.ensures.adds)
