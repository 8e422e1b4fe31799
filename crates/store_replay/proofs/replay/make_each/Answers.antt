use Rattle.std.proofs.Common.{◌≡◌, ◌+◌, ◌∷◌, ◌≤◌, length, drop, arith}
use Rattle.std.proofs.lemmas.Grind.{common_steps}
use Rattle.resource.specs.Stored.{numbered}
use Rattle.store_replay.proofs.ReplaySteps.{made_more, made_all}
use Rattle.store_replay.proofs.replay.make_each.Goals as goal

pub loop-delta-preserved : goal.loop-delta-preserved
loop-delta-preserved c =
    let deltas = c.args.deltas.now in
    let i = c.loop-delta.delta-index in
    let front : drop i deltas ≡ c.delta-item.result ∷ drop (i + 1) deltas = grind (arith, common_steps) in
    made_more c.args.shelf.now.defs deltas i _ c.loop-delta.made.items c.args.shelf.now c.loop-delta.shelf c.loop-delta.invariant c.delta-item.result _ _ front c.in_ok-make_one.ensures.made c.in_ok-make_one.ensures.defs c.in_ok-make_one.ensures.has

pub returns-clause-has : goal.returns-clause-has
returns-clause-has c =
    let deltas = c.args.deltas.now in
    let i = c.loop-delta.delta-index in
    let end : length deltas ≤ i = omega arith in
    made_all c.args.shelf.now.defs deltas i (numbered c.args.shelf.now.defs deltas) c.loop-delta.made.items c.args.shelf.now c.loop-delta.shelf c.loop-delta.invariant end
