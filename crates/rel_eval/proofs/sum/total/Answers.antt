use Rattle.std.proofs.Common.{arith, ◌≡◌, ◌+◌, ◌∷◌, ◌+ℤ◌, drop, subst}
use Rattle.std.proofs.lemmas.Int.{ints, to_z-of_z}
use Rattle.std.proofs.lemmas.Grind.{common_steps}
use Rattle.vdb_model.specs.Groups.{total}
use Rattle.rel_eval.specs.Sums.{amount}
use Rattle.rel_eval.proofs.Totals.{next_total}
use Rattle.rel_eval.proofs.sum.total.Goals as goal

pub loop-v-preserved : goal.loop-v-preserved
loop-v-preserved c =
    let items = c.args.vs.now in
    let v = c.v-item.result in
    let rest = drop (c.loop-v.v-index + 1) items in
    let next : drop c.loop-v.v-index items ≡ v ∷ rest = grind (arith, common_steps) in
    let all = subst (λ vs. amount c.loop-v.sum +ℤ total vs ≡ total items) next c.loop-v.invariant.amount in
    let added : amount c.plus-sum.result ≡ amount c.loop-v.sum +ℤ c.number_in.result = search (arith, ints, to_z-of_z, c.plus-sum.ensures.amount) in
    record {
      amount = next_total _ _ _ v rest _ all c.number_in.ensures added;
      carries = omega (arith, c.loop-v.invariant.carries, c.plus-sum.ensures.carries);
    }
