use Rattle.std.proofs.Common.{ap, ◌<◌, length, vec_len, arith}
use Rattle.std.proofs.lemmas.Bool.Decides.{nat_tests}
use Rattle.grammar.specs.Table.{shapes}
use Rattle.grammar.proofs.Runs.{follows_begin, follows_next, follows_settled}
use Rattle.grammar.proofs.reader.longest_run.Goals as goal

pub loop-at-init : goal.loop-at-init
loop-at-init c =
    let b = c.in_ok-threads.ensures in
    record {
      some = (let n = c.in_ok-threads.threads.ok.0 in let e = ap length b.1 in omega (arith, n, e));
      follows = follows_begin (shapes c.args.rules.now) c.args.start c.new-done.result.items c.in_ok-threads.threads.items b.0 c.new-done.ensures.items b.1 b.2 b.3;
    }

pub loop-at-preserved : goal.loop-at-preserved
loop-at-preserved c =
    let full : 0 < vec_len c.in_ok-next.next = grind (arith, nat_tests, c.if-is_empty.ensures) in
    record {
      some = rw c.in_ok-threads-2.ensures.len full;
      follows = follows_settled (shapes c.args.rules.now) _ _ _ c.loop-at.done.items c.settle.new.done.items c.in_ok-next.next.items c.in_ok-threads-2.threads.items
          (follows_next (shapes c.args.rules.now) _ c.args.text.now c.loop-at.at c.loop-at.done.items c.loop-at.threads.items c.in_ok-next.next.items c.loop-at-test.true c.loop-at.invariant.follows (rw c.as_slice.ensures.value at c.in_ok-next.ensures.adds))
          c.in_ok-threads-2.ensures.same;
    }
