use Rattle.std.proofs.Common.{◌∙◌, ap, sym, arith}
use Rattle.std.specs.Option.{option_copied}
use Rattle.std.proofs.lemmas.Grind.{common_steps}
use Rattle.rel_eval.proofs.Pattern.{like_at_percent, ends_at_percent, next_some, next_first}
use Rattle.rel_eval.proofs.patterns.begins.Goals as goal

pub returns-then-p-eq37-clause-holds : goal.returns-then-p-eq37-clause-holds
returns-then-p-eq37-clause-holds c = like_at_percent _ _ c.args.pattern.now c.args.text.now c.in-len1-up.len_at_least c.if-p-eq37.true c.loop-pattern.invariant.like

pub returns-then-p-eq37-clause-first : goal.returns-then-p-eq37-clause-first
returns-then-p-eq37-clause-first c = λ _. ends_at_percent _ _ c.args.pattern.now c.args.text.now c.in-len1-up.len_at_least c.if-p-eq37.true c.loop-pattern.invariant.like c.loop-pattern.invariant.first

pub loop-pattern-preserved : goal.loop-pattern-preserved
loop-pattern-preserved c =
    let some = c.in-len1-up.len_at_least in
    let takes = sym c.behind.ensures ∙ ap option_copied c.in-Some.is in
    record {
      like = sym (next_some c.loop-pattern.pattern.now c.loop-pattern.text.now some c.if-p-eq37.false _ takes) ∙ c.loop-pattern.invariant.like;
      first = λ h. next_first c.loop-pattern.pattern.now c.loop-pattern.text.now some c.if-p-eq37.false _ takes (c.loop-pattern.invariant.first h);
      shorter = grind (arith, common_steps);
    }
