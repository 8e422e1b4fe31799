use Rattle.std.proofs.Common.{◌++◌, ◌∙◌, [], ap, sym}
use Rattle.sql_reader.specs.Symbols as symbol
use Rattle.sql_printer.specs.Exprs.{expr, link, arm}
use Rattle.sql_printer.specs.Lists.{all, listed}
use Rattle.sql_printer.specs.Said.{word}
use Rattle.sql_printer.specs.Spelled.{spelled}
use Rattle.sql_printer.proofs.ExprsByKinds.{text-link_is, text-arm_is}
use Rattle.sql_printer.proofs.Texts.{all_turn, left_turn}
use Rattle.sql_printer.proofs.exprs.+printing.Goals as goal

pub put_links-loop-link-preserved : goal.put_links-loop-link-preserved
put_links-loop-link-preserved t c =
    let l = c.link-item.result in
    let written = c.in_ok-put_expr.ensures ∙ ap (λ x. x ++ spelled (expr l.operand)) c.in_ok-put_operator.ensures ∙ sym (text-link_is c.loop-link.out l) in
    all_turn link c.loop-link.out c.put_expr.new.out (c.args.out.now ++ spelled (all link c.args.links.now)) c.args.links.now c.loop-link.link-index l c.loop-link-test.true c.link-item.is written c.loop-link.invariant

pub put_arms-loop-arm-preserved : goal.put_arms-loop-arm-preserved
put_arms-loop-arm-preserved t c =
    let a = c.arm-item.result in
    let front = c.in_ok-put_expr.ensures ∙ ap (λ x. x ++ spelled (expr a.condition)) c.in_ok-put.ensures in
    let then = c.in_ok-put-2.ensures ∙ ap (λ x. x ++ spelled (word symbol.THEN)) front in
    let written = c.in_ok-put_expr-2.ensures ∙ ap (λ x. x ++ spelled (expr a.value)) then ∙ sym (text-arm_is c.loop-arm.out a) in
    all_turn arm c.loop-arm.out c.put_expr-in-loop-arm.new.out (c.args.out.now ++ spelled (all arm c.args.arms.now)) c.args.arms.now c.loop-arm.arm-index a c.loop-arm-test.true c.arm-item.is written
    c.loop-arm.invariant

pub put_exprs-loop-expr-preserved : goal.put_exprs-loop-expr-preserved
put_exprs-loop-expr-preserved t c =
    left_turn [] expr c.loop-expr.first c.loop-expr.out c.put_before.new.out c.put_expr.new.out (c.args.out.now ++ spelled (listed [] expr c.args.exprs.now)) c.args.exprs.now c.loop-expr.expr-index
    c.expr-item.result c.loop-expr-test.true c.expr-item.is c.in_ok-put_before.ensures c.in_ok-put_expr.ensures c.loop-expr.invariant
