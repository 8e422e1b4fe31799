use Rattle.std.proofs.Common.{◌≡◌, ◌++◌, [], drop}
use Rattle.sql_printer.specs.Exprs.{expr, link, arm}
use Rattle.sql_printer.specs.Lists.{all, listed, left}
use Rattle.sql_printer.specs.Spelled.{spelled}
use Rattle.sql_printer.proofs.exprs.+printing.Given as goal

-- what is written, and then what is left
abbrev pub invariant-put_exprs-loop-expr : goal.invariant-put_exprs-loop-expr
invariant-put_exprs-loop-expr l = l.out ++ spelled (left [] expr l.first (drop l.expr-index l.exprs)) ≡ l.initial.out ++ spelled (listed [] expr l.exprs)

abbrev pub invariant-put_links-loop-link : goal.invariant-put_links-loop-link
invariant-put_links-loop-link l = l.out ++ spelled (all link (drop l.link-index l.links)) ≡ l.initial.out ++ spelled (all link l.links)

abbrev pub invariant-put_arms-loop-arm : goal.invariant-put_arms-loop-arm
invariant-put_arms-loop-arm l = l.out ++ spelled (all arm (drop l.arm-index l.arms)) ≡ l.initial.out ++ spelled (all arm l.arms)
