use Rattle.std.proofs.Common.{rules, arith, ◌∷◌, ◌∙◌, ap}
use Rattle.std.proofs.lemmas.Grind.{common_steps}
use Rattle.std.proofs.lemmas.Str.Pattern.{split_parts}
use Rattle.vdb_base.specs.Print.{doubled}
use Rattle.vdb_base.proofs.Quotes.{doubled_none, doubled_plain}
use Rattle.sql_printer.proofs.names.quote.Goals as goal

pub loop-head-preserved : goal.loop-head-preserved
loop-head-preserved c =
    let cut = rw c.in-Some.is at (split_parts 34 c.loop-head.rest.now c.split_once.result c.split_once.ensures.cases (omega arith)) in
    let turn = ap (doubled 34) cut.0 ∙ doubled_plain 34 _ (34 ∷ c.in-Some.tail.now) cut.1 in
    (grind (arith, common_steps, turn, c.loop-head.invariant.0), search rules)

pub returns : goal.returns
returns c =
    let none = rw c.in_default.is at (split_parts 34 c.loop-head.rest.now c.split_once.result c.split_once.ensures.cases (omega arith)) in
    let plain = doubled_none 34 _ none in
    grind (arith, common_steps, plain, c.loop-head.invariant.0)
