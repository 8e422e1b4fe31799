use Rattle.std.proofs.Common.{ap, ◌∙◌, rules}
use Rattle.std.proofs.lemmas.Str.Pattern.{split_parts}
use Rattle.vdb_base.specs.Print.{doubled}
use Rattle.vdb_base.proofs.Quotes.{doubled_at, doubled_none}
use Rattle.vdb_lines.proofs.Pens.{Part-more, Part-cut, Part-last}
use Rattle.vdb_lines.proofs.print.print_doubled.Goals as goal

pub returns-in-Err : goal.returns-in-Err
returns-in-Err g c =
    let parts = split_parts c.args.quote c.loop-head.rest.now c.split_once.result (rw c.from.ensures at c.split_once.ensures.cases) c.requires in
    let cut = rw c.in-Some.is at parts in
    let turn = ap (doubled c.args.quote) cut.0 ∙ doubled_at c.args.quote c.in-Some.head.now c.in-Some.tail.now cut.1 in
    Part-cut _ _ _ _ _ _ _ _ _ c.loop-head.invariant.0 c.in-Err.ensures turn

pub loop-head-preserved : goal.loop-head-preserved
loop-head-preserved g c =
    let parts = split_parts c.args.quote c.loop-head.rest.now c.split_once.result (rw c.from.ensures at c.split_once.ensures.cases) c.requires in
    let cut = rw c.in-Some.is at parts in
    let turn = ap (doubled c.args.quote) cut.0 ∙ doubled_at c.args.quote c.in-Some.head.now c.in-Some.tail.now cut.1 in
    (Part-more _ _ _ _ _ _ _ _ _ _ c.loop-head.invariant.0 c.in-Ok.ensures turn, search rules)

pub returns : goal.returns
returns g c =
    let parts = split_parts c.args.quote c.loop-head.rest.now c.split_once.result (rw c.from.ensures at c.split_once.ensures.cases) c.requires in
    let none = rw c.in_default.is at parts in
    Part-last _ _ _ _ _ _ _ _ _ _ c.loop-head.invariant.0 c.print_word.ensures (doubled_none c.args.quote c.loop-head.rest.now none)
