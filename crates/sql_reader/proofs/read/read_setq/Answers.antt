use Rattle.std.proofs.Common.{refl, ◌∙◌, ◌≡◌, ap, arith}
use Rattle.sql_reader.specs.Build.{build, waiting}
use Rattle.sql_reader.specs.Source.{Source}
use Rattle.sql_reader.specs.Trees.{part_of}
use Rattle.sql_reader.specs.Waiting.{none}
use Rattle.sql_reader.proofs.Built.{not_no_query, is_front_set}
use Rattle.sql_reader.proofs.Known.{front_within, same_part}
use Rattle.sql_reader.proofs.read.read_setq.Goals as goal

pub overflow_add-result : goal.overflow_add-result
overflow_add-result c =
    let part : Source = record { text = c.args.text.now; tokens = c.split_at-2.result.0.now } in
    let p : part ≡ part_of (record { text = c.args.text.now; tokens = c.args.tokens.now.items }) c.args.from c.args.until =
    same_part c.args.text.now c.args.tokens.now.items _ _ c.split_at-2.result.0.now c.args.from c.args.until c.split_at-2.ensures.front c.split_at.ensures.back c.as_slice.ensures in
    let h = front_within c.args.text.now c.args.tokens.now.items c.args.from c.args.until c.in_ok-front.front.next part c.requires.order c.requires.within p c.in_ok-front.ensures.front.longest in
    let u = c.ranges.until.fits in
    omega arith

pub unreachable-requires : goal.unreachable-requires
unreachable-requires c =
    let part : Source = record { text = c.args.text.now; tokens = c.split_at-2.result.0.now } in
    not_no_query part _ _ (waiting c.in_ok-parts.parts) c.in_ok-parts.parts.queries.items _ c.in_ok-front.ensures.front.reading (c.in_ok-parts.ensures ∙ ap (λ l. build part l none) c.as_slice-2.ensures.value) refl c.in_ok-parts.parts.queries.ok.0 c.in-None.ensures.cases.0

pub returns-clause-tree : goal.returns-clause-tree
returns-clause-tree c =
    let part : Source = record { text = c.args.text.now; tokens = c.split_at-2.result.0.now } in
    let p : part ≡ part_of (record { text = c.args.text.now; tokens = c.args.tokens.now.items }) c.args.from c.args.until =
    same_part c.args.text.now c.args.tokens.now.items _ _ c.split_at-2.result.0.now c.args.from c.args.until c.split_at-2.ensures.front c.split_at.ensures.back c.as_slice.ensures in
    is_front_set _ part c.args.from c.args.until c.in_ok-front.front (waiting c.in_ok-parts.parts) c.in_ok-parts.parts.queries.items _ c.in-Some.query _ p c.in_ok-front.ensures.front (c.in_ok-parts.ensures ∙ ap (λ l. build part l none) c.as_slice-2.ensures.value) refl c.in-Some.ensures.items refl
