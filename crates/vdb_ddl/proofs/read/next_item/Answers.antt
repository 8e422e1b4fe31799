use Rattle.std.proofs.Common.{◌∙◌, sym}
use Rattle.vdb_ddl.proofs.Turns.{no_end_at}
use Rattle.vdb_ddl.proofs.read.next_item.Goals as goal

pub returns-then-not-ends_at-clause-place : goal.returns-then-not-ends_at-clause-place
returns-then-not-ends_at-clause-place c =
    no_end_at c.args.left.now _ _ c.in_ok-count.count _ c.in_ok-count.ensures.item (sym c.ends_at.ensures ∙ c.if-not-ends_at.true) c.place_of.ensures
