use Rattle.std.proofs.Common.{◌∙◌, sym}
use Rattle.std.proofs.lemmas.Bool.{eqb-true}
use Rattle.vdb_ddl.proofs.Turns.{goes_on, all_read}
use Rattle.vdb_ddl.proofs.read.read_items.Goals as goal

pub loop-grammar-preserved : goal.loop-grammar-preserved
loop-grammar-preserved c =
    goes_on c.args.source.now c.loop-grammar.left c.in_ok-left.left c.loop-grammar.items c.next_item.new.items c.loop-grammar.invariant c.in_ok-left.ensures.item

pub returns-clause-items : goal.returns-clause-items
returns-clause-items c = all_read c.args.source.now c.loop-grammar.left c.loop-grammar.items c.loop-grammar.invariant (eqb-true _ 0 (sym c.is_empty.ensures ∙ c.loop-grammar-test.false))
