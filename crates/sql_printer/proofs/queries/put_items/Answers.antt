use Rattle.std.proofs.Common.{◌++◌, []}
use Rattle.sql_printer.specs.Lists.{listed}
use Rattle.sql_printer.specs.Queries.{item_said}
use Rattle.sql_printer.specs.Spelled.{spelled}
use Rattle.sql_printer.proofs.Texts.{left_turn}
use Rattle.sql_printer.proofs.queries.put_items.Goals as goal

pub loop-item-preserved : goal.loop-item-preserved
loop-item-preserved c =
    left_turn [] item_said c.loop-item.first c.loop-item.out c.put_before.new.out c.put_item.new.out (c.args.out.now ++ spelled (listed [] item_said c.args.items.now)) c.args.items.now c.loop-item.item-index
    c.item-item.result c.loop-item-test.true c.item-item.is c.in_ok-put_before.ensures c.in_ok-put_item.ensures c.loop-item.invariant
