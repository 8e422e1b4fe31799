use Rattle.std.proofs.Common.{◌≡◌, ◌<◌, true, false, List, length, get_or, sym, ap, ◌∙◌, arith}
use Rattle.vdb_model.specs.declared.table.TableDef.{TableDef}
use Rattle.store_tables.proofs.ShelfSteps.{all_in_order, not_in_order, order_at, order_more}
use Rattle.store_tables.proofs.shelf.Shelf.is_in_order.Goals as goal

pub returns-then-not-is_in_order : goal.returns-then-not-is_in_order
returns-then-not-is_in_order c = λ kept seen has.
    let d = c.index-defs-i.result in
    let small : c.loop-i.i < length c.args.self.now.defs = omega (arith, c.loop-i-test.true, ap length c.as_slice-defs.ensures) in
    let failed : c.is_in_order.result ≡ false = c.if-not-is_in_order.true in
    let here = order_at c.args.self.now.defs kept seen c.args.self.now.tables.items c.loop-i.i c.index.result.now c.index.result.now has small c.index.ensures d c.is_in_order.result
    (c.index-defs-i.is ∙ ap (λ (l : List TableDef). get_or l c.loop-i.i d) c.as_slice-defs.ensures) c.is_in_order.ensures in
    not_in_order c.args.self.now.defs kept seen c.loop-i.i d small (sym here ∙ failed)

pub loop-i-preserved : goal.loop-i-preserved
loop-i-preserved c = λ kept seen has.
    let d = c.index-defs-i.result in
    let small : c.loop-i.i < length c.args.self.now.defs = omega (arith, c.loop-i-test.true, ap length c.as_slice-defs.ensures) in
    let passed : c.is_in_order.result ≡ true = c.if-not-is_in_order.false in
    let here = order_at c.args.self.now.defs kept seen c.args.self.now.tables.items c.loop-i.i c.index.result.now c.index.result.now has small c.index.ensures d c.is_in_order.result
    (c.index-defs-i.is ∙ ap (λ (l : List TableDef). get_or l c.loop-i.i d) c.as_slice-defs.ensures) c.is_in_order.ensures in
    order_more c.args.self.now.defs kept seen c.loop-i.i d small (c.loop-i.invariant kept seen has) (sym passed ∙ here)

pub returns : goal.returns
returns c = λ kept seen has. all_in_order c.args.self.now.defs kept seen c.args.self.now.tables.items c.loop-i.i (omega (arith, c.loop-i-test.false, ap length c.as_slice-defs.ensures)) has (c.loop-i.invariant kept seen has)
