use Rattle.std.proofs.Common.{◌&&◌, sym, ap, ◌∙◌}
use Rattle.store_tables.proofs.OrderSteps.{tests_order}
use Rattle.store_tables.proofs.table.Table.is_in_order.Goals as goal

pub returns-then-fits : goal.returns-then-fits
returns-then-fits c = λ kept seen has.
    sym (ap (λ b. b && c.stand_alone-alone.result) c.if-fits.true)
    ∙ tests_order c.args.def.now kept seen c.args.self.now has c.all_fit-fits.ensures.ordered c.stand_alone-alone.ensures.ordered c.as_slice.result.now _ _ c.as_slice.ensures c.all_fit-fits.ensures.all c.stand_alone-alone.ensures.all

pub returns-else-fits : goal.returns-else-fits
returns-else-fits c = λ kept seen has.
    c.if-fits.false ∙ sym (ap (λ b. b && c.stand_alone-alone.result) c.if-fits.false)
    ∙ tests_order c.args.def.now kept seen c.args.self.now has c.all_fit-fits.ensures.ordered c.stand_alone-alone.ensures.ordered c.as_slice.result.now _ _ c.as_slice.ensures c.all_fit-fits.ensures.all c.stand_alone-alone.ensures.all
