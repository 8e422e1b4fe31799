use Rattle.std.proofs.Common.{◌∙◌}
use Rattle.store_tables.proofs.KeyedSteps.{key_kept}
use Rattle.store_tables.proofs.table.Table.keeps_key.Goals as goal

pub returns : goal.returns
returns c = λ ats kept seen delta are has apart there.
    c.stand_alone.ensures
    ∙ key_kept ats kept seen delta c.args.keys.now c.args.self.now c.in_ok-gone.gone c.in_ok-come.come c.as_slice.result.now c.as_slice-added.result.now c.as_slice.ensures c.as_slice-added.ensures c.in_ok-gone.ensures c.in_ok-come.ensures are has apart there
