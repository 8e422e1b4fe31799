use Rattle.std.proofs.Common.{◌≡◌, ◌∙◌, List, [], ◌∷◌, true, sym, subst}
use Rattle.std.specs.List.{list_any}
use Rattle.vdb_model.specs.Rows.{Cells, same_row}
use Rattle.resource.specs.Told.{Told, work}
use Rattle.mem_store.specs.WhatStands.{Stand}
use Rattle.mem_store.proofs.Answered.{told_there}
use Rattle.mem_store.proofs.yardstick.stands.Goals as goal

pub returns-in-Ok-clause-there : goal.returns-in-Ok-clause-there
returns-in-Ok-clause-there g c among =
    let old = g.R.Resource.told c.args.store.now in
    subst (λ (t : Told). Stand c.args.customers.now.defs 3 (c.args.row.now ∷ []) t) (sym c.in-Ok.ensures.leaves)
    (told_there old.defs (work old) c.args.customers.now.defs c.in_ok-q.q c.args.row.now c.in-Ok.rows c.requires.attached c.in_ok-q.ensures c.args.customers.now.typed c.in-Ok.ensures.answer c.in-Ok.ensures.world (subst (λ (rs : List Cells). list_any (same_row c.args.row.now) rs ≡ true) c.as_slice.ensures (sym c.is_among.ensures ∙ among)))
