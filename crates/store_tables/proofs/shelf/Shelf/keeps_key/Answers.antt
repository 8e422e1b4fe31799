use Rattle.store_tables.proofs.OneTable.{key_at_place}
use Rattle.store_tables.proofs.shelf.Shelf.keeps_key.Goals as goal

pub returns : goal.returns
returns c = λ kept seen delta place are has world there.
    key_at_place c.keeps_key.result c.args.self.now.defs kept seen c.args.self.now.tables.items delta c.args.keys.now c.args.at c.index.result.now place c.index.ensures are has world there c.keeps_key.ensures
