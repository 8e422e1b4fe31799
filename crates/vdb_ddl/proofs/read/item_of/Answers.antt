use Rattle.std.proofs.Common.{refl}
use Rattle.vdb_ddl.specs.Build.{waiting}
use Rattle.vdb_ddl.proofs.Built.{not_none, is_item}
use Rattle.vdb_ddl.proofs.read.item_of.Goals as goal

pub unreachable-requires : goal.unreachable-requires
unreachable-requires c = not_none c.args.source.now c.args.log.now (waiting c.in_ok-parts.parts) c.in_ok-parts.parts.items.items _ c.requires c.in_ok-parts.ensures refl c.in_ok-parts.parts.items.ok.0 c.in-None.ensures.cases.0

pub returns : goal.returns
returns c = is_item c.args.source.now c.args.log.now (waiting c.in_ok-parts.parts) c.in_ok-parts.parts.items.items c.pop.new.self.items c.in-Some.item c.requires c.in_ok-parts.ensures refl c.in-Some.ensures.items
