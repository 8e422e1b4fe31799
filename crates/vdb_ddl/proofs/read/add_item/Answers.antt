use Rattle.std.proofs.Common.{◌∙◌, ap}
use Rattle.sql_reader.specs.Trees.{kinds}
use Rattle.vdb_ddl.proofs.Turns.{no_item_at}
use Rattle.vdb_ddl.proofs.read.add_item.Goals as goal

pub returns-in-Err-Syntax-clause-place : goal.returns-in-Err-Syntax-clause-place
returns-in-Err-Syntax-clause-place c =
    no_item_at _ c.args.left.now _ _ c.in-Err-Syntax.at _ c.requires.grammar (c.left.invariant ∙ ap kinds c.left.view_is) c.in-Err-Syntax.field-0-is c.in-Err-Syntax.ensures.place c.in-Err-Syntax.ensures.none c.requires.some (let a = c.place_of.ensures in let b = c.in-Err-Syntax.at-is in cc)
