use Rattle.std.proofs.Common.{refl, ◌∙◌}
use Rattle.sql_reader.specs.Build.{waiting}
use Rattle.sql_reader.proofs.Built.{not_none, is_statement}
use Rattle.sql_reader.proofs.read.read_statement.Goals as goal

pub unreachable-requires : goal.unreachable-requires
unreachable-requires c = not_none _ (waiting c.in_ok-parts.parts) c.in_ok-parts.parts.statements.items _ c.in_ok-parts.ensures.parts refl c.in_ok-parts.parts.statements.ok.0 c.in-None.ensures.cases.0

pub returns-clause-tree : goal.returns-clause-tree
returns-clause-tree c =
    is_statement c.args.text.now c.as_slice.result.now (waiting c.in_ok-parts.parts) c.in_ok-parts.parts.statements.items c.pop.new.self.items c.in-Some.statement (c.as_slice.ensures ∙ c.in_ok-tokens.ensures.tokens) c.in_ok-parts.ensures.parts refl c.in-Some.ensures.items
