use Rattle.std.proofs.Common.{◌∙◌, ap}
use Rattle.grammar.specs.Table.{shapes}
use Rattle.sql_reader.specs.Trees.{kinds}
use Rattle.sql_reader.proofs.Known.{at_place, fault_at}
use Rattle.sql_reader.proofs.read.log_of.Goals as goal

pub returns-in-Err-Syntax-clause-place : goal.returns-in-Err-Syntax-clause-place
returns-in-Err-Syntax-clause-place c =
    fault_at _ c.args.source.now c.args.start _ _ _ (c.known-grammar.ensures ∙ ap shapes c.as_slice.ensures.value ∙ c.in_ok-rules.ensures) (c.as_slice-2.ensures.value ∙ c.in_ok-kinds.ensures ∙ ap kinds c.source.view_is) (at_place _ _ _ c.in-Err-Syntax.field-0-is c.in-Err-Syntax.ensures.place) (at_place _ _ _ c.in-Err-Syntax.field-0-is c.in-Err-Syntax.ensures.none) c.place_of.ensures
