use Rattle.std.proofs.Common.{List, sym, subst}
use Rattle.vdb_ddl.specs.declared.tree.Setting.{Setting}
use Rattle.vdb_ddl.specs.declared.tree.TablePart.{TablePart}
use Rattle.metadata.specs.Answers.{Passes}
use Rattle.metadata.specs.Columns.{column_taken, named_column, taken_part}
use Rattle.metadata.proofs.parts.free_part.Goals as goal

pub returns-in-Column : goal.returns-in-Column
returns-in-Column c = λ before are.
    subst (λ (part : TablePart). Passes (taken_part c.args.apart c.args.table.now before c.args.keyed part) c.free_column.result) (sym c.in-Column.is)
    (subst (λ (options : List Setting). Passes (column_taken c.args.apart before (named_column c.in-Column.name options)) c.free_column.result) c.as_slice.ensures
    (c.free_column.ensures before are))
