-- What each action of items builds, in the order of their numbers. It is written by `tools/table.py`.
use Rattle.std.specs.Prelude.{List, [], ◌∷◌}
use Rattle.vdb_ddl.specs.declared.build.Action.{Action}
use Rattle.vdb_ddl.specs.declared.build.Action.TheVariants as action

abbrev pub actions : List Action
actions =
    action.UseDatabase ∷
    action.SetSchema ∷
    action.CreateDatabase ∷
    action.CreateServer ∷
    action.CreateSchema ∷
    action.CreateVirtualSchema ∷
    action.TableParts ∷
    action.CreateTable ∷
    action.RequiredColumn ∷
    action.Column ∷
    action.PrimaryKey ∷
    action.ViewColumns ∷
    action.CreateViewColumns ∷
    action.CreateView ∷
    action.TypedColumn ∷
    action.UntypedColumn ∷
    action.Options ∷
    action.Setting ∷
    []
