-- What attaching a table answers, by what its file says.
use Rattle.std.specs.Prelude.{◌≡◌, ◌+◌, List, Result, Ok, Err, ⊤}
use Rattle.vdb_model.specs.declared.table.TableDef.{TableDef}
use Rattle.vdb_model.specs.Rows.{Cells}
use Rattle.resource.specs.declared.resource.AttachFault.{AttachFault}
use Rattle.resource.specs.declared.resource.AttachFault.TheVariants as attach
use Rattle.csv_folder.specs.declared.said.Said.{Said}
use Rattle.csv_folder.specs.declared.said.Said.TheVariants.{Rows, Broken, BadCell}

abbrev pub IsTableAnswer : TableDef → Said → Result (List Cells) AttachFault → Type 0
IsTableAnswer d said (Ok rows) = said ≡ Rows rows
IsTableAnswer d said (Err (attach.BadCell table row col)) = (table ≡ d.number + 1) × (said ≡ BadCell row col)
IsTableAnswer d said (Err (attach.BadStore table)) = (table ≡ d.number + 1) × (said ≡ Broken)
IsTableAnswer d said (Err attach.Failed) = ⊥
IsTableAnswer d said (Err attach.Memory) = ⊤
