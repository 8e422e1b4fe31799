-- A folder of CSV files as a resource.
use Rattle.std.specs.Prelude.{[], List, None, false}
use Rattle.resource.specs.declared.resource.ResState.TheVariants as state
use Rattle.resource.specs.Images.{Image}
use Rattle.resource.specs.Told.{Told}
use Rattle.csv_folder.specs.declared.file.File.{File}
use Rattle.csv_folder.specs.declared.folder.CsvFolder.{CsvFolder}
use Rattle.csv_folder.specs.Told.{told_with, images_with}

abbrev pub folder_told : CsvFolder → Told
folder_told folder = told_with folder.files folder.writes folder.state folder.defs folder.tables folder.asked.items

abbrev pub folder_images : CsvFolder → Image → Type 0
folder_images folder = images_with folder.files

-- before its first call: nothing can be written
abbrev pub unattached : List File → Told
unattached files = told_with files false state.Idle None [] []
