use Rattle.std.proofs.Common.{◌≡◌, Some, None, Ok, sym, subst}
use Rattle.resource.specs.declared.resource.ResState.TheVariants as state
use Rattle.resource.specs.Leaves.{Attaches}
use Rattle.resource.specs.Reading.{Sound}
use Rattle.csv_folder.specs.Folder.{read_folder}
use Rattle.csv_folder.specs.Told.{told_with, images_with}
use Rattle.csv_folder.proofs.FolderSays.{attached}
use Rattle.csv_folder.proofs.folder.CsvFolderResource.attach.Goals as goal

pub returns-clause-leaves : goal.returns-clause-leaves
returns-clause-leaves c =
    let s = c.args.self.now in
    let defs = c.args.defs.now in
    let asked = s.asked.items in
    let tables = c.in-Ok.tables in
    let e : read_folder s.files defs ≡ Sound tables None = cc (c.in-Ok.ensures, c.as_slice.ensures, c.as_slice-2.ensures) in
    subst (λ ds. Attaches defs (told_with s.files s.writes s.state s.defs s.tables asked) (told_with s.files s.writes state.Idle (Some ds) tables asked) (images_with s.files) (Ok tt)) (sym c.in-Ok-copy.ensures)
    (attached s.files s.writes s.state s.defs s.tables asked defs tables e)
