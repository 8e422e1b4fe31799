use Rattle.csv_folder.proofs.FolderSays.{reopened}
use Rattle.csv_folder.proofs.folder.CsvFolderResource.reopen.Goals as goal

pub returns-clause-leaves : goal.returns-clause-leaves
returns-clause-leaves c = let s = c.args.self.now in reopened s.files s.writes s.defs s.tables s.asked.items s.read_so s.state
