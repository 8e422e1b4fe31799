use Rattle.csv_folder.proofs.FolderSays.{only}
use Rattle.csv_folder.proofs.folder.CsvFolderResource.rollback.Goals as goal

pub returns-clause-stops : goal.returns-clause-stops
returns-clause-stops c = let s = c.args.self.now in only s.files s.writes s.defs s.tables s.asked.items s.read_so
