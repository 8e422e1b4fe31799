use Rattle.std.proofs.Common.{◌≡◌, [], None}
use Rattle.std.specs.Option.{unwrap_or}
use Rattle.resource.specs.Checked.{passing_cut}
use Rattle.csv_folder.specs.Told.{rows_asked}
use Rattle.csv_folder.proofs.FolderSays.{query_answered, query_fits}
use Rattle.csv_folder.proofs.ReadsWorld.{reads_world}
use Rattle.csv_folder.proofs.folder.CsvFolderResource.query.Goals as goal

rows_are : (c : goal.Else-is_err) → c.in-Ok.rows ≡ passing_cut c.args.q.now.filter c.args.q.now.columns (rows_asked c.args.self.now.defs c.args.self.now.tables c.args.q.now.tables)
rows_are c = cc (c.in-Ok.ensures, c.as_slice.ensures, c.as_slice-2.ensures, c.rows_asked-rows.ensures)

pub returns-clause-answer : goal.returns-clause-answer
returns-clause-answer c = let s = c.args.self.now in query_answered s.files s.writes s.state s.defs s.tables s.asked.items c.args.q.now c.requires c.in-Ok.rows (rows_are c)

pub returns-clause-fit : goal.returns-clause-fit
returns-clause-fit c = let s = c.args.self.now in query_fits s.files s.writes s.state s.defs s.tables s.asked.items c.args.q.now c.requires c.in-Ok.rows (rows_are c) s.read_so

pub returns-clause-world : goal.returns-clause-world
returns-clause-world c = let s = c.args.self.now in reads_world s.files (unwrap_or s.defs []) s.tables None s.read_so
