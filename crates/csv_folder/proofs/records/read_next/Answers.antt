use Rattle.std.proofs.Common.{◌≡◌, ◌∙◌, true, Some, sym}
use Rattle.std.specs.Result.{result_ok}
use Rattle.csv.specs.Reading.{ReadRecord, Ready, reader_trim, took_first}
use Rattle.csv.specs.Records.{fields_of}
use Rattle.csv.specs.declared.reader.Trim.TheVariants as trim
use Rattle.csv_folder.specs.Records.{bytes_of}
use Rattle.csv_folder.proofs.NextRead.{next_read, found_in, once_found}
use Rattle.csv_folder.proofs.records.read_next.Goals as goal

pub returns-in-Some : goal.returns-in-Some
returns-in-Some c =
    let r = c.read_byte_record.result in
    let found = c.in-Some.found in
    let old = c.args.reader.now in
    let new = c.read_byte_record.new.self in
    let fields = fields_of c.read_byte_record.new.row in
    let is : result_ok r ≡ Some found = sym c.ok.ensures.value ∙ c.in-Some.is in
    let reads = found_in r found (λ b. (reader_trim old ≡ trim.None) → Ready old → ReadRecord bytes_of old new b fields) is c.read_byte_record.ensures.reads in
    next_read found old new fields c.requires (once_found r found (took_first new ≡ true) is (c.read_byte_record.ensures.ready c.requires.trim)) (reads c.requires.trim c.requires.ready)
