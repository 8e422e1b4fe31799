use Rattle.std.proofs.Common.{◌≡◌, ◌+◌}
use Rattle.csv_folder.specs.Header.{all_long}
use Rattle.csv_folder.specs.Keys.{keeps_key}
use Rattle.csv_folder.specs.Places.{cells_at_each}
use Rattle.csv_folder.specs.Records.{IsGoing, left_of}
use Rattle.csv_folder.specs.Table.{cells_say}
use Rattle.csv_folder.proofs.OnePass.{keeps_from, said_after}
use Rattle.csv_folder.proofs.table.read_records.Given as goal

-- the records that are left decide, beside what those so far were
abbrev pub invariant-loop-at : goal.invariant-loop-at
invariant-loop-at l = record {
  going : IsGoing l.reader;
  long : all_long l.width (left_of l.reader) ≡ all_long l.width (left_of l.fn.reader);
  keys : keeps_from l.def.key l.seen (cells_at_each l.columns l.places (left_of l.reader)) ≡ keeps_key l.def.key (cells_at_each l.columns l.places (left_of l.fn.reader));
  cells : said_after l.made.bad l.made.rows (l.at + 1) (cells_at_each l.columns l.places (left_of l.reader)) ≡ cells_say (cells_at_each l.columns l.places (left_of l.fn.reader));
}
