use Rattle.std.proofs.Common.{◌≡◌, true, take}
use Rattle.csv_folder.specs.CsvFolder.{folder_told}
use Rattle.resource.specs.Lanes.{labels_of}
use Rattle.vdb_session.specs.Lanes.{are_here}
use Rattle.vdb.specs.Making.{labels}
use Rattle.vdb.proofs.files.make_lanes.Given as goal

-- the lanes so far are those of the connections so far, and none is lost
abbrev pub invariant-loop-conn : goal.invariant-loop-conn
invariant-loop-conn g l = record {
  labels : labels_of l.lanes.items ≡ labels (take l.conn-index l.conns);
  here : are_here folder_told l.lanes.items ≡ true;
}
