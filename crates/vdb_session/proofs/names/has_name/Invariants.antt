use Rattle.std.proofs.Common.{◌≡◌, drop}
use Rattle.std.specs.List.{list_any}
use Rattle.vdb_model.specs.Defs.{same_name}
use Rattle.vdb_session.specs.Lanes.{names_of}
use Rattle.vdb_session.proofs.names.has_name.Given as goal

abbrev pub invariant-loop-lane : goal.invariant-loop-lane
invariant-loop-lane g l = list_any (same_name l.name) (names_of (drop l.lane-index l.lanes)) ≡ list_any (same_name l.fn.name) (names_of l.fn.lanes)
