use Rattle.std.proofs.Common.{◌≡◌, length, None}
use Rattle.vdb_session.specs.Fetching.{AreFetchedTo}
use Rattle.vdb_session.specs.Lanes.{AreAsked}
use Rattle.vdb_session.proofs.fetching.fetch_tables.Given as goal

-- the tables before this place are fetched
abbrev pub invariant-loop-at : goal.invariant-loop-at
invariant-loop-at g l = record {
  count : length l.bags ≡ l.at;
  asked : AreAsked g.S.Resource.told None l.fn.lanes l.lanes;
  fetched : AreFetchedTo g.S.Resource.told l.cat l.fn.lanes l.marks l.at l.bags;
}
