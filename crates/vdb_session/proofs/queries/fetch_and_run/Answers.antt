use Rattle.std.proofs.Common.{length, ap, subst, ◌∙◌}
use Rattle.vdb_session.specs.Fetching.{AreFetched}
use Rattle.vdb_session.specs.Querying.{AreMarked}
use Rattle.vdb_session.proofs.FetchedRows.{are_rows_of}
use Rattle.vdb_session.proofs.queries.fetch_and_run.Goals as goal

pub returns-in-Ok-run_over-clause-rows : goal.returns-in-Ok-run_over-clause-rows
returns-in-Ok-run_over-clause-rows g c =
    let marked = subst (λ n. AreMarked c.args.rel.now n c.in-Ok.marks.items) (c.len.ensures ∙ ap length c.tables.ensures) c.in-Ok.ensures in
    let fetched = subst (λ ms. AreFetched g.S.Resource.told c.args.cat.now c.args.lanes.now ms c.in-Ok-fetch_tables.tables) c.as_slice.ensures.value c.in-Ok-fetch_tables.ensures.bags in
    are_rows_of g.S.Resource.told c.args.cat.now c.args.lanes.now c.args.query.now c.args.rel.now c.in-Ok.marks.items c.in-Ok-fetch_tables.tables c.in-Ok-run_over.rows c.requires.expanded marked fetched c.in-Ok-run_over.ensures
