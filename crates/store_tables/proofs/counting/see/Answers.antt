use Rattle.std.proofs.Common.{sym, rules}
use Rattle.store_tables.proofs.TallySteps.{seen_written}
use Rattle.store_tables.proofs.counting.see.Goals as goal

pub returns-in-Some : goal.returns-in-Some
returns-in-Some c =
    seen_written c.args.row.now c.args.times c.in-Some.counts.now c.args.map.now _ (sym c.in-Some.ensures.value)
    ((c.get_mut.follows.holds (record { kept = c.in-Some.counts.now.kept; seen = c.args.times })).3 (search rules))
