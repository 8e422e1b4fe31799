use Rattle.std.proofs.Common.{◌≡◌, true, sym, arith}
use Rattle.std.specs.List.{list_any}
use Rattle.std.proofs.lemmas.Grind.{common_steps}
use Rattle.vdb_model.specs.Rows.{same_row}
use Rattle.rel_eval.proofs.KeepFirst.{seen_old}
use Rattle.rel_eval.proofs.rows.Seen.add.Goals as goal

pub returns-then-contains-clause-added : goal.returns-then-contains-clause-added
returns-then-contains-clause-added c = λ q.
    let old : list_any (same_row c.args.row.now) c.args.self.now.rows.keys ≡ true = grind (arith, common_steps) in
    sym (seen_old q c.args.row.now c.args.self.now.rows.keys old)
