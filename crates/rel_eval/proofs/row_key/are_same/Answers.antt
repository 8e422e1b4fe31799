use Rattle.std.proofs.Common.{sym, arith}
use Rattle.rel_eval.proofs.SameKeys.{other_length}
use Rattle.rel_eval.proofs.row_key.are_same.Goals as goal

pub returns-then-a-b : goal.returns-then-a-b
returns-then-a-b c = sym (other_length c.args.a.now.columns.now c.args.b.now.columns.now c.args.a.now.row.now c.args.b.now.row.now (grind (arith, c.if-a-b.true)))
