use Rattle.std.proofs.Common.{◌≡◌, drop}
use Rattle.vdb_model.specs.Rows.{cut, same_row}
use Rattle.rel_eval.proofs.row_key.are_same.Given as goal

-- the columns that are left decide
abbrev pub invariant-loop-i : goal.invariant-loop-i
invariant-loop-i l = same_row (cut (drop l.i l.a.columns.now) l.a.row.now) (cut (drop l.i l.b.columns.now) l.b.row.now) ≡ same_row (cut l.a.columns.now l.a.row.now) (cut l.b.columns.now l.b.row.now)
