use Rattle.std.proofs.Common.{◌≡◌, ◌++◌, [], drop, ◌==◌, if◌then◌else◌}
use Rattle.vdb_model.specs.Relations.{bags_of, first_width, union_rows}
use Rattle.processor.proofs.relation.+evaluating.Given as goal

-- the rows so far and those of the parts to come are all, and the width is the first part's
abbrev pub invariant-union_of-loop-i : goal.invariant-union_of-loop-i
invariant-union_of-loop-i l =
    (l.rows ++ union_rows (bags_of l.tables [] l.vars (drop l.i l.parts)) ≡ union_rows (bags_of l.tables [] l.vars l.parts))
    × ((if l.i == 0 then first_width (bags_of l.tables [] l.vars (drop l.i l.parts)) else l.width) ≡ first_width (bags_of l.tables [] l.vars l.parts))
    × (l.i ≡ 0 → l.width ≡ 0)
