use Rattle.std.proofs.Common.{refl, ap}
use Rattle.vdb_model.specs.ReplyText.{row_line, row_lines}
use Rattle.vdb_lines.proofs.Pens.{Part-more, Part-cut, pieces-at}
use Rattle.vdb_lines.proofs.print.print_rows.Goals as goal

pub returns-in-Err : goal.returns-in-Err
returns-in-Err g c = Part-cut _ _ _ _ _ _ _ _ _ c.loop-row.invariant c.in-Err.ensures (pieces-at row_line row_lines (λ _ _. refl) c.args.rows.now c.loop-row.row-index c.row-item.result c.row-item.result _ c.loop-row-test.true c.row-item.is (ap row_line c.as_slice.ensures))

pub loop-row-preserved : goal.loop-row-preserved
loop-row-preserved g c = Part-more _ _ _ _ _ _ _ _ _ _ c.loop-row.invariant c.in-Ok.ensures (pieces-at row_line row_lines (λ _ _. refl) c.args.rows.now c.loop-row.row-index c.row-item.result c.row-item.result _ c.loop-row-test.true c.row-item.is (ap row_line c.as_slice.ensures))
