use Rattle.std.proofs.Common.{◌≡◌, ◌∙◌, ◌+◌, ◌∷◌, ◌≤◌, length, true, arith, drop, sym, ap}
use Rattle.std.proofs.lemmas.Grind.{common_steps}
use Rattle.std.specs.Ordering.{is_eq}
use Rattle.vdb_model.specs.Rows.{same_row}
use Rattle.resource.proofs.TakenOut.{out_here, out_nowhere}
use Rattle.resource.proofs.tables.take_out.Goals as goal

pub returns-then-is_eq : goal.returns-then-is_eq
returns-then-is_eq c =
    let rows = c.loop-i.rows.items in
    let row = c.args.row.now in
    let front : drop c.loop-i.i rows ≡ c.index.result.now ∷ drop (c.loop-i.i + 1) rows = grind (arith, common_steps) in
    let same : same_row row c.index.result.now ≡ true = ap is_eq (sym c.cmp_rows.ensures) ∙ sym c.if-is_eq.ensures in
    out_here row c.index.result.now c.loop-i.i rows c.remove-row.new.self.items _ front same c.remove-row.ensures.by_index.2 c.loop-i.invariant

pub returns : goal.returns
returns c =
    let end : length c.loop-i.rows.items ≤ c.loop-i.i = omega arith in
    out_nowhere c.args.row.now c.loop-i.i c.loop-i.rows.items _ end c.loop-i.invariant
