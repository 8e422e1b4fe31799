use Rattle.std.proofs.Common.{refl, ◌∷◌, ◌++◌, [], codes, ap, arith}
use Rattle.std.proofs.lemmas.List.{at_drop_all}
use Rattle.vdb_base.specs.Print.{value_text}
use Rattle.vdb_model.specs.ReplyText.{value_texts}
use Rattle.vdb_lines.proofs.Pens.{Pen-cut, Part-more, Part-cut, Part-last, marked, listed-marked, marked-at}
use Rattle.vdb_lines.proofs.print.print_row.Goals as goal

pub returns-in-Err : goal.returns-in-Err
returns-in-Err g c = Pen-cut _ _ _ _ _ (marked 32 (value_texts c.args.row.now) ++ 10 ∷ []) c.in-Err.ensures (listed-marked (codes "ROW") (value_texts c.args.row.now) (10 ∷ []))

pub returns-in-Err-print_cell : goal.returns-in-Err-print_cell
returns-in-Err-print_cell g c = Part-cut _ _ _ _ _ _ _ _ _ c.loop-value.invariant c.in-Err-print_cell.ensures (marked-at value_text value_texts (λ _ _. refl) c.loop-value.mark c.args.row.now c.loop-value.value-index c.value-item.result c.value-item.result (10 ∷ []) c.loop-value-test.true c.value-item.is)

pub loop-value-preserved : goal.loop-value-preserved
loop-value-preserved g c = Part-more _ _ _ _ _ _ _ _ _ _ c.loop-value.invariant c.in-Ok-print_cell.ensures (marked-at value_text value_texts (λ _ _. refl) c.loop-value.mark c.args.row.now c.loop-value.value-index c.value-item.result c.value-item.result (10 ∷ []) c.loop-value-test.true c.value-item.is)

pub returns : goal.returns
returns g c = Part-last _ _ _ _ _ _ _ _ _ _ c.loop-value.invariant c.print_byte.ensures (ap (λ ts. marked c.loop-value.mark ts ++ 10 ∷ []) (at_drop_all value_texts c.args.row.now c.loop-value.value-index (omega arith)))
