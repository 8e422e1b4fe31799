use Rattle.std.proofs.Common.{refl, ◌∷◌, ◌++◌, [], codes, ap, arith}
use Rattle.std.proofs.lemmas.List.{at_drop_all}
use Rattle.vdb_model.specs.NameText.{name_text}
use Rattle.vdb_model.specs.ReplyText.{name_texts}
use Rattle.vdb_lines.proofs.Pens.{Pen-cut, Part-more, Part-cut, Part-last, marked, listed-marked, marked-at}
use Rattle.vdb_lines.proofs.print.print_columns.Goals as goal

pub returns-in-Err : goal.returns-in-Err
returns-in-Err g c = Pen-cut _ _ _ _ _ (marked 32 (name_texts c.args.names.now) ++ 10 ∷ []) c.in-Err.ensures (listed-marked (codes "COLUMNS") (name_texts c.args.names.now) (10 ∷ []))

pub returns-in-Err-print_column : goal.returns-in-Err-print_column
returns-in-Err-print_column g c = Part-cut _ _ _ _ _ _ _ _ _ c.loop-name.invariant c.in-Err-print_column.ensures (marked-at name_text name_texts (λ _ _. refl) c.loop-name.mark c.args.names.now c.loop-name.name-index c.name-item.result c.name-item.result (10 ∷ []) c.loop-name-test.true c.name-item.is)

pub loop-name-preserved : goal.loop-name-preserved
loop-name-preserved g c = Part-more _ _ _ _ _ _ _ _ _ _ c.loop-name.invariant c.in-Ok-print_column.ensures (marked-at name_text name_texts (λ _ _. refl) c.loop-name.mark c.args.names.now c.loop-name.name-index c.name-item.result c.name-item.result (10 ∷ []) c.loop-name-test.true c.name-item.is)

pub returns : goal.returns
returns g c = Part-last _ _ _ _ _ _ _ _ _ _ c.loop-name.invariant c.print_byte.ensures (ap (λ ts. marked c.loop-name.mark ts ++ 10 ∷ []) (at_drop_all name_texts c.args.names.now c.loop-name.name-index (omega arith)))
