use Rattle.std.proofs.Common.{arith}
use Rattle.vdb_model.specs.Lines.{number_text}
use Rattle.vdb_lines.proofs.Pens.{spaced-full, number-full}
use Rattle.vdb_lines.proofs.print.print_doomed.Goals as goal

pub returns : goal.returns
returns g c = rw (spaced-full (number_text c.args.number) (number-full c.args.number (omega arith))) c.print_count.ensures
