use Rattle.sql_printer.proofs.Law.{printed_is_read}
use Rattle.sql_printer.proofs.SaidIsRead.{said_is_read}
use Rattle.sql_printer.proofs.laws.printed_is_read.Goals as goal

pub returns : goal.returns
returns c = printed_is_read said_is_read
