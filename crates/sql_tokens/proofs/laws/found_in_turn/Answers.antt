use Rattle.sql_tokens.proofs.Turns.{found_in_turn}
use Rattle.sql_tokens.proofs.laws.found_in_turn.Goals as goal

pub returns : goal.returns
returns c = found_in_turn
