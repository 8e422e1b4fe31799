-- The next token tells which alternative of the grammar of statements to take.
use Rattle.std.specs.Prelude.{true, ◌≡◌, refl}
use Rattle.grammar.proofs.Predictive.{one_derivation}
use Rattle.grammar.specs.Predictive.{is_predictive}
use Rattle.sql_reader.specs.Symbols.{STATEMENT_RULE, SET_ONLY_RULE}
use Rattle.sql_reader.specs.Table.{table}
use Rattle.sql_reader.specs.Trees.{OneLog}
use Rattle.sql_reader.proofs.FirstFollow.{certificate}

table_predictive : is_predictive table certificate ≡ true
table_predictive = refl

pub statement_log : OneLog STATEMENT_RULE
statement_log kinds log other d e = one_derivation table certificate STATEMENT_RULE kinds log other table_predictive refl d e

pub query_log : OneLog SET_ONLY_RULE
query_log kinds log other d e = one_derivation table certificate SET_ONLY_RULE kinds log other table_predictive refl d e
