-- What the code's texts are made of.
use Rattle.sql_printer.proofs.ExprsByKinds.{expr_texts}
use Rattle.sql_printer.proofs.NameTexts.{name_texts}
use Rattle.sql_printer.proofs.QueriesByKinds.{query_texts}
use Rattle.sql_printer.proofs.Texts.{step, left_part, left_none, all_part}

pub ruleset name_rules = (name_texts, step)

pub ruleset list_rules = (left_part, left_none, all_part)

pub ruleset expr_rules = (expr_texts, list_rules)

pub ruleset query_rules = (query_texts, list_rules)
