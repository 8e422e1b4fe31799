use Rattle.std.proofs.Common.{◌∙◌, arith}
use Rattle.vdb_ddl.proofs.Turns.{refused, too_long}
use Rattle.vdb_ddl.proofs.read.read_ddl.Goals as goal

pub returns-in-Ok-clause-place : goal.returns-in-Ok-clause-place
returns-in-Ok-clause-place c =
    too_long c.args.text.now _ _ (c.as_slice.ensures ∙ c.in_ok-tokens.ensures.tokens) c.in-Ok.ensures.items (omega (arith, c.if-text-le-MAX_BYTES.false))

pub returns-in-Err-Syntax-clause-place : goal.returns-in-Err-Syntax-clause-place
returns-in-Err-Syntax-clause-place c =
    refused c.args.text.now _ c.as_slice.result.now _ c.in-Err-Syntax.at _ c.as_slice.ensures c.in_ok-tokens.ensures.tokens c.in_ok-tokens.ensures.within c.in-Err-Syntax.field-0-is c.in-Err-Syntax.ensures.place (let a = c.min.ensures in let b = c.in-Err-Syntax.at-is in cc)
