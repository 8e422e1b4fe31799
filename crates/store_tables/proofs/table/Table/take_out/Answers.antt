use Rattle.std.proofs.Common.{ap, sym, refl, ◌∙◌, arith}
use Rattle.std.specs.Option.{option_copied}
use Rattle.store_tables.proofs.TableSteps.{none_out, out_unkeyed, out_keyed}
use Rattle.store_tables.proofs.table.Table.take_out.Goals as goal

pub returns-then-seen-eq0-clause-has : goal.returns-then-seen-eq0-clause-has
returns-then-seen-eq0-clause-has c = λ ats kept seen is has. none_out c.args.row.now ats kept seen c.args.self.now c.args.self.now has (sym c.seen.ensures ∙ c.if-seen-eq0.true)

pub returns-in-None-clause-has : goal.returns-in-None-clause-has
returns-in-None-clause-has c = λ ats kept seen is has.
    out_unkeyed c.args.row.now ats kept seen c.args.self.now _ has (omega (arith, c.seen.ensures, c.if-seen-eq0.false)) c.take_out.ensures refl (sym (ap option_copied c.in-None.is) ∙ is)

pub returns-clause-has : goal.returns-clause-has
returns-clause-has c = λ ats kept seen is has.
    out_keyed c.args.row.now ats kept seen c.args.self.now _ has (omega (arith, c.seen.ensures, c.if-seen-eq0.false)) c.take_out.ensures c.in-Some.key.now c.take_out-2.ensures (sym (ap option_copied c.in-Some.is) ∙ is)
