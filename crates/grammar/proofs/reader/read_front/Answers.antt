use Rattle.std.proofs.Common.{sym, ◌∙◌}
use Rattle.grammar.proofs.Runs.{front_of, none_at, reading_at}
use Rattle.grammar.proofs.reader.read_front.Goals as goal

pub returns-in_default-clause-place : goal.returns-in_default-clause-place
returns-in_default-clause-place c = front_of c.args.grammar.now _ _ c.in_ok-done.field-0 c.rules-rules.ensures.well_formed (rw c.rules-rules.ensures.rules at c.in_ok-done.ensures)

pub returns-in_default-clause-none : goal.returns-in_default-clause-none
returns-in_default-clause-none c = none_at c.args.grammar.now c.args.start _ c.in_ok-done.field-0.at c.in_ok-done.field-0.done.items c.in_ok-done.field-0.threads.items c.in_ok-complete.complete.items
    (rw c.rules-rules.ensures.rules at c.in_ok-done.ensures.follows)
    (rw (c.rules-rules.ensures.rules, c.as_slice.ensures.value) at c.in_ok-complete.ensures.adds) (sym c.as_slice-2.ensures.value ∙ c.in_default.ensures)

pub returns-clause-front : goal.returns-clause-front
returns-clause-front c = front_of c.args.grammar.now _ _ c.in_ok-done.field-0 c.rules-rules.ensures.well_formed (rw c.rules-rules.ensures.rules at c.in_ok-done.ensures)

pub returns-clause-reading : goal.returns-clause-reading
returns-clause-reading c = reading_at c.args.grammar.now c.args.start _ c.in_ok-done.field-0.at c.in_ok-done.field-0.done.items c.in-Some.last.now c.extend_from_slice.new.self.items c.in_ok-done.field-0.threads.items c.in_ok-complete.complete.items
    (rw c.rules-rules.ensures.rules at c.in_ok-done.ensures.follows)
    (rw (c.rules-rules.ensures.rules, c.as_slice.ensures.value) at c.in_ok-complete.ensures.adds) c.in_ok-complete.ensures.ended (rw c.as_slice-2.ensures.value at c.in-Some.ensures) c.in_ok-extend_from_slice.ensures.items
