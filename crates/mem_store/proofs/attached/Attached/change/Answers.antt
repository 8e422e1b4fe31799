use Rattle.std.proofs.Common.{Option, IfSome, get_or, is_some, sym, ap, subst, ◌∙◌}
use Rattle.vdb_model.specs.Deltas.{after_deltas}
use Rattle.store_tables.specs.Tables.{MayApply}
use Rattle.store_tables.specs.declared.shelf.Shelf.{Shelf}
use Rattle.store_tables.specs.declared.table.Keys.{Keys}
use Rattle.store_tables.specs.declared.table.Table.{Table}
use Rattle.mem_store.proofs.ChangeSteps.{applied, repeats}
use Rattle.mem_store.proofs.attached.Attached.change.Goals as goal

pub returns-in-Ok-None-clause-key : goal.returns-in-Ok-None-clause-key
returns-in-Ok-None-clause-key c = λ kept has world there.
    let old = c.args.self.now in
    repeats _ (sym (ap is_some c.in-Ok-None.field-0-is) ∙ c.in-Ok-None.ensures.key kept (after_deltas old.shelf.defs kept old.deltas.items) has world there)

pub apply-requires-clause-ready : goal.apply-requires-clause-ready
apply-requires-clause-ready c = λ t.
    let ready = subst (λ (o : Option Keys). IfSome o (λ k. (t : Table) → MayApply c.args.delta.now k (get_or c.make_ready.new.shelf.tables.items c.in-Some.at t))) c.in-Ok-Some.field-0-is c.in-Ok-Some.ensures.ready in
    subst (λ (s : Shelf). MayApply c.args.delta.now c.in-Ok-Some.keys (get_or s.tables.items c.in-Some.at t)) (sym c.in-Ok.ensures.shelf) (ready t)

pub returns-in-Ok-clause-has : goal.returns-in-Ok-clause-has
returns-in-Ok-clause-has c =
    applied c.args.self.now.shelf c.make_ready.new.shelf c.note.new.self.shelf c.apply.new.self c.args.self.now.deltas.items c.note.new.self.deltas.items c.args.delta.now c.in-Some.at c.in-Ok-Some.field-0 c.in-Ok-Some.keys c.defs.result.now
    c.in-Ok-Some.ensures.same c.in-Ok.ensures.shelf c.apply.ensures.defs c.in-Ok.ensures.deltas c.defs.ensures c.in-Some.ensures c.in-Ok-Some.field-0-is c.in-Ok-Some.ensures.keys c.apply.ensures.has
