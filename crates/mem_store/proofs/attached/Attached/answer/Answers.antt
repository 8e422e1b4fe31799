use Rattle.std.proofs.Common.{◌≡◌, ℕ, List, get_or, ap, ◌∙◌}
use Rattle.mem_store.proofs.ChangeSteps.{answers_first}
use Rattle.mem_store.proofs.attached.Attached.answer.Goals as goal

pub returns-in-Some : goal.returns-in-Some
returns-in-Some c = λ number more is.
    let same : c.in-Some.number.now ≡ number = c.in-Some.ensures.or 0 ∙ ap (λ (l : List ℕ). get_or l 0 0) is in
    answers_first c.answer.result c.args.self.now.shelf c.args.self.now.deltas.items c.args.q.now.filter c.as_slice.result.now c.args.q.now.columns c.as_slice-in-Some.result.now number c.in-Some.number.now
    c.as_slice.ensures c.as_slice-in-Some.ensures same c.answer.ensures
