use Rattle.vdb_session.proofs.AnswerSays.{ready_stays}
use Rattle.vdb_session.proofs.engine.Engine.answer.Goals as goal

pub invariant_of-self : goal.invariant_of-self
invariant_of-self g c =
    let opened = c.self.inside.opened in
    ready_stays g.S.Resource.told _ opened.parts.ddl opened.catalog opened.broken opened.broken opened.parts.lanes c.answer_over-answer.new.lanes c.answer_over-answer.ensures.asked c.self.invariant

pub invariant_of-self-in-Fault : goal.invariant_of-self-in-Fault
invariant_of-self-in-Fault g c =
    let opened = c.self.inside.opened in
    ready_stays g.S.Resource.told _ opened.parts.ddl opened.catalog opened.broken _ opened.parts.lanes c.answer_over-answer.new.lanes c.answer_over-answer.ensures.asked c.self.invariant
