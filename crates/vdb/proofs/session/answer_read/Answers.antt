use Rattle.vdb.proofs.AnswerSteps.{answered_none}
use Rattle.vdb.proofs.session.answer_read.Goals as goal

pub returns-in-Memory : goal.returns-in-Memory
returns-in-Memory g c = rw c.in-Memory.is (answered_none g.S.Resource.told _ _ _)

pub returns-in-TooLong : goal.returns-in-TooLong
returns-in-TooLong g c = rw c.in-TooLong.is c.answer_all-in-TooLong.ensures

pub returns-in-Failed : goal.returns-in-Failed
returns-in-Failed g c = rw c.in-Failed.is c.answer_all-in-Failed.ensures
