use Rattle.std.proofs.Common.{refl}
use Rattle.mem_store.proofs.TakeSteps.{takes_none, takes_some}
use Rattle.mem_store.proofs.inner.Inner.take.Goals as goal

pub returns-in-Some : goal.returns-in-Some
returns-in-Some g c = record {
  attached = c.of.result;
  is = refl;
  shelf = c.of.ensures.shelf;
  branch = takes_some c.args.opened.waiting c.in-Some.field-0 _ c.of.result c.in-Some.is (cc) (cc);
}

pub returns-in-None : goal.returns-in-None
returns-in-None g c = record {
  attached = c.of-in-None.result;
  is = refl;
  shelf = c.of-in-None.ensures.shelf;
  branch = takes_none c.args.opened.waiting c.of-in-None.result c.in-None.is (cc) (c.of-in-None.ensures.written c.new.ensures.items);
}
