use Rattle.std.proofs.Common.{true, false, sym}
use Rattle.mem_store.proofs.ChangeSteps.{key_said}
use Rattle.mem_store.proofs.attached.make_ready.Goals as goal

pub returns-then-branch-clause-key : goal.returns-then-branch-clause-key
returns-then-branch-clause-key c =
    key_said true c.in_ok-keeps_key.field-0 c.args.shelf.now c.touch.new.self c.args.delta.now c.args.at c.in_ok-keys.keys c.in_ok-keys.ensures.same c.requires c.in_ok-keys.ensures.keys (sym c.if-branch.true) c.in_ok-keeps_key.ensures

pub returns-else-branch-clause-key : goal.returns-else-branch-clause-key
returns-else-branch-clause-key c =
    key_said false c.in_ok-keeps_key.field-0 c.args.shelf.now c.touch.new.self c.args.delta.now c.args.at c.in_ok-keys.keys c.in_ok-keys.ensures.same c.requires c.in_ok-keys.ensures.keys (sym c.if-branch.false) c.in_ok-keeps_key.ensures
