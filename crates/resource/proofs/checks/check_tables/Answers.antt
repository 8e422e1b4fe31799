use Rattle.std.proofs.Common.{◌≡◌, Ok, [], arith, drop, ap}
use Rattle.std.specs.Option.{unwrap_or}
use Rattle.std.proofs.lemmas.List.{drop_all}
use Rattle.resource.specs.Checked.{stored_fault}
use Rattle.resource.proofs.checks.check_tables.Goals as goal

pub returns : goal.returns
returns c =
    let kept = c.args.kept.now in
    let none : drop c.loop-def.def-index c.args.defs.now ≡ [] = drop_all c.loop-def.def-index c.args.defs.now (omega arith) in
    c.loop-def.invariant (Ok tt) (ap (λ ds. stored_fault ds kept (unwrap_or c.args.left.now kept)) none)
