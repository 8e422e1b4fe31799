use Rattle.std.proofs.Common.{List, Some, subst}
use Rattle.vdb_model.specs.declared.table.TableDef.{TableDef}
use Rattle.store_tables.specs.Numbering.{NumberedIs}
use Rattle.store_replay.proofs.ReplaySteps.{shelf_one}
use Rattle.store_replay.proofs.replay.make_one.Goals as goal

pub returns-in_ok-push-in-Some-clause-has : goal.returns-in_ok-push-in-Some-clause-has
returns-in_ok-push-in-Some-clause-has c =
    let found : NumberedIs c.args.delta.now c.defs.result.now (Some c.in-Some.delta) = rw c.in-Some.is at c.in_ok-delta.ensures in
    let numbered = subst (λ (ds : List TableDef). NumberedIs c.args.delta.now ds (Some c.in-Some.delta)) c.defs.ensures found in
    λ kept seen has. shelf_one c.args.shelf.now.defs c.args.delta.now c.in-Some.delta kept seen c.make.new.self numbered (c.in_ok-make-in-Some.ensures.has kept seen has)
