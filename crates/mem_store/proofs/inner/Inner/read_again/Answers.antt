use Rattle.std.proofs.Common.{◌≡◌, Some, Ok, Err, option_map, IfSome, sym, ap, subst, ◌∙◌}
use Rattle.resource.specs.Images.{Fewer}
use Rattle.resource.specs.Leaves.{Reopened}
use Rattle.mem_store.specs.declared.attached.Attached.{Attached}
use Rattle.mem_store.specs.declared.inner.Inner.{Inner}
use Rattle.store_replay.specs.declared.opening.Opened.{Opened}
use Rattle.store_replay.specs.OpeningStore.{OpensAs}
use Rattle.store_replay.specs.Replaying.{AreApart}
use Rattle.mem_store.specs.Standing.{Standing}
use Rattle.mem_store.specs.Store.{store_told, store_images, seen_of}
use Rattle.mem_store.proofs.AgainSteps.{is_ready, asked_leaves, asked_fewer, failing_leaves, failing_fewer, failing_stands}
use Rattle.mem_store.proofs.ReopenSteps.{is_apart}
use Rattle.mem_store.proofs.StoreSteps.{taken_stands, taken_reopens}
use Rattle.mem_store.proofs.inner.Inner.read_again.Goals as goal

pub read_store-requires-clause-apart : goal.read_store-requires-clause-apart
read_store-requires-clause-apart g c =
    let same : c.in-Ok.defs ≡ c.in-Some.attached.shelf.defs = c.in-Ok.ensures in
    subst AreApart (sym same) (is_apart g.D.Disk.told g.D.Disk.images c.args.self.now c.in-Some.attached c.in-Some.is c.requires.stands)

pub read_store-requires-clause-ready : goal.read_store-requires-clause-ready
read_store-requires-clause-ready g c = is_ready g.D.Disk.told g.D.Disk.images c.args.self.now c.in-Some.attached c.in-Some.is c.requires.may.here c.requires.stands

pub returns-in-Ok-read_store-clause-leaves : goal.returns-in-Ok-read_store-clause-leaves
returns-in-Ok-read_store-clause-leaves g c =
    let told = g.D.Disk.told in
    let images = g.D.Disk.images in
    let old = c.args.self.now in
    let h = c.in-Ok-read_store.ensures in
    let t = c.take.ensures in
    let same : c.in-Ok.defs ≡ c.in-Some.attached.shelf.defs = c.in-Ok.ensures in
    let apart = subst AreApart (sym same) (is_apart told images old c.in-Some.attached c.in-Some.is c.requires.stands) in
    let known : (seen_of old).defs ≡ Some c.in-Ok.defs = ap (option_map (λ (x : Attached). x.shelf.defs)) c.in-Some.is ∙ ap Some (sym same) in
    let kept = asked_leaves told images old c.in-Some.attached c.in-Some.is c.requires.may.here c.requires.stands c.read_store.new.log h.stops (Ok c.in-Ok-read_store.opened) h.leaves in
    let leaves = taken_reopens told images old c.read_store.new.log c.in-Ok.defs apart c.requires.stands c.in-Ok-read_store.opened h.answer h.opened kept h.ready t.attached c.take.new.self.state t.shelf t.branch known in
    subst (λ (n : Inner g.row.D.Denot). Reopened (store_told told (seen_of old)) (store_told told (seen_of n)) (store_images told images (seen_of n))) (sym t.is) leaves

pub returns-in-Ok-read_store-clause-stops : goal.returns-in-Ok-read_store-clause-stops
returns-in-Ok-read_store-clause-stops g c =
    let told = g.D.Disk.told in
    let images = g.D.Disk.images in
    let old = c.args.self.now in
    let h = c.in-Ok-read_store.ensures in
    let few = asked_fewer told images old c.in-Some.attached c.in-Some.is c.requires.may.here c.requires.stands c.read_store.new.log h.stops (Ok c.in-Ok-read_store.opened) h.leaves in
    subst (λ (n : Inner g.row.D.Denot). Fewer (store_images told images (seen_of old)) (store_images told images (seen_of n))) (sym c.take.ensures.is) few

pub returns-in-Ok-read_store-clause-stands : goal.returns-in-Ok-read_store-clause-stands
returns-in-Ok-read_store-clause-stands g c =
    let told = g.D.Disk.told in
    let images = g.D.Disk.images in
    let old = c.args.self.now in
    let h = c.in-Ok-read_store.ensures in
    let t = c.take.ensures in
    let same : c.in-Ok.defs ≡ c.in-Some.attached.shelf.defs = c.in-Ok.ensures in
    let apart = subst AreApart (sym same) (is_apart told images old c.in-Some.attached c.in-Some.is c.requires.stands) in
    let kept = asked_leaves told images old c.in-Some.attached c.in-Some.is c.requires.may.here c.requires.stands c.read_store.new.log h.stops (Ok c.in-Ok-read_store.opened) h.leaves in
    let stands = taken_stands told images old c.read_store.new.log c.in-Ok.defs apart c.requires.stands c.in-Ok-read_store.opened h.answer h.opened kept h.ready t.attached c.take.new.self.state t.shelf t.branch in
    subst (λ (n : Inner g.row.D.Denot). Standing told images n) (sym t.is) stands

pub returns-in-Memory-clause-stops : goal.returns-in-Memory-clause-stops
returns-in-Memory-clause-stops g c =
    let h = c.in-Err.ensures in
    asked_fewer g.D.Disk.told g.D.Disk.images c.args.self.now c.in-Some.attached c.in-Some.is c.requires.may.here c.requires.stands c.read_store.new.log h.stops {T = Opened} (Err c.in-Err.fault) h.leaves

pub returns-in_default-fault : goal.returns-in_default-fault
returns-in_default-fault g c =
    let told = g.D.Disk.told in
    let images = g.D.Disk.images in
    let old = c.args.self.now in
    let a = c.in-Some.attached in
    let h = c.in-Err.ensures in
    let same : c.in-Ok.defs ≡ a.shelf.defs = c.in-Ok.ensures in
    let answer = subst (λ ds. IfSome (told old.log.disk).bytes (OpensAs ds (Err c.in-Err.fault))) same h.answer in
    record {
      leaves = failing_leaves told images old a c.in-Some.is c.requires.may.here c.requires.stands c.read_store.new.log h.stops c.in-Err.fault c.count.new.self c.count.result c.count.ensures h.leaves c.in_default-fault.not-Memory;
      settled = tt;
      stops = failing_fewer told images old a c.in-Some.is c.requires.may.here c.requires.stands c.read_store.new.log h.stops c.in-Err.fault c.count.new.self c.count.result c.count.ensures h.leaves;
      stands = failing_stands told images old a c.in-Some.is c.requires.may.here c.requires.stands c.read_store.new.log h.stops c.in-Err.fault c.count.new.self c.count.result c.count.ensures h.leaves answer;
    }
