use Rattle.std.proofs.Common.{◌≡◌, Ok, Err, sym, subst}
use Rattle.resource.specs.Images.{Fewer}
use Rattle.resource.specs.Leaves.{Attaches}
use Rattle.mem_store.specs.declared.inner.Inner.{Inner}
use Rattle.store_replay.specs.declared.opening.Opened.{Opened}
use Rattle.store_replay.specs.Replaying.{AreApart}
use Rattle.mem_store.specs.Standing.{Standing}
use Rattle.mem_store.specs.Store.{store_told, store_images, seen_of}
use Rattle.mem_store.proofs.OpenedSteps.{fit_apart}
use Rattle.mem_store.proofs.StoreSteps.{refused_leaves, fewer_opened, taken_stands, taken_leaves}
use Rattle.mem_store.proofs.inner.Inner.attach.Goals as goal

pub returns-in-Ok-open_store-clause-leaves : goal.returns-in-Ok-open_store-clause-leaves
returns-in-Ok-open_store-clause-leaves g c =
    let told = g.D.Disk.told in
    let images = g.D.Disk.images in
    let old = c.args.self.now in
    let h = c.in-Ok-open_store.ensures in
    let t = c.take.ensures in
    let same : c.in-Ok.defs ≡ c.args.defs.now = c.in-Ok.ensures in
    let apart = subst AreApart (sym same) (fit_apart c.args.defs.now c.requires.may.fit) in
    let leaves = taken_leaves told images old c.open_store.new.log c.in-Ok.defs apart c.requires.stands c.in-Ok-open_store.opened h.answer h.opened h.leaves h.ready t.attached c.take.new.self.state t.shelf t.branch c.args.defs.now same in
    subst (λ (n : Inner g.row.D.Denot). Attaches c.args.defs.now (store_told told (seen_of old)) (store_told told (seen_of n)) (store_images told images (seen_of n)) (Ok tt)) (sym t.is) leaves

pub returns-in-Ok-open_store-clause-stops : goal.returns-in-Ok-open_store-clause-stops
returns-in-Ok-open_store-clause-stops g c =
    let told = g.D.Disk.told in
    let images = g.D.Disk.images in
    let old = c.args.self.now in
    let few = fewer_opened told images old c.open_store.new.log (Ok c.in-Ok-open_store.opened) c.in-Ok-open_store.ensures.leaves c.open_store.ensures.keeps in
    subst (λ (n : Inner g.row.D.Denot). Fewer (store_images told images (seen_of old)) (store_images told images (seen_of n))) (sym c.take.ensures.is) few

pub returns-in-Ok-open_store-clause-stands : goal.returns-in-Ok-open_store-clause-stands
returns-in-Ok-open_store-clause-stands g c =
    let told = g.D.Disk.told in
    let images = g.D.Disk.images in
    let h = c.in-Ok-open_store.ensures in
    let t = c.take.ensures in
    let same : c.in-Ok.defs ≡ c.args.defs.now = c.in-Ok.ensures in
    let apart = subst AreApart (sym same) (fit_apart c.args.defs.now c.requires.may.fit) in
    let stands = taken_stands told images c.args.self.now c.open_store.new.log c.in-Ok.defs apart c.requires.stands c.in-Ok-open_store.opened h.answer h.opened h.leaves h.ready t.attached c.take.new.self.state t.shelf t.branch in
    subst (λ (n : Inner g.row.D.Denot). Standing told images n) (sym t.is) stands

pub returns-in-Err-clause-leaves : goal.returns-in-Err-clause-leaves
returns-in-Err-clause-leaves g c = refused_leaves g.D.Disk.told g.D.Disk.images c.args.self.now c.open_store.new.log c.args.defs.now c.in-Err.fault c.in-Err.ensures.leaves

pub returns-in-Err-clause-stops : goal.returns-in-Err-clause-stops
returns-in-Err-clause-stops g c = fewer_opened g.D.Disk.told g.D.Disk.images c.args.self.now c.open_store.new.log {T = Opened} (Err c.in-Err.fault) c.in-Err.ensures.leaves c.open_store.ensures.keeps
