use Rattle.std.proofs.Common.{◌≡◌, Some, Ok, Err, option_map, IfSome, sym, ap, subst, ◌∙◌}
use Rattle.resource.specs.Images.{Fewer}
use Rattle.resource.specs.Leaves.{Reopened}
use Rattle.mem_store.specs.declared.attached.Attached.{Attached}
use Rattle.mem_store.specs.declared.inner.Inner.{Inner}
use Rattle.store_replay.specs.declared.opening.Opened.{Opened}
use Rattle.store_replay.specs.OpeningStore.{OpensAs}
use Rattle.store_replay.specs.Replaying.{AreApart}
use Rattle.mem_store.specs.Standing.{Standing}
use Rattle.mem_store.specs.Store.{store_told, store_images, seen_of}
use Rattle.mem_store.proofs.ReopenSteps.{is_apart, unread_leaves, unread_stands, unread_fewer}
use Rattle.mem_store.proofs.StoreSteps.{fewer_opened, taken_stands, taken_reopens}
use Rattle.mem_store.proofs.inner.Inner.reopen_lost.Goals as goal

pub open_store-requires : goal.open_store-requires
open_store-requires g c =
    let same : c.in-Ok.defs ≡ c.in-Some.attached.shelf.defs = c.in-Ok.ensures in
    subst AreApart (sym same) (is_apart g.D.Disk.told g.D.Disk.images c.args.self.now c.in-Some.attached c.in-Some.is c.requires.stands)

pub returns-in-Ok-open_store-clause-leaves : goal.returns-in-Ok-open_store-clause-leaves
returns-in-Ok-open_store-clause-leaves g c =
    let told = g.D.Disk.told in
    let images = g.D.Disk.images in
    let old = c.args.self.now in
    let h = c.in-Ok-open_store.ensures in
    let t = c.take.ensures in
    let same : c.in-Ok.defs ≡ c.in-Some.attached.shelf.defs = c.in-Ok.ensures in
    let apart = subst AreApart (sym same) (is_apart told images old c.in-Some.attached c.in-Some.is c.requires.stands) in
    let known : (seen_of old).defs ≡ Some c.in-Ok.defs = ap (option_map (λ (x : Attached). x.shelf.defs)) c.in-Some.is ∙ ap Some (sym same) in
    let leaves = taken_reopens told images old c.open_store.new.log c.in-Ok.defs apart c.requires.stands c.in-Ok-open_store.opened h.answer h.opened h.leaves h.ready t.attached c.take.new.self.state t.shelf t.branch known in
    subst (λ (n : Inner g.row.D.Denot). Reopened (store_told told (seen_of old)) (store_told told (seen_of n)) (store_images told images (seen_of n))) (sym t.is) leaves

pub returns-in-Ok-open_store-clause-stops : goal.returns-in-Ok-open_store-clause-stops
returns-in-Ok-open_store-clause-stops g c =
    let told = g.D.Disk.told in
    let images = g.D.Disk.images in
    let old = c.args.self.now in
    let few = fewer_opened told images old c.open_store.new.log (Ok c.in-Ok-open_store.opened) c.in-Ok-open_store.ensures.leaves c.open_store.ensures.keeps in
    subst (λ (n : Inner g.row.D.Denot). Fewer (store_images told images (seen_of old)) (store_images told images (seen_of n))) (sym c.take.ensures.is) few

pub returns-in-Ok-open_store-clause-stands : goal.returns-in-Ok-open_store-clause-stands
returns-in-Ok-open_store-clause-stands g c =
    let told = g.D.Disk.told in
    let images = g.D.Disk.images in
    let old = c.args.self.now in
    let h = c.in-Ok-open_store.ensures in
    let t = c.take.ensures in
    let same : c.in-Ok.defs ≡ c.in-Some.attached.shelf.defs = c.in-Ok.ensures in
    let apart = subst AreApart (sym same) (is_apart told images old c.in-Some.attached c.in-Some.is c.requires.stands) in
    let stands = taken_stands told images old c.open_store.new.log c.in-Ok.defs apart c.requires.stands c.in-Ok-open_store.opened h.answer h.opened h.leaves h.ready t.attached c.take.new.self.state t.shelf t.branch in
    subst (λ (n : Inner g.row.D.Denot). Standing told images n) (sym t.is) stands

pub returns-in-Err-clause-leaves : goal.returns-in-Err-clause-leaves
returns-in-Err-clause-leaves g c =
    unread_leaves g.D.Disk.told g.D.Disk.images c.args.self.now c.open_store.new.log c.in-Some.attached c.in-Some.is c.requires.may.state_is c.requires.stands
    c.in-Err.fault c.count.new.self c.count.result c.count.ensures c.in-Err.ensures.leaves c.open_store.ensures.keeps

pub returns-in-Err-clause-stops : goal.returns-in-Err-clause-stops
returns-in-Err-clause-stops g c =
    let told = g.D.Disk.told in
    let images = g.D.Disk.images in
    let old = c.args.self.now in
    let few = fewer_opened told images old c.open_store.new.log {T = Opened} (Err c.in-Err.fault) c.in-Err.ensures.leaves c.open_store.ensures.keeps in
    unread_fewer told images old c.open_store.new.log c.in-Some.attached c.in-Some.is c.requires.may.state_is c.requires.stands c.in-Err.fault c.count.new.self c.count.result c.count.ensures few

pub returns-in-Err-clause-stands : goal.returns-in-Err-clause-stands
returns-in-Err-clause-stands g c =
    let told = g.D.Disk.told in
    let images = g.D.Disk.images in
    let old = c.args.self.now in
    let same : c.in-Ok.defs ≡ c.in-Some.attached.shelf.defs = c.in-Ok.ensures in
    let answer = subst (λ ds. IfSome (told old.log.disk).bytes (OpensAs ds (Err c.in-Err.fault))) same c.in-Err.ensures.answer in
    unread_stands told images old c.open_store.new.log c.in-Some.attached c.in-Some.is c.requires.may.state_is c.requires.stands
    c.in-Err.fault c.count.new.self c.count.result c.count.ensures answer c.in-Err.ensures.leaves c.open_store.ensures.keeps
