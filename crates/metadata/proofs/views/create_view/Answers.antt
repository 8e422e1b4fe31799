use Rattle.metadata.proofs.DeployGives.{becomes_holds}
use Rattle.metadata.proofs.SoundViews.{tested_stands, view_over_sound}
use Rattle.metadata.proofs.views.create_view.Goals as goal

pub view_over-requires-clause-stands : goal.view_over-requires-clause-stands
view_over-requires-clause-stands g c = tested_stands c.args.s.now c.args.name.now c.args.columns.now c.as_slice-options.result.now c.requires c.in_ok-sound_view.ensures

pub returns-clause-sound : goal.returns-clause-sound
returns-clause-sound g c =
    let s = c.args.s.now in
    let options = c.as_slice-options.result.now in
    let stands = tested_stands s c.args.name.now c.args.columns.now options c.requires c.in_ok-sound_view.ensures in
    becomes_holds (view_over_sound s c.args.name.now c.args.columns.now options c.in_ok-query.query c.requires stands c.in_ok-query.ensures.typed) c.view_over.result c.view_over.new.s c.view_over.ensures
