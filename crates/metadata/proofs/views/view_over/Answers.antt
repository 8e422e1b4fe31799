use Rattle.metadata.proofs.SoundViews.{view_well}
use Rattle.metadata.proofs.views.view_over.Goals as goal

pub add_view-requires : goal.add_view-requires
add_view-requires c =
    view_well c.args.s.now c.args.name.now c.args.columns.now c.args.options.now c.args.query c.requires.sound c.requires.stands c.requires.typed c.in_ok-view.view c.in_ok-view.ensures
