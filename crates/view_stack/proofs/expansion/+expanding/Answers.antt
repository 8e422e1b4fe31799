use Rattle.std.proofs.Common.{arith, rules}
use Rattle.vdb_model.specs.declared.rel.Rel.TheVariants.{View}
use Rattle.view_stack.proofs.ViewAt.{at_view, no_view}
use Rattle.view_stack.proofs.Falls.{view_falls}
use Rattle.view_stack.proofs.expansion.+expanding.Goals as goal

pub expanded_view-expanded_rel-requires : goal.expanded_view-expanded_rel-requires
expanded_view-expanded_rel-requires t c =
    let g = c.in-Some.ensures.lookup in
    let h = view_falls c.args.views.now c.args.at c.in-Some.view.now g.3.0 g.1 in
    search (rules, h)

pub expanded_view-returns-in-Some : goal.expanded_view-returns-in-Some
expanded_view-returns-in-Some t c =
    let g = c.in-Some.ensures.lookup in
    let h = at_view c.args.views.now c.args.at c.in-Some.view.now (View c.args.at) g.3.0 g.1 in
    rw h c.expanded_rel.ensures

pub expanded_view-returns-in-None : goal.expanded_view-returns-in-None
expanded_view-returns-in-None t c =
    let h = no_view c.args.views.now c.args.at (View c.args.at) (omega (arith, c.in-None.ensures)) in
    cc
