use Rattle.std.proofs.Common.{◌≡◌, drop}
use Rattle.std.specs.List.{list_any}
use Rattle.metadata.specs.SoFar.{is_view}
use Rattle.metadata.proofs.so_far.has_view.Given as goal

abbrev pub invariant-loop-view : goal.invariant-loop-view
invariant-loop-view l = list_any (is_view l.schema l.name) (drop l.view-index l.views) ≡ list_any (is_view l.schema l.name) l.views
