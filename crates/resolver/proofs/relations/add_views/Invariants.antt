use Rattle.std.proofs.Common.{◌≡◌, ◌++◌, drop}
use Rattle.resolver.specs.Relations.{views_named}
use Rattle.resolver.proofs.relations.add_views.Given as goal

abbrev pub invariant-loop-d : goal.invariant-loop-d
invariant-loop-d l = l.found.items ++ views_named l.number l.r (drop l.d-index l.views) ≡ l.initial.found.items ++ views_named 0 l.r l.views
