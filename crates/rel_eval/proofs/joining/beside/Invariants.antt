use Rattle.std.proofs.Common.{◌≡◌, ◌++◌, take}
use Rattle.rel_eval.proofs.joining.beside.Given as goal

abbrev pub invariant-loop-v : goal.invariant-loop-v
invariant-loop-v l = l.row.items ≡ take l.v-index l.v-items

abbrev pub invariant-loop-v-2 : goal.invariant-loop-v-2
invariant-loop-v-2 l = l.row.items ≡ l.left ++ take l.v-index l.v-items
