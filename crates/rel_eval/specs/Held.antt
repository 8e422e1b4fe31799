-- A value that was lent or made.
use Rattle.vdb_base.specs.declared.value.Value.{Value}
use Rattle.rel_eval.specs.declared.value.Held.{Held}
use Rattle.rel_eval.specs.declared.value.Held.TheVariants.{Lent, Made}

abbrev pub held : Held → Value
held (Lent v) = v.now
held (Made v) = v
