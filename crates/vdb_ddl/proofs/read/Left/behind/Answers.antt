use Rattle.std.proofs.Common.{◌∙◌, ap, sym}
use Rattle.sql_reader.specs.Trees.{kinds}
use Rattle.vdb_ddl.proofs.Turns.{kinds_after}
use Rattle.vdb_ddl.proofs.read.Left.behind.Goals as goal

pub invariant_of-result : goal.invariant_of-result
invariant_of-result c = kinds_after _ _ _ _ _ _ (ap (λ i. i.kinds.now) c.self-inside.view_is ∙ c.self.invariant ∙ sym (ap (λ i. kinds i.source) c.self-inside.view_is)) c.behind.ensures c.behind-2.ensures
