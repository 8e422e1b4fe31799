use Rattle.std.proofs.Common.{◌≡◌, ℕ, subst, sym}
use Rattle.std.proofs.Math.ListN.{get_or-eq_default}
use Rattle.std.specs.Prelude.{slice_index_or}
use Rattle.vdb_ddl.specs.Actions.{actions}
use Rattle.vdb_ddl.specs.declared.build.Action.TheVariants.{Nothing}
use Rattle.vdb_ddl.proofs.build.action_of.Goals as goal

pub returns-else-at-lt18 : goal.returns-else-at-lt18
returns-else-at-lt18 c = subst (λ (n : ℕ). Nothing ≡ slice_index_or actions n Nothing) c.saturating_sub-at.ensures (sym (get_or-eq_default actions Nothing c.if-at-lt18.false))
