use Rattle.std.proofs.Common.{◌≡◌, ℕ, subst, sym}
use Rattle.std.proofs.Math.ListN.{get_or-eq_default}
use Rattle.std.specs.Prelude.{slice_index_or}
use Rattle.sql_reader.specs.Actions.{actions}
use Rattle.sql_reader.specs.declared.build.Action.TheVariants.{Nothing}
use Rattle.sql_reader.proofs.build.action_of.Goals as goal

pub returns-else-at-lt90 : goal.returns-else-at-lt90
returns-else-at-lt90 c = subst (λ (n : ℕ). Nothing ≡ slice_index_or actions n Nothing) c.saturating_sub-at.ensures (sym (get_or-eq_default actions Nothing c.if-at-lt90.false))
