use Rattle.std.proofs.Common.{◌∙◌, ◌&&◌, ◌||◌, ◌==◌, length, ap}
use Rattle.resource.specs.Fields.{fields_of}
use Rattle.resource.specs.Holding.{Holding, told_held, is_unwritten}
use Rattle.resource.specs.Single.{asks_one_table}
use Rattle.resource.proofs.KeptWell.{well, or_true}
use Rattle.resource.proofs.StopSays.{bare_good}
use Rattle.resource.proofs.mem_resource.MemResource.new.Goals as goal

pub returns-clause-told : goal.returns-clause-told
returns-clause-told c = ap told_held c.new.ensures

pub returns-clause-calls : goal.returns-clause-calls
returns-clause-calls c = ap (λ (h : Holding). h.calls) c.new.ensures

pub invariant_of-result : goal.invariant_of-result
invariant_of-result c =
    let h = fields_of c.new.result in
    record {
      kept_well = well h (bare_good h (ap (λ (h : Holding). h.defs) c.new.ensures) (ap (λ (h : Holding). asks_one_table h.caps) c.new.ensures ∙ c.requires)
          (ap (λ (h : Holding). h.caps.writes || (is_unwritten h.mode && length h.deltas == 0)) c.new.ensures ∙ or_true c.args.caps.writes));
    }
