-- What a walk answers: what is defined, or that memory was wanting.
use Rattle.std.specs.Prelude.{◌≡◌, Bool, true, false, List, Result, Ok, Err}
use Rattle.vdb_model.specs.declared.rel.Agg.{Agg}
use Rattle.vdb_model.specs.declared.reply.Refusal.{Refusal}
use Rattle.vdb_model.specs.declared.reply.Refusal.TheVariants.{Syntax}
use Rattle.expr_resolver.specs.declared.fault.ResolveFault.{ResolveFault}
use Rattle.expr_resolver.specs.declared.fault.ResolveFault.TheVariants.{Refused, Memory}

abbrev pub is_memory : ResolveFault → Bool
is_memory (Refused refusal) = false
is_memory Memory = true

-- the refusal of a fault that isn't want of memory
abbrev pub refusal_of : ResolveFault → Refusal
refusal_of (Refused refusal) = refusal
refusal_of Memory = Syntax 0

-- The result or the refusal is the walk's, where memory wasn't wanting.
abbrev pub Resolves : {A : Type 0} → Result A Refusal → Result A ResolveFault → Type 0
Resolves walk (Ok x) = walk ≡ Ok x
Resolves walk (Err fault) = is_memory fault ≡ false → walk ≡ Err (refusal_of fault)

-- And the aggregates are those that were met by its end.
abbrev pub Meets : {A : Type 0} → Result (A × List Agg) Refusal → Result A ResolveFault → List Agg → Type 0
Meets walk (Ok x) aggs = walk ≡ Ok (x, aggs)
Meets walk (Err fault) aggs = is_memory fault ≡ false → walk ≡ Err (refusal_of fault)
