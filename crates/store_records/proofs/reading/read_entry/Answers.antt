use Rattle.std.proofs.Common.{ap, subst, ◌∙◌, arith}
use Rattle.store_records.specs.Reading.{Gives, entry_of}
use Rattle.store_records.proofs.Entries.{entry_again, entry_found}
use Rattle.store_records.proofs.reading.read_entry.Goals as goal

pub returns-clause-found : goal.returns-clause-found
returns-clause-found c = entry_found c.args.bytes.now c.entry_of.result (λ i. omega (arith, c.type_inv.bytes i)) c.entry_of.ensures

pub returns-clause-only : goal.returns-clause-only
returns-clause-only c = λ entry is. subst (λ f. Gives (λ e. e) c.entry_of.result f) (ap entry_of is.is ∙ entry_again entry is.has) c.entry_of.ensures
