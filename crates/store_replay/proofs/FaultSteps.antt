-- What the records taken as lists say of tables that aren't in order.
use Rattle.std.proofs.Common.{◌≡◌, ℕ, List, Option, Some, Result, Ok, Err, sym, ap, subst, ◌∙◌}
use Rattle.gate_log.specs.Disk.{DiskTold}
use Rattle.resource.specs.Checked.{IsCheckAnswer, stored_fault}
use Rattle.resource.specs.Reading.{Reading}
use Rattle.resource.specs.declared.resource.AttachFault.{AttachFault}
use Rattle.resource.specs.declared.resource.AttachFault.TheVariants.{BadCell, BadStore, Failed, Memory}
use Rattle.vdb_model.specs.declared.table.TableDef.{TableDef}
use Rattle.store_records.specs.Fields.{◌>>=◌}
use Rattle.store_replay.specs.Listing.{ListingHas, stored_left}
use Rattle.store_replay.specs.Replay.{Replayed, nothing, replay}
use Rattle.store_replay.specs.Walking.{all_of, TakesAll}
use Rattle.store_replay.specs.OpeningStore.{Names, NamesFault, Looks}
use Rattle.store_replay.specs.declared.lists.Listing.{Listing}

-- what the check of a log's tables answers
abbrev pub Checked : List TableDef → Listing → Result (Unit {0}) AttachFault → Type 0
Checked defs listing result = (r : Replayed) → ListingHas r listing → IsCheckAnswer (stored_fault defs r.tables (stored_left r)) result

named : (found : Option Reading) (fault : AttachFault) → IsCheckAnswer found (Err fault) → Names found fault
named found (BadCell t r c) h = h
named found (BadStore t) h = h
named found Failed h = absurd h
named found Memory h = tt

module _ (defs : List TableDef) (bytes : List ℕ) (count : ℕ) (listing : Listing) (taken : TakesAll ListingHas count listing bytes) where
  same_left : (r : Replayed) → all_of bytes ≡ Some r → taken.r ≡ r
  same_left r is =
      let all : all_of bytes ≡ Some taken.r = ap (λ (o : Option (List (List ℕ))). o >>= λ payloads. replay payloads nothing) taken.are ∙ taken.leaves in
      let both : Some taken.r ≡ Some r = sym all ∙ is in
      cc

  answered : (result : Result (Unit {0}) AttachFault) → Checked defs listing result → (r : Replayed) → all_of bytes ≡ Some r → IsCheckAnswer (stored_fault defs r.tables (stored_left r)) result
  answered result checked r is = subst (λ (s : Replayed). IsCheckAnswer (stored_fault defs s.tables (stored_left s)) result) (same_left r is) (checked taken.r taken.held)

  pub named_checked : (fault : AttachFault) → Checked defs listing (Err fault) → NamesFault defs fault bytes
  named_checked fault checked = λ r is faulty. named (stored_fault defs r.tables (stored_left r)) fault (answered (Err fault) checked r is)

  pub named_none : (fault : AttachFault) → Checked defs listing (Ok tt) → NamesFault defs fault bytes
  named_none fault checked = λ r is faulty. absurd (faulty (answered (Ok tt) checked r is))

-- the disk isn't asked, so it doesn't fail
pub looks_checked : (defs : List TableDef) (listing : Listing) (old new : DiskTold) (some : (r : Replayed) × ListingHas r listing) (fault : AttachFault) → Checked defs listing (Err fault) → new ≡ old → Looks old new fault
looks_checked defs listing old new some (BadCell t r c) checked same = same
looks_checked defs listing old new some (BadStore t) checked same = same
looks_checked defs listing old new some Failed checked same = absurd (checked some.0 some.1)
looks_checked defs listing old new some Memory checked same = same
