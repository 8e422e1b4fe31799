-- A feed in memory: what it tells, and which reads fail or are cut short.
use Rattle.std.specs.Prelude.{◌≡◌, ℕ, ◌-◌, ◌==◌, min, if◌then◌else◌, List, length, drop, slice_index, Some, Result, is_err, IfOk}
use Rattle.vdb_base.specs.declared.calls.Failed.{Failed}
use Rattle.vdb_base.specs.declared.calls.Calls.{Calls}
use Rattle.vdb_base.specs.declared.feed.MemFeed.{MemFeed}
use Rattle.vdb_base.specs.Calls.{is_listed, after_call}
use Rattle.vdb_base.specs.Counts.{raised}
use Rattle.vdb_base.specs.Feeding.{FeedTold}

-- what its calls go by: the bytes left, the cuts, and the calls made
abbrev pub left_of : MemFeed → List ℕ
left_of feed = drop feed.at feed.bytes

abbrev pub cuts_of : MemFeed → List ℕ
cuts_of feed = feed.cuts

abbrev pub calls_of : MemFeed → Calls
calls_of feed = feed.calls

abbrev pub feed_told : MemFeed → FeedTold
feed_told feed = record { left = Some (left_of feed); faults = feed.calls.faults }

-- the cut of the read with this number, where there is one that isn't 0, of what would else be read
abbrev pub cut_short : List ℕ → ℕ → ℕ → ℕ
cut_short cuts k n = let cut = slice_index cuts (k - 1) in if cut == 0 then n else min n cut

-- The read fails exactly where it is listed. Else it gives as much as there is, as there is room for and as its cut allows.
pub record ReadsByList (old new : MemFeed) (result : Result ℕ Failed) (room : ℕ) : Type 0 where
  pub fails : is_err result ≡ is_listed (calls_of old)
  pub count : IfOk result (λ n. n ≡ cut_short (cuts_of old) (raised (calls_of old).made) (min (length (left_of old)) room))
  pub calls : calls_of new ≡ after_call (calls_of old) (is_err result)
  pub cuts : cuts_of new ≡ cuts_of old
