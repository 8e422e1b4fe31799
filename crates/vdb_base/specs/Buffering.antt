-- Writing through a buffer: some of what was handed in waits there.
use Rattle.std.specs.Prelude.{◌≡◌, ℕ, ◌-◌, ◌≤◌, Bool, true, false, List, ◌++◌, length, take, drop}
use Rattle.vdb_base.specs.Counts.{Rose}
use Rattle.vdb_base.specs.Printing.{SinkTold, appended, GrowsBySome}
use Rattle.vdb_base.specs.declared.write_buffer.WriteBuffer.{WriteBuffer}

-- the bytes that wait
abbrev pub waiting : WriteBuffer → List ℕ
waiting buffer = take buffer.used buffer.bytes

-- how many more there is room for
abbrev pub room_of : WriteBuffer → ℕ
room_of buffer = 8192 - buffer.used

-- the first of these bytes were written, and the others wait
pub record HandsOver (old new : SinkTold) (bytes after : List ℕ) : Type 0 where
  pub count : ℕ
  pub within : count ≤ length bytes
  pub written : new.written ≡ appended old.written (take count bytes)
  pub waits : after ≡ drop count bytes
  pub faults : new.faults ≡ old.faults

-- what waited and then the text was handed over as far as there was need, or the count of faults rose and the first of it was written
abbrev pub Buffers : Bool → SinkTold → SinkTold → List ℕ → List ℕ → List ℕ → Type 0
Buffers true old new before after text = HandsOver old new (before ++ text) after
Buffers false old new before after text = GrowsBySome old.written new.written (before ++ text) × Rose old.faults new.faults
