-- A sink in memory: what it tells, and which writes fail.
use Rattle.std.specs.Prelude.{◌≡◌, ℕ, true, List, Some, Result, is_err, OnErr}
use Rattle.vdb_base.specs.declared.calls.Failed.{Failed}
use Rattle.vdb_base.specs.declared.calls.Calls.{Calls}
use Rattle.vdb_base.specs.declared.sink.MemSink.{MemSink}
use Rattle.vdb_base.specs.Calls.{is_listed, after_call}
use Rattle.vdb_base.specs.Printing.{SinkTold}

abbrev pub written_of : MemSink → List ℕ
written_of sink = sink.bytes.items

abbrev pub calls_of : MemSink → Calls
calls_of sink = sink.calls

abbrev pub sink_told : MemSink → SinkTold
sink_told sink = record { written = Some (written_of sink); faults = sink.calls.faults }

-- A listed write fails. One that isn't listed fails only where its growth is refused. A failed write appends nothing.
pub record WritesByList (old new : MemSink) (result : Result (Unit {0}) Failed) : Type 0 where
  pub fails : is_listed (calls_of old) ≡ true → is_err result ≡ true
  pub nothing : OnErr result (written_of new ≡ written_of old)
  pub calls : calls_of new ≡ after_call (calls_of old) (is_err result)
