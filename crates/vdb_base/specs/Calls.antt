-- The calls of an object in memory, some of which fail by their numbers.
use Rattle.std.specs.Prelude.{ℕ, Bool, ◌==◌, if◌then◌else◌, List}
use Rattle.std.specs.List.{list_any}
use Rattle.vdb_base.specs.declared.calls.Calls.{Calls}
use Rattle.vdb_base.specs.Counts.{raised}

-- the next call is listed as one that fails
abbrev pub is_listed : Calls → Bool
is_listed calls = list_any (λ k. k == raised calls.made) calls.fails

-- after one more call, which failed or not
abbrev pub after_call : Calls → Bool → Calls
after_call calls failed = record { fails = calls.fails; made = raised calls.made; faults = if failed then raised calls.faults else calls.faults }

-- before the first call
abbrev pub uncalled : List ℕ → Calls
uncalled fails = record { fails = fails; made = 0; faults = 0 }
