-- The form of a branch's identifier that X/Open XA defines, as vdb fills it in.
use Rattle.std.specs.Prelude.{ℕ, ◌-◌, List, ◌++◌, length, replicate}
use Rattle.std.specs.Int.{w64, to_be_bytes}
use Rattle.vdb_model.specs.declared.source.Xid.{Xid}

-- `VDB1`, in bytes with the highest first
abbrev pub xa_format : ℕ
xa_format = 1447313969

-- the part that all branches of a transaction share: the epoch and the number, in 8 bytes each with the highest first
abbrev pub global_part : Xid → List ℕ
global_part x = to_be_bytes w64 x.epoch ++ to_be_bytes w64 x.seq

-- both parts, and zeros up to 128 bytes
abbrev pub xa_data : Xid → List ℕ → List ℕ
xa_data x server = (global_part x ++ server) ++ replicate (112 - length server) 0
