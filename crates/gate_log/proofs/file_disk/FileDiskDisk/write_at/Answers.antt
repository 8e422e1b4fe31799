use Rattle.std.proofs.Common.{length}
use Rattle.gate_log.proofs.Stops.{Torn-same}
use Rattle.gate_log.proofs.file_disk.FileDiskDisk.write_at.Goals as goal

pub returns-clause-stops : goal.returns-clause-stops
returns-clause-stops c = λ bytes any. (bytes, tt, Torn-same c.args.at (length c.args.bytes.now) bytes)
