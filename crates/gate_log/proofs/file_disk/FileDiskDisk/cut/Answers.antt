use Rattle.gate_log.proofs.Stops.{CutBack-same}
use Rattle.gate_log.proofs.file_disk.FileDiskDisk.cut.Goals as goal

pub returns-clause-stops : goal.returns-clause-stops
returns-clause-stops c = λ bytes any. (bytes, tt, CutBack-same c.args.len bytes)
