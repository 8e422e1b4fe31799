-- A store over a file may be sent to a thread.
use denote.Param.Send.{IsSend, sendable}
use Rattle.std.proofs.Crossing.{crosses}
use Rattle.gate_log.specs.contracts.file_disk.FileDisk as FileDisk

pub file_send : IsSend FileDisk.the_row
file_send = search (sendable, crosses) depth 60 fits 20000
