use denote.Param.Send.{IsSend, sendable}
use Rattle.std.proofs.Crossing.{crosses}
use Rattle.gate_log.specs.contracts.mem_disk.MemDisk as MemDisk
use Rattle.mem_store.proofs.Sent.{store_send}
use Rattle.mem_store.proofs.tests.journaled.Goals as goal

disk_send : IsSend MemDisk.the_row
disk_send = search (sendable, crosses) depth 60 fits 20000

pub attach-requires-send-R : goal.attach-requires-send-R
attach-requires-send-R c κs = search (sendable, store_send, disk_send) depth 20

pub said-requires-send-R : goal.said-requires-send-R
said-requires-send-R c κs = search (sendable, store_send, disk_send) depth 20
