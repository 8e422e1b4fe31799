use denote.Param.Send.{sendable}
use Rattle.mem_store.proofs.Sent.{store_send}
use Rattle.bench_work.proofs.Sent.{file_send}
use Rattle.bench_work.proofs.stores.held.Goals as goal

pub attach-requires-send-R : goal.attach-requires-send-R
attach-requires-send-R c κs = search (sendable, store_send, file_send) depth 20

pub counted-requires-send-R : goal.counted-requires-send-R
counted-requires-send-R c κs = search (sendable, store_send, file_send) depth 20
