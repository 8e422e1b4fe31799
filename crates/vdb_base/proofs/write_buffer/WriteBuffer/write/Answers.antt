use Rattle.vdb_base.proofs.Writing.{Buffers-through}
use Rattle.vdb_base.proofs.write_buffer.WriteBuffer.write.Goals as goal

pub returns-else-piece-le-BUFFER_SIZE : goal.returns-else-piece-le-BUFFER_SIZE
returns-else-piece-le-BUFFER_SIZE g c = Buffers-through _ _ _ _ _ _ _ c.flush.ensures.empty c.in-Ok.ensures.prints c.write.ensures.prints
