-- A journaled store may be sent to a thread where its disk may. Its parts in turn, since one search runs out of steps.
use denote.Param.Send.{IsSend, sendable}
use denote.RattleType.{RattleType}
use Rattle.std.proofs.Crossing.{crosses}
use Rattle.std.proofs.MapsCrossing as maps
use Rattle.vdb_base.specs.contracts.seq.Seq as Seq
use Rattle.vdb_base.specs.contracts.value.Value as Value
use Rattle.vdb_model.proofs.expr.Expr.TheLaws.TheKnot as expr
use Rattle.vdb_model.specs.contracts.source.SourceQuery as SourceQuery
use Rattle.vdb_model.specs.contracts.table.TableDef as TableDef
use Rattle.gate_log.specs.contracts.log.Log as Log
use Rattle.resource.specs.contracts.resource.ResState as ResState
use Rattle.store_tables.specs.contracts.shelf.Shelf as Shelf
use Rattle.mem_store.specs.contracts.attached.Attached as Attached
use Rattle.mem_store.specs.contracts.inner.Inner as Inner
use Rattle.mem_store.specs.contracts.store.MemStore as MemStore
use Rattle.gate_log.specs.declared.disk.Disk.{Ghosts}

value_send : IsSend Value.the_field.row
value_send = search (sendable, crosses) depth 40

row_send : IsSend (Seq.the_field Value.the_row).row
row_send = search (sendable, value_send, crosses) depth 40

def_send : IsSend TableDef.the_field.row
def_send = search (sendable, crosses) depth 40

shelf_send : IsSend Shelf.the_field.row
shelf_send = search (sendable, def_send, row_send, crosses, maps.crosses) depth 80 fits 20000

attached_send : IsSend Attached.the_field.row
attached_send = search (sendable, shelf_send, crosses) depth 80 fits 20000

state_send : IsSend ResState.the_field.row
state_send = search (sendable, crosses) depth 40

query_send : IsSend SourceQuery.the_field.row
query_send = search (crosses, expr.crosses, sendable) depth 60 fits 20000

log_send : (D : RattleType) → IsSend D → IsSend (Log.the_field D).row
log_send D s = search (sendable, crosses) depth 80 fits 20000

inner_send : (D : RattleType) → IsSend D → IsSend (Inner.the_field D).row
inner_send D s = let log = log_send D s in search (sendable, attached_send, state_send, query_send, crosses) depth 80 fits 20000

pub store_send : (D : RattleType) (g : Ghosts D.Denot) → IsSend D → IsSend (MemStore.the_row D g)
store_send D g s = let inner = inner_send D s in search sendable depth 20
