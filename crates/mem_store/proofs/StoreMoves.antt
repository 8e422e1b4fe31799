-- Steps of a journaled store that leave its log as it is.
use Rattle.std.proofs.Common.{◌≡◌, ℕ, List, [], length, Option, Some, None, IfSome, sym, ap, subst, arith}
use Rattle.std.specs.List.{list_all}
use Rattle.vdb_model.specs.declared.source.Delta.{Delta}
use Rattle.vdb_model.specs.declared.source.Xid.{Xid}
use Rattle.vdb_model.specs.declared.table.TableDef.{TableDef}
use Rattle.vdb_model.specs.Defs.{is_defined}
use Rattle.vdb_model.specs.Rows.{Cells}
use Rattle.gate_log.specs.Disk.{DiskTold}
use Rattle.resource.specs.declared.resource.ResState.{ResState}
use Rattle.resource.specs.declared.resource.ResState.TheVariants as state
use Rattle.mem_store.specs.declared.attached.Attached.{Attached}
use Rattle.mem_store.specs.Attaching.{IsWritten}
use Rattle.mem_store.specs.Standing.{IsBranch, LogBranch, Knows, Works, Stays, IsAttached, IsReserved}

pub if_some_map : {A : Type 0} (o : Option A) (P Q : A → Type 0) → ((x : A) → P x → Q x) → IfSome o P → IfSome o Q
if_some_map None P Q f h = tt
if_some_map (Some x) P Q f h = f x h

-- the log's branch is none in both states
module _ (s t : ResState) (n end : ℕ) (defs : List TableDef) (kept : List (List Cells)) (deltas : List Delta) (now : List ℕ → Type 0) where
  pub knows_on : ((b : _) → LogBranch s defs deltas b → LogBranch t defs deltas b) → (bytes : List ℕ) → Knows s n end defs kept deltas now bytes → Knows t n end defs kept deltas now bytes
  knows_on f bytes k = record {
    payloads = k.payloads;
    r = k.r;
    are = k.are;
    count = k.count;
    leaves = k.leaves;
    kept_is = k.kept_is;
    branch = f k.r.branch k.branch;
    kept_fits = k.kept_fits;
    seen_fits = k.seen_fits;
    is_open = k.is_open;
  }

-- a branch without changes
pub no_changes : (left : ℕ) (a : Attached) → a.deltas.items ≡ [] → IsWritten a → IsBranch left a
no_changes left a none written = record {
  written = written;
  room = λ some. absurd (omega (arith, some, ap length none));
  defined = ap (list_all (λ delta. is_defined a.shelf.defs delta.table)) none;
}

module _ (n end left : ℕ) (reserved : Option (List ℕ)) (t : DiskTold) (now : List ℕ → Type 0) (a : Attached) where
  pub started : (x : Xid) → Works state.Idle n end left reserved a t now → Works (state.Active x) n end left reserved a t now
  started x w = record {
    kept = w.kept;
    has = w.has;
    kept_take = w.kept_take;
    seen_take = w.seen_take;
    branch = (w.branch.0, no_changes left a w.branch.1 w.branch.2);
    knows = if_some_map t.bytes _ _ (knows_on state.Idle (state.Active x) n end a.shelf.defs w.kept a.deltas.items now (λ b h. h)) w.knows;
  }

  pub ended : (x : Xid) → Works (state.Active x) n end left reserved a t now → Works (state.Ended x) n end left reserved a t now
  ended x w = record {
    kept = w.kept;
    has = w.has;
    kept_take = w.kept_take;
    seen_take = w.seen_take;
    branch = (subst (λ (o : Option (List ℕ)). IfSome o (IsReserved left x a)) (sym w.branch.0) tt, w.branch.1);
    knows = if_some_map t.bytes _ _ (knows_on (state.Active x) (state.Ended x) n end a.shelf.defs w.kept a.deltas.items now (λ b h. h)) w.knows;
  }

  pub start_attached : (s : ResState) (x : Xid) → s ≡ state.Idle → IsAttached s n end left reserved t now a → IsAttached (state.Active x) n end left reserved t now a
  start_attached s x idle h = record { apart = h.apart; stays = started x (subst (λ (s : ResState). Stays s n end left reserved a t now) idle h.stays) }

  pub end_attached : (s : ResState) (x : Xid) → s ≡ state.Active x → IsAttached s n end left reserved t now a → IsAttached (state.Ended x) n end left reserved t now a
  end_attached s x active h = record { apart = h.apart; stays = ended x (subst (λ (s : ResState). Stays s n end left reserved a t now) active h.stays) }
