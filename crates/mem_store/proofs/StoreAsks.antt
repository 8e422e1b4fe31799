-- A query of a journaled store.
use Rattle.std.proofs.Common.{◌≡◌, ℕ, ◌+◌, ◌-◌, true, false, List, [], ◌∷◌, Option, Some, None, IfSome, refl, sym, subst, rules, length}
use Rattle.std.proofs.lemmas.List.Sorted.{IsPermutation-trans}
use Rattle.std.specs.List.Sorted.{IsSorted}
use Rattle.std.specs.Option.{unwrap_or}
use Rattle.std.specs.Prelude.{option_map, IsPermutation}
use Rattle.vdb_model.specs.declared.source.SourceQuery.{SourceQuery}
use Rattle.vdb_model.specs.declared.table.TableDef.{TableDef}
use Rattle.vdb_model.specs.Answers.{AnsweredBy, Answered, asked_bag, placed}
use Rattle.vdb_model.specs.Arranged.{Arranged}
use Rattle.vdb_model.specs.Deltas.{after_deltas}
use Rattle.vdb_model.specs.Keys.{keys_cmp}
use Rattle.vdb_model.specs.Rows.{Cells}
use Rattle.vdb_model.specs.World.{table_rows}
use Rattle.gate_log.specs.Disk.{DiskTold}
use Rattle.resource.specs.declared.resource.ResState.{ResState}
use Rattle.resource.specs.declared.resource.ResState.TheVariants as state
use Rattle.resource.specs.Asks.{Allows, FitRows, AnswersQuery, all_rows_fit, answer_types}
use Rattle.resource.specs.Checked.{passing_cut}
use Rattle.resource.specs.Told.{is_open, is_lost, seen}
use Rattle.resource.proofs.SingleAnswer.{answered}
use Rattle.resource.proofs.SingleQuery.{SingleQuery, single_query}
use Rattle.store_tables.specs.Counting.{SameBag}
use Rattle.store_tables.proofs.Listed.{rearranged}
use Rattle.mem_store.specs.declared.attached.Attached.{Attached}
use Rattle.mem_store.specs.declared.inner.Inner.{Inner}
use Rattle.mem_store.specs.Attaching.{AttachedHas}
use Rattle.mem_store.specs.Standing.{Knows, Works, Stays, IsAttached, Standing}
use Rattle.mem_store.specs.Store.{store_caps, kept_by, contents_in, store_told, seen_of, deltas_of}
use Rattle.mem_store.proofs.Fitting.{answer_fits}
use Rattle.mem_store.proofs.StoreLog.{knows_kept}

pub at_some : {A : Type 0} (o : Option A) (x : A) (P : A → Type 0) → o ≡ Some x → IfSome o P → P x
at_some None x P e h = cc
at_some (Some y) x P e h = let same : y ≡ x = cc in subst P same h

pub works : (s : ResState) (n end left : ℕ) (reserved : Option (List ℕ)) (a : Attached) (t : DiskTold) (now : List ℕ → Type 0) → is_lost s ≡ false → Stays s n end left reserved a t now → Works s n end left reserved a t now
works state.Idle n end left reserved a t now here h = h
works (state.Active x) n end left reserved a t now here h = h
works (state.Ended x) n end left reserved a t now here h = h
works (state.Prepared x) n end left reserved a t now here h = h
works state.Lost n end left reserved a t now here h = cc

open_here : (s : ResState) → is_open s ≡ true → is_lost s ≡ false
open_here state.Idle h = refl
open_here (state.Active x) h = refl
open_here (state.Ended x) h = refl
open_here (state.Prepared x) h = refl
open_here state.Lost h = cc

tied : (rows : List Cells) → IsSorted (keys_cmp []) rows
tied rows = search rules

-- rows that stand as often as those that pass are an answer
answered_like : (defs : List TableDef) (work : List (List Cells)) (q : SourceQuery) (p : SingleQuery q) (rows : List Cells) → SameBag rows (passing_cut q.filter q.columns (table_rows defs work p.table)) → Answered defs work q rows
answered_like defs work q p rows same =
    let out = passing_cut q.filter q.columns (table_rows defs work p.table) in
    let bag = asked_bag defs work q in
    let exact : Arranged (placed q.columns q.order) 0 q.limit bag out = subst (λ b. AnsweredBy b defs work q out) p.count (answered defs work q p) in
    let keyed : Arranged (placed q.columns []) 0 q.limit bag out = subst (λ keys. Arranged (placed q.columns keys) 0 q.limit bag out) p.order exact in
    let whole : Arranged (placed q.columns []) 0 None bag out = subst (λ (l : Option ℕ). Arranged (placed q.columns []) 0 l bag out) p.limit keyed in
    let first : IsPermutation bag out = subst (IsPermutation bag) (sym whole.cut) whole.same in
    let moved : IsPermutation bag rows = IsPermutation-trans bag out rows first (rearranged out rows (λ r. sym (same r))) in
    subst (λ b. AnsweredBy b defs work q rows) (sym p.count) (
    subst (λ keys. Arranged (placed q.columns keys) 0 q.limit bag rows) (sym p.order) (
    subst (λ (l : Option ℕ). Arranged (placed q.columns []) 0 l bag rows) (sym p.limit) (
    record { sorted = rows; same = moved; in_order = tied rows; cut = refl })))

module _ {D : Type 0} (told : D → DiskTold) (images : D → List ℕ → Type 0) (s : Inner D) (stands : Standing told images s) (q : SourceQuery) (may : Allows (store_told told (seen_of s)) q) (a : Attached) (is : s.attached ≡ Some a) (rows : List Cells)
    (made : (number : ℕ) → (more : List ℕ) → q.tables ≡ number ∷ more → (kept : List (List Cells)) → AttachedHas kept a → SameBag rows (passing_cut q.filter q.columns (table_rows a.shelf.defs (after_deltas a.shelf.defs kept a.deltas.items) number))) where
  p : SingleQuery q
  p = single_query store_caps may.defs q refl may.within

  here : IsAttached s.state s.records s.log.end (268435456 - (s.log.end + 1)) (option_map (λ frame. frame.items) s.reserved) (told s.log.disk) (images s.log.disk) a
  here = at_some s.attached a (IsAttached s.state s.records s.log.end (268435456 - (s.log.end + 1)) (option_map (λ frame. frame.items) s.reserved) (told s.log.disk) (images s.log.disk)) is stands.attached

  w : Works s.state s.records s.log.end (268435456 - (s.log.end + 1)) (option_map (λ frame. frame.items) s.reserved) a (told s.log.disk) (images s.log.disk)
  w = works s.state s.records s.log.end (268435456 - (s.log.end + 1)) (option_map (λ frame. frame.items) s.reserved) a (told s.log.disk) (images s.log.disk) (open_here s.state may.may_ask) here.stays

  abbrev defs : List TableDef
  defs = a.shelf.defs

  abbrev now : List (List Cells)
  now = after_deltas defs w.kept a.deltas.items

  same : SameBag rows (passing_cut q.filter q.columns (table_rows defs now p.table))
  same = made p.table [] p.tables w.kept w.has

  pub query_fits : FitRows (store_told told (seen_of s)) q rows
  query_fits = record {
    cells = subst (λ (o : Option Attached). IfSome (option_map (λ b. b.shelf.defs) o) (λ ds. all_rows_fit (answer_types q.count ds q) rows ≡ true)) (sym is) (answer_fits defs now q p rows same w.seen_take);
    one = λ count. one_of p.count count;
  }
    where
      one_of : q.count ≡ false → q.count ≡ true → length rows ≡ 1
      one_of e f = cc

  by_bytes : (o : Option (List ℕ)) → IfSome o (Knows s.state s.records s.log.end defs w.kept a.deltas.items (images s.log.disk)) → IfSome (option_map (seen defs) (option_map (contents_in s.records (Some defs) a.deltas.items) o)) (λ tables. Answered defs tables q rows)
  by_bytes None k = tt
  by_bytes (Some bytes) k =
      let kept_is : kept_by s.records bytes defs ≡ w.kept = knows_kept s.state s.records s.log.end defs w.kept a.deltas.items (images s.log.disk) bytes k in
      subst (λ (tables : List (List Cells)). Answered defs (after_deltas defs tables a.deltas.items) q rows) (sym kept_is) (answered_like defs now q p rows same)

  pub query_answers : AnswersQuery (store_told told (seen_of s)) q rows
  query_answers =
      subst (λ (o : Option Attached). IfSome (option_map (λ b. b.shelf.defs) o) (λ ds. IfSome (option_map (seen (unwrap_or (option_map (λ b. b.shelf.defs) o) [])) (option_map (contents_in s.records (option_map (λ b. b.shelf.defs) o) (deltas_of o)) (told s.log.disk).bytes)) (λ tables. Answered ds tables q rows)))
      (sym is) (by_bytes (told s.log.disk).bytes w.knows)
