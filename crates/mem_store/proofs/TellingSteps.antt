-- What is told of a journaled store, by the records of its log.
use Rattle.std.proofs.Common.{◌≡◌, ℕ, ◌+◌, Bool, List, take, Option, Some, None, option_map, IfSome, refl, ap, ◌∙◌, arith}
use Rattle.std.specs.Prelude.{is_some}
use Rattle.vdb_base.specs.Counts.{Rose}
use Rattle.vdb_model.specs.declared.source.Delta.{Delta}
use Rattle.vdb_model.specs.declared.source.SourceQuery.{SourceQuery}
use Rattle.vdb_model.specs.declared.table.TableDef.{TableDef}
use Rattle.vdb_model.specs.Rows.{Cells}
use Rattle.gate_log.specs.Records.{records}
use Rattle.gate_log.specs.Opening.{KeepsRecords}
use Rattle.resource.specs.declared.resource.ResState.{ResState}
use Rattle.resource.specs.Images.{Image, Fewer}
use Rattle.resource.specs.Reading.{Reading}
use Rattle.resource.specs.Told.{Told, Contents}
use Rattle.store_records.specs.Fields.{◌>>=◌}
use Rattle.store_replay.specs.Replay.{nothing, replay, read_bytes}
use Rattle.mem_store.specs.Store.{store_caps, tables_left, kept_by, contents_in, images_read}
use Rattle.mem_store.proofs.MoreRecords.{reads_same}

-- ---- bytes with the same records

pub some_same : {A : Type 0} (x y : A) → Some x ≡ Some y → x ≡ y
some_same x y e = cc

pub tells_as : {A : Type 0} (f : List ℕ → A) (b0 b1 : Option (List ℕ)) → option_map f b1 ≡ option_map f b0 → is_some b1 ≡ is_some b0
tells_as f None None e = refl
tells_as f None (Some y) e = cc
tells_as f (Some x) None e = cc
tells_as f (Some x) (Some y) e = refl

pub same_reads : (b0 b1 : Option (List ℕ)) → option_map records b1 ≡ option_map records b0 → option_map read_bytes b1 ≡ option_map read_bytes b0
same_reads None None e = refl
same_reads None (Some y) e = cc
same_reads (Some x) None e = cc
same_reads (Some x) (Some y) e = ap Some (reads_same y x (some_same (records y) (records x) e))

same_contents : (n : ℕ) (defs : Option (List TableDef)) (deltas : List Delta) (x y : List ℕ) → kept_by n y ≡ kept_by n x → contents_in n defs deltas y ≡ contents_in n defs deltas x
same_contents n None deltas x y e = refl
same_contents n (Some defs) deltas x y e = ap (λ (kept : List TableDef → List (List Cells)). record { kept = kept defs; deltas = deltas }) e

pub contents_by_records : (n : ℕ) (defs : Option (List TableDef)) (deltas : List Delta) (b0 b1 : Option (List ℕ)) → option_map records b1 ≡ option_map records b0
    → option_map (contents_in n defs deltas) b1 ≡ option_map (contents_in n defs deltas) b0
contents_by_records n defs deltas None None e = refl
contents_by_records n defs deltas None (Some y) e = cc
contents_by_records n defs deltas (Some x) None e = cc
contents_by_records n defs deltas (Some x) (Some y) e =
    ap Some (same_contents n defs deltas x y (ap (λ (o : Option (List (List ℕ))). λ (ds : List TableDef). tables_left (o >>= λ payloads. replay (take n payloads) nothing) ds) (some_same (records y) (records x) e)))

-- no more images than before
pub fewer : (b0 b1 : Option (List ℕ)) (i0 i1 : List ℕ → Type 0) → is_some b1 ≡ is_some b0 → IfSome b0 (λ bytes. KeepsRecords i0 i1) → IfSome b1 i1 → Fewer (images_read b0 i0) (images_read b1 i1)
fewer None None i0 i1 e keeps stands = record { within = λ i h. tt; some = λ i h. (i, tt) }
fewer None (Some y) i0 i1 e keeps stands = cc
fewer (Some x) None i0 i1 e keeps stands = cc
fewer (Some x) (Some y) i0 i1 e keeps stands = record { within = within; some = λ i h. (read_bytes y, (y, stands, refl)) }
  where
    within : (i : Image) → images_read (Some y) i1 i → images_read (Some x) i0 i
    within i h =
        let k = keeps h.0 h.1 in
        (k.0, k.1, h.2 ∙ reads_same h.0 k.0 k.2)

-- ---- what is told, by the parts that a reading moves

abbrev pub telling : ResState → Bool → Option (List TableDef) → ℕ → ℕ → ℕ → ℕ → List Delta → List SourceQuery → Option (List ℕ) → Told
telling s reserved defs faults own spare n deltas asked bytes = record {
  caps = store_caps;
  state = s;
  reserved = reserved;
  defs = defs;
  faults = faults + own;
  spare = Some spare;
  reads = option_map read_bytes bytes;
  contents = option_map (contents_in n defs deltas) bytes;
  asked = Some asked;
}

-- equal parts, equal telling
pub tells : (t : Told) (d0 d1 : Option (List TableDef)) (f0 f1 : ℕ) (r0 r1 : Option (List TableDef → Reading)) (c0 c1 : Option Contents) → d0 ≡ d1 → f0 ≡ f1 → r0 ≡ r1 → c0 ≡ c1
    → record t { defs = d0; faults = f0; reads = r0; contents = c0 } ≡ record t { defs = d1; faults = f1; reads = r1; contents = c1 }
tells t d0 d1 f0 f1 r0 r1 c0 c1 d f r c =
    ap (λ x. record t { defs = x; faults = f0; reads = r0; contents = c0 }) d
    ∙ ap (λ x. record t { defs = d1; faults = x; reads = r0; contents = c0 }) f
    ∙ ap (λ x. record t { defs = d1; faults = f1; reads = x; contents = c0 }) r
    ∙ ap (λ x. record t { defs = d1; faults = f1; reads = r1; contents = x }) c

-- a count that rose, beside another
pub rose_beside : (f0 f1 own : ℕ) → Rose f0 f1 → Rose (f0 + own) (f1 + own)
rose_beside f0 f1 own h = let later = h.later in let risen = h.risen in record { later = omega arith; risen = omega arith }
