-- The frame of a branch, and its size.
use Rattle.std.proofs.Common.{◌≡◌, ℕ, ◌+◌, ◌<◌, ◌≤◌, ◌^◌, Bool, true, ltb, ◌&&◌, List, [], ◌∷◌, ◌++◌, length, refl, sym, ap, ◌∙◌, append_assoc, length-append, arith}
use Rattle.std.specs.Int.{w32, w64, to_be_bytes}
use Rattle.std.specs.List.{flat_map, list_all}
use Rattle.std.proofs.lemmas.Bool.{and_from, and_parts, lt-ltb}
use Rattle.std.proofs.lemmas.List.{append-nil}
use Rattle.std.proofs.lemmas.List.Concat.{flat_map-append}
use Rattle.vdb_model.specs.declared.source.Xid.{Xid}
use Rattle.resource.specs.declared.stored.StoredDelta.{StoredDelta}
use Rattle.store_records.specs.declared.branch.Branch.{Branch}
use Rattle.store_records.specs.declared.branch.Form.{Form}
use Rattle.store_records.specs.declared.branch.Form.TheVariants as form
use Rattle.store_records.specs.Fields.{counted}
use Rattle.store_records.specs.Branches.{Holds}
use Rattle.store_records.specs.Encoding.{Encodes}
use Rattle.store_records.specs.Framing.{Frames, head, kind_in, record_of, framed, branch_size}
use Rattle.store_records.specs.Payloads.{delta_bytes, xid_bytes, payload, has_payload, has_xid, has_deltas, has_delta}

payload_is : (f : Form) (x : Xid) (deltas : List StoredDelta) → payload (record_of f x deltas) ≡ kind_in f ∷ (xid_bytes x ++ counted w32 delta_bytes deltas)
payload_is form.Prepared x deltas = refl
payload_is form.OnePhase x deltas = refl

has_is : (f : Form) (x : Xid) (deltas : List StoredDelta) → has_payload (record_of f x deltas) ≡ (has_xid x && has_deltas deltas)
has_is form.Prepared x deltas = refl
has_is form.OnePhase x deltas = refl

length-payload : (f : Form) (x : Xid) (deltas : List StoredDelta) → length (payload (record_of f x deltas)) ≡ 21 + length (flat_map delta_bytes deltas)
length-payload f x deltas = omega (arith, ap length (payload_is f x deltas))

length-framed : (bytes : List ℕ) → length (framed bytes) ≡ length bytes + 5
length-framed bytes = omega (arith, length-append (to_be_bytes w32 (length bytes) ++ bytes) (0 ∷ []))

pub branch_size_is : (deltas : List StoredDelta) (branch : Branch) → Holds deltas branch → branch_size deltas ≡ length branch.bytes.items + 48
branch_size_is deltas branch h =
    omega (arith, length-framed (payload (record_of form.Prepared (record { epoch = 0; seq = 0 }) deltas)), length-payload form.Prepared (record { epoch = 0; seq = 0 }) deltas, ap length h.written)

bytes-push : (deltas : List StoredDelta) (delta : StoredDelta) → flat_map delta_bytes (deltas ++ delta ∷ []) ≡ flat_map delta_bytes deltas ++ delta_bytes delta
bytes-push deltas delta = flat_map-append delta_bytes deltas (delta ∷ []) ∙ ap (λ (l : List ℕ). flat_map delta_bytes deltas ++ l) (append-nil (delta_bytes delta))

-- one delta more
pub holds_more : (deltas : List StoredDelta) (delta : StoredDelta) (old new : Branch) (bytes : List ℕ) → Holds deltas old → Encodes delta bytes → new.bytes.items ≡ old.bytes.items ++ bytes → new.count ≡ old.count + 1 → Holds (deltas ++ delta ∷ []) new
holds_more deltas delta old new bytes h e more one = record {
  written = more ∙ ap (λ (l : List ℕ). l ++ bytes) h.written ∙ ap (λ (l : List ℕ). flat_map delta_bytes deltas ++ l) e.is ∙ sym (bytes-push deltas delta);
  counted = omega (arith, one, h.counted, length-append deltas (delta ∷ []));
  have = list_all-push deltas h.have;
}
  where
    list_all-push : (ds : List StoredDelta) → list_all has_delta ds ≡ true → list_all has_delta (ds ++ delta ∷ []) ≡ true
    list_all-push [] all = and_from (has_delta delta) true e.has refl
    list_all-push (d ∷ ds) all = let p = and_parts (has_delta d) (list_all has_delta ds) all in and_from (has_delta d) (list_all has_delta (ds ++ delta ∷ [])) p.0 (list_all-push ds p.1)

pub branch_size_more : (deltas : List StoredDelta) (delta : StoredDelta) (branch : Branch) (bytes : List ℕ) → Holds deltas branch → Encodes delta bytes → branch_size (deltas ++ delta ∷ []) ≡ length branch.bytes.items + length bytes + 48
branch_size_more deltas delta branch bytes h e =
    omega (
      arith,
      length-framed (payload (record_of form.Prepared (record { epoch = 0; seq = 0 }) (deltas ++ delta ∷ []))),
      length-payload form.Prepared (record { epoch = 0; seq = 0 }) (deltas ++ delta ∷ []),
      ap length (bytes-push deltas delta),
      length-append (flat_map delta_bytes deltas) (delta_bytes delta),
      ap length h.written,
      ap length e.is,
    )

-- the deltas' bytes, behind their head and before a closed gate
pub frame_is : (f : Form) (x : Xid) (deltas : List StoredDelta) (branch : Branch) (size kind : ℕ) (frame : List ℕ) → Holds deltas branch → has_xid x ≡ true → branch.count < 2 ^ 32
    → size ≡ length branch.bytes.items + 21 → kind ≡ kind_in f → frame ≡ (head size kind x branch.count ++ branch.bytes.items) ++ 0 ∷ [] → Frames (record_of f x deltas) frame
frame_is f x deltas branch size kind frame h xid few size-is kind-is is = record {
  has = has_is f x deltas ∙ and_from (has_xid x) (has_deltas deltas) xid (and_from (ltb (length deltas) (2 ^ 32)) (list_all has_delta deltas) (lt-ltb (length deltas) (2 ^ 32) (omega (arith, h.counted))) h.have);
  is = is ∙ rw (kind-is, h.counted, h.written, sized) (ap (λ (p : List ℕ). p ++ 0 ∷ []) (regrouped ∙ ap (λ (p : List ℕ). to_be_bytes w32 (length (payload (record_of f x deltas))) ++ p) (sym (payload_is f x deltas))));
}
  where
    bytes : List ℕ
    bytes = flat_map delta_bytes deltas

    sized : size ≡ length (payload (record_of f x deltas))
    sized = omega (arith, size-is, length-payload f x deltas, ap length h.written)

    regrouped : head (length (payload (record_of f x deltas))) (kind_in f) x (length deltas) ++ bytes ≡ to_be_bytes w32 (length (payload (record_of f x deltas))) ++ kind_in f ∷ (xid_bytes x ++ counted w32 delta_bytes deltas)
    regrouped = refl

-- the head, written part by part
pub head_is : (old a b c d e : List ℕ) (size kind : ℕ) (x : Xid) (count : ℕ) → a ≡ old ++ to_be_bytes w32 size → b ≡ a ++ kind ∷ [] → c ≡ b ++ to_be_bytes w64 x.epoch → d ≡ c ++ to_be_bytes w64 x.seq → e ≡ d ++ to_be_bytes w32 count
    → e ≡ old ++ head size kind x count
head_is old a b c d e size kind x count ea eb ec ed ee =
    ee ∙ ap (λ (l : List ℕ). l ++ to_be_bytes w32 count) (ed ∙ ap (λ (l : List ℕ). l ++ to_be_bytes w64 x.seq) (ec ∙ ap (λ (l : List ℕ). l ++ to_be_bytes w64 x.epoch) (eb ∙ ap (λ (l : List ℕ). l ++ kind ∷ []) ea)))
    ∙ simp append_assoc
