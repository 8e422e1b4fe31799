-- The record of a payload: what was written is read again, and what is read was written so.
use Rattle.std.proofs.Common.{◌≡◌, ℕ, zero, suc, ◌^◌, ◌<◌, Bool, true, false, cond, ltb, eqb, ◌&&◌, List, [], ◌∷◌, ◌++◌, length, Option, Some, None, Result, Ok, Err, refl, sym, ap, subst, ◌∙◌, append_assoc, arith}
use Rattle.std.specs.Prelude.{ℤ, pos, negsuc, IfOk}
use Rattle.std.specs.Int.{Width, w16, w32, w64, w128, to_be_bytes, cast_signed, cast_unsigned}
use Rattle.std.proofs.lemmas.Bool.{ltb-true, lt-ltb, and_parts, eqb-true}
use Rattle.std.proofs.lemmas.Int.{to_z-of_z, of_z-to_z}
use Rattle.std.proofs.lemmas.List.{append-nil, nil_from_length}
use mir.ValLaws as laws
use lib.Signed.{mag}
use Rattle.vdb_base.specs.declared.value.Value.{Value}
use Rattle.vdb_base.specs.declared.value.Value.TheVariants.{Null, Bool as Truth, Num, Str}
use Rattle.vdb_model.specs.declared.source.Xid.{Xid}
use Rattle.vdb_model.specs.Number.{extent}
use Rattle.vdb_model.specs.Rows.{Cells}
use Rattle.resource.specs.declared.stored.StoredDelta.{StoredDelta}
use Rattle.store_records.specs.declared.entry.Entry.{Entry}
use Rattle.store_records.specs.declared.entry.Entry.TheVariants.{Prepared, Committed, RolledBack, OnePhase}
use Rattle.store_records.specs.declared.reading.ReadFault.{ReadFault}
use Rattle.store_records.specs.Fields.{◌>>=◌, Front, counted, lettered, is_text, number_at, signed_at, text_at, whole}
use Rattle.store_records.specs.Payloads.{value_bytes, row_bytes, rows_bytes, delta_bytes, xid_bytes, payload, has_value, has_row, has_rows, has_delta, has_xid, has_deltas, has_payload, IsPayload}
use Rattle.store_records.specs.Reading.{Gives, value_at, row_at, rows_at, delta_at, deltas_at, xid_at, branch_at, entry_of}
use Rattle.store_records.proofs.Wide.{IsBytes, wide16, wide32, wide64, wide128, signed_short}
use Rattle.store_records.proofs.Fields.{Takes, Takes-then, Reads, bind_some, some_is, if_some, number_reads, text_reads, list_reads}

-- ---- values

extent_is : (z : ℤ) → extent z ≡ mag z
extent_is (pos n) = refl
extent_is (negsuc n) = refl

signed_again : (n : ℤ) (rest : List ℕ) → ltb (extent n) (2 ^ 127) ≡ true → signed_at (to_be_bytes w128 (cast_unsigned w128 n) ++ rest) ≡ Some (n, rest)
signed_again n rest h =
    let small : mag n < 2 ^ 127 = subst (λ (m : ℕ). m < 2 ^ 127) (extent_is n) (ltb-true _ _ h) in
    let below : cast_unsigned w128 n < 2 ^ 128 = (laws.of_z_fits w128 n (record { sfits = small })).fits in
    ap (λ (o : Front ℕ). o >>= λ m. Some (cast_signed w128 m.0, m.1)) ((number_reads w128 128 wide128).again (cast_unsigned w128 n) rest (lt-ltb _ _ below))
    ∙ ap (λ (z : ℤ). Some (z, rest)) (to_z-of_z w128 n (record { sfits = small }))

IsBytes-tail : (b : ℕ) (bytes : List ℕ) → IsBytes (b ∷ bytes) → IsBytes bytes
IsBytes-tail b bytes h i = h (suc i)

abbrev TakesValue : List ℕ → Value × List ℕ → Type 0
TakesValue bytes f = Takes (has_value f.0) (value_bytes f.0) bytes f.1

signed_takes : (bytes : List ℕ) (found : ℤ × List ℕ) → IsBytes bytes → signed_at bytes ≡ Some found → Takes (ltb (extent found.0) (2 ^ 127)) (to_be_bytes w128 (cast_unsigned w128 found.0)) bytes found.1
signed_takes bytes found fits e =
    let a = bind_some (number_at w128 bytes) (λ m. Some (cast_signed w128 m.0, m.1)) found e in
    let t = (number_reads w128 128 wide128).takes bytes a.0 fits a.1 in
    let lt : a.0.0 < 2 ^ 128 = ltb-true _ _ t.fits in
    subst (λ (f : ℤ × List ℕ). Takes (ltb (extent f.0) (2 ^ 127)) (to_be_bytes w128 (cast_unsigned w128 f.0)) bytes f.1) (some_is (cast_signed w128 a.0.0, a.0.1) found a.2) (record {
      fits = lt-ltb _ _ (subst (λ (m : ℕ). m < 2 ^ 127) (sym (extent_is (cast_signed w128 a.0.0))) (signed_short a.0.0 lt));
      parts = t.parts ∙ ap (λ (k : ℕ). to_be_bytes w128 k ++ a.0.1) (sym (of_z-to_z w128 a.0.0 lt));
      rest_fits = t.rest_fits;
    })

-- one byte of kind in front
behind : (h : Bool) (kind : ℕ) (text bytes rest : List ℕ) → Takes h text bytes rest → Takes h (kind ∷ text) (kind ∷ bytes) rest
behind h kind text bytes rest t = record { fits = t.fits; parts = ap (λ (x : List ℕ). kind ∷ x) t.parts; rest_fits = t.rest_fits }

value_again : (v : Value) (rest : List ℕ) → has_value v ≡ true → value_at (value_bytes v ++ rest) ≡ Some (v, rest)
unfolding value_at
value_again Null rest h = refl
value_again (Truth false) rest h = refl
value_again (Truth true) rest h = refl
value_again (Num n) rest h = ap (λ (o : Front ℤ). o >>= λ m. Some (Num m.0, m.1)) (signed_again n rest h)
value_again (Str text) rest h = ap (λ (o : Front (List ℕ)). o >>= λ t. Some (Str t.0, t.1)) ((text_reads w32 32 wide32).again text rest h)

value_takes : (bytes : List ℕ) (found : Value × List ℕ) → IsBytes bytes → value_at bytes ≡ Some found → TakesValue bytes found
unfolding value_at
value_takes [] found fits e = absurd cc
value_takes (zero ∷ rest) found fits e = subst (TakesValue (0 ∷ rest)) (some_is (Null, rest) found e) (record { fits = refl; parts = refl; rest_fits = IsBytes-tail 0 rest fits })
value_takes (suc zero ∷ rest) found fits e = subst (TakesValue (1 ∷ rest)) (some_is (Truth false, rest) found e) (record { fits = refl; parts = refl; rest_fits = IsBytes-tail 1 rest fits })
value_takes (suc (suc zero) ∷ rest) found fits e = subst (TakesValue (2 ∷ rest)) (some_is (Truth true, rest) found e) (record { fits = refl; parts = refl; rest_fits = IsBytes-tail 2 rest fits })
value_takes (suc (suc (suc zero)) ∷ rest) found fits e =
    let a = bind_some (signed_at rest) (λ m. Some (Num m.0, m.1)) found e in
    subst (TakesValue (3 ∷ rest)) (some_is (Num a.0.0, a.0.1) found a.2) (behind _ 3 _ rest a.0.1 (signed_takes rest a.0 (IsBytes-tail 3 rest fits) a.1))
value_takes (suc (suc (suc (suc zero))) ∷ rest) found fits e =
    let a = bind_some (text_at w32 rest) (λ t. Some (Str t.0, t.1)) found e in
    subst (TakesValue (4 ∷ rest)) (some_is (Str a.0.0, a.0.1) found a.2) (behind _ 4 _ rest a.0.1 ((text_reads w32 32 wide32).takes rest a.0 (IsBytes-tail 4 rest fits) a.1))
value_takes (suc (suc (suc (suc (suc kind)))) ∷ rest) found fits e = absurd cc

value_reads : Reads value_bytes has_value value_at
value_reads = record { again = value_again; takes = value_takes }

row_reads : Reads row_bytes has_row row_at
row_reads = list_reads value_bytes has_value value_at value_reads w16 16 wide16

rows_reads : Reads rows_bytes has_rows rows_at
rows_reads = list_reads row_bytes has_row row_at row_reads w32 32 wide32

-- ---- deltas

delta_again : (delta : StoredDelta) (rest : List ℕ) → has_delta delta ≡ true → delta_at (delta_bytes delta ++ rest) ≡ Some (delta, rest)
unfolding delta_at
delta_again delta rest h =
    let p = and_parts (is_text 16 delta.source) (has_rows delta.removed && has_rows delta.added) h in
    let q = and_parts (has_rows delta.removed) (has_rows delta.added) p.1 in
    let regrouped : delta_bytes delta ++ rest ≡ lettered w16 delta.source ++ (rows_bytes delta.removed ++ (rows_bytes delta.added ++ rest)) = append_assoc (lettered w16 delta.source) (rows_bytes delta.removed ++ rows_bytes delta.added) rest ∙ ap (λ (x : List ℕ). lettered w16 delta.source ++ x) (append_assoc (rows_bytes delta.removed) (rows_bytes delta.added) rest) in
    ap delta_at regrouped
    ∙ ap (λ (o : Front (List ℕ)). o >>= λ source. rows_at source.1 >>= λ removed. rows_at removed.1 >>= λ added. Some (made source.0 removed.0 added.0, added.1)) ((text_reads w16 16 wide16).again delta.source (rows_bytes delta.removed ++ (rows_bytes delta.added ++ rest)) p.0)
    ∙ ap (λ (o : Front (List Cells)). o >>= λ removed. rows_at removed.1 >>= λ added. Some (made delta.source removed.0 added.0, added.1)) (rows_reads.again delta.removed (rows_bytes delta.added ++ rest) q.0)
    ∙ ap (λ (o : Front (List Cells)). o >>= λ added. Some (made delta.source delta.removed added.0, added.1)) (rows_reads.again delta.added rest q.1)
  where
    made : List ℕ → List Cells → List Cells → StoredDelta
    made source removed added = record { source = source; removed = removed; added = added }

-- the parts of a delta, and the delta
takes_whole : (source : List ℕ) (removed added : List Cells) (bytes rest : List ℕ) → Takes (is_text 16 source && (has_rows removed && has_rows added)) (lettered w16 source ++ (rows_bytes removed ++ rows_bytes added)) bytes rest
    → Takes (has_delta (record { source = source; removed = removed; added = added })) (delta_bytes (record { source = source; removed = removed; added = added })) bytes rest
takes_whole source removed added bytes rest t = t

delta_takes : (bytes : List ℕ) (found : StoredDelta × List ℕ) → IsBytes bytes → delta_at bytes ≡ Some found → Takes (has_delta found.0) (delta_bytes found.0) bytes found.1
unfolding delta_at
delta_takes bytes found fits e =
    let a = bind_some (text_at w16 bytes) (λ source. rows_at source.1 >>= λ removed. rows_at removed.1 >>= λ added. Some (record { source = source.0; removed = removed.0; added = added.0 }, added.1)) found e in
    let b = bind_some (rows_at a.0.1) (λ removed. rows_at removed.1 >>= λ added. Some (record { source = a.0.0; removed = removed.0; added = added.0 }, added.1)) found a.2 in
    let c = bind_some (rows_at b.0.1) (λ added. Some (record { source = a.0.0; removed = b.0.0; added = added.0 }, added.1)) found b.2 in
    let t0 = (text_reads w16 16 wide16).takes bytes a.0 fits a.1 in
    let t1 = rows_reads.takes a.0.1 b.0 t0.rest_fits b.1 in
    let t2 = rows_reads.takes b.0.1 c.0 t1.rest_fits c.1 in
    let e12 = Takes-then (has_rows b.0.0) (has_rows c.0.0) a.0.1 (rows_bytes b.0.0) b.0.1 (rows_bytes c.0.0) c.0.1 t1 t2 in
    let e02 = Takes-then (is_text 16 a.0.0) (has_rows b.0.0 && has_rows c.0.0) bytes (lettered w16 a.0.0) a.0.1 (rows_bytes b.0.0 ++ rows_bytes c.0.0) c.0.1 t0 e12 in
    let made : StoredDelta × List ℕ = (record { source = a.0.0; removed = b.0.0; added = c.0.0 }, c.0.1) in
    subst (λ (f : StoredDelta × List ℕ). Takes (has_delta f.0) (delta_bytes f.0) bytes f.1) (some_is made found c.2) (takes_whole a.0.0 b.0.0 c.0.0 bytes c.0.1 e02)

delta_reads : Reads delta_bytes has_delta delta_at
delta_reads = record { again = delta_again; takes = delta_takes }

deltas_reads : Reads (counted w32 delta_bytes) has_deltas deltas_at
deltas_reads = list_reads delta_bytes has_delta delta_at delta_reads w32 32 wide32

-- ---- transactions and branches

xid_again : (x : Xid) (rest : List ℕ) → has_xid x ≡ true → xid_at (xid_bytes x ++ rest) ≡ Some (x, rest)
unfolding xid_at
xid_again x rest h =
    let p = and_parts (ltb x.epoch (2 ^ 64)) (ltb x.seq (2 ^ 64)) h in
    ap xid_at (append_assoc (to_be_bytes w64 x.epoch) (to_be_bytes w64 x.seq) rest)
    ∙ ap (λ (o : Front ℕ). o >>= λ epoch. number_at w64 epoch.1 >>= λ seq. Some (made epoch.0 seq.0, seq.1)) ((number_reads w64 64 wide64).again x.epoch (to_be_bytes w64 x.seq ++ rest) p.0)
    ∙ ap (λ (o : Front ℕ). o >>= λ seq. Some (made x.epoch seq.0, seq.1)) ((number_reads w64 64 wide64).again x.seq rest p.1)
  where
    made : ℕ → ℕ → Xid
    made epoch seq = record { epoch = epoch; seq = seq }

xid_takes : (bytes : List ℕ) (found : Xid × List ℕ) → IsBytes bytes → xid_at bytes ≡ Some found → Takes (has_xid found.0) (xid_bytes found.0) bytes found.1
unfolding xid_at
xid_takes bytes found fits e =
    let a = bind_some (number_at w64 bytes) (λ epoch. number_at w64 epoch.1 >>= λ seq. Some (record { epoch = epoch.0; seq = seq.0 }, seq.1)) found e in
    let b = bind_some (number_at w64 a.0.1) (λ seq. Some (record { epoch = a.0.0; seq = seq.0 }, seq.1)) found a.2 in
    let t0 = (number_reads w64 64 wide64).takes bytes a.0 fits a.1 in
    let t1 = (number_reads w64 64 wide64).takes a.0.1 b.0 t0.rest_fits b.1 in
    let both = Takes-then (ltb a.0.0 (2 ^ 64)) (ltb b.0.0 (2 ^ 64)) bytes (to_be_bytes w64 a.0.0) a.0.1 (to_be_bytes w64 b.0.0) b.0.1 t0 t1 in
    let made : Xid × List ℕ = (record { epoch = a.0.0; seq = b.0.0 }, b.0.1) in
    subst (λ (f : Xid × List ℕ). Takes (has_xid f.0) (xid_bytes f.0) bytes f.1) (some_is made found b.2) both

xid_reads : Reads xid_bytes has_xid xid_at
xid_reads = record { again = xid_again; takes = xid_takes }

abbrev branch_bytes : Xid × List StoredDelta → List ℕ
branch_bytes b = xid_bytes b.0 ++ counted w32 delta_bytes b.1

abbrev has_branch : Xid × List StoredDelta → Bool
has_branch b = has_xid b.0 && has_deltas b.1

branch_again : (b : Xid × List StoredDelta) (rest : List ℕ) → has_branch b ≡ true → branch_at (branch_bytes b ++ rest) ≡ Some (b, rest)
unfolding branch_at
branch_again b rest h =
    let p = and_parts (has_xid b.0) (has_deltas b.1) h in
    ap branch_at (append_assoc (xid_bytes b.0) (counted w32 delta_bytes b.1) rest)
    ∙ ap (λ (o : Front Xid). o >>= λ x. deltas_at x.1 >>= λ deltas. Some ((x.0, deltas.0), deltas.1)) (xid_reads.again b.0 (counted w32 delta_bytes b.1 ++ rest) p.0)
    ∙ ap (λ (o : Front (List StoredDelta)). o >>= λ deltas. Some ((b.0, deltas.0), deltas.1)) (deltas_reads.again b.1 rest p.1)

branch_takes : (bytes : List ℕ) (found : (Xid × List StoredDelta) × List ℕ) → IsBytes bytes → branch_at bytes ≡ Some found → Takes (has_branch found.0) (branch_bytes found.0) bytes found.1
unfolding branch_at
branch_takes bytes found fits e =
    let a = bind_some (xid_at bytes) (λ x. deltas_at x.1 >>= λ deltas. Some ((x.0, deltas.0), deltas.1)) found e in
    let b = bind_some (deltas_at a.0.1) (λ deltas. Some ((a.0.0, deltas.0), deltas.1)) found a.2 in
    let t0 = xid_reads.takes bytes a.0 fits a.1 in
    let t1 = deltas_reads.takes a.0.1 b.0 t0.rest_fits b.1 in
    let both = Takes-then (has_xid a.0.0) (has_deltas b.0.0) bytes (xid_bytes a.0.0) a.0.1 (counted w32 delta_bytes b.0.0) b.0.1 t0 t1 in
    subst (λ (f : (Xid × List StoredDelta) × List ℕ). Takes (has_branch f.0) (branch_bytes f.0) bytes f.1) (some_is ((a.0.0, b.0.0), b.0.1) found b.2) both

branch_reads : Reads branch_bytes has_branch branch_at
branch_reads = record { again = branch_again; takes = branch_takes }

-- ---- records

module _ {A : Type 0} {bytes_of : A → List ℕ} {has : A → Bool} {at : List ℕ → Front A} (reads : Reads bytes_of has at) where
  whole_again : (a : A) → has a ≡ true → whole (at (bytes_of a)) ≡ Some a
  whole_again a h = ap (λ (bytes : List ℕ). whole (at bytes)) (sym (append-nil (bytes_of a))) ∙ ap whole (reads.again a [] h)

  whole_takes : (bytes : List ℕ) (a : A) → IsBytes bytes → whole (at bytes) ≡ Some a → (has a ≡ true) × (bytes ≡ bytes_of a)
  whole_takes bytes a fits e = by (at bytes) refl e
    where
      by : (o : Front A) → at bytes ≡ o → whole o ≡ Some a → (has a ≡ true) × (bytes ≡ bytes_of a)
      by None is e = absurd cc
      by (Some found) is e =
          let t = reads.takes bytes found fits is in
          let g = if_some (eqb (length found.1) 0) found.0 a e in
          let none : found.1 ≡ [] = nil_from_length found.1 (eqb-true _ _ g.0) in
          subst (λ (x : A). (has x ≡ true) × (bytes ≡ bytes_of x)) g.1 (t.fits, t.parts ∙ ap (λ (r : List ℕ). bytes_of found.0 ++ r) none ∙ append-nil (bytes_of found.0))

-- what was written is read again
pub entry_again : (e : Entry) → has_payload e ≡ true → entry_of (payload e) ≡ Some e
unfolding entry_of
entry_again (Prepared x deltas) h = ap (λ (o : Option (Xid × List StoredDelta)). o >>= λ b. Some (Prepared b.0 b.1)) (whole_again branch_reads (x, deltas) h)
entry_again (Committed x) h = ap (λ (o : Option Xid). o >>= λ x. Some (Committed x)) (whole_again xid_reads x h)
entry_again (RolledBack x) h = ap (λ (o : Option Xid). o >>= λ x. Some (RolledBack x)) (whole_again xid_reads x h)
entry_again (OnePhase x deltas) h = ap (λ (o : Option (Xid × List StoredDelta)). o >>= λ b. Some (OnePhase b.0 b.1)) (whole_again branch_reads (x, deltas) h)

abbrev IsEntry : List ℕ → Entry → Type 0
IsEntry bytes e = (has_payload e ≡ true) × (bytes ≡ payload e)

-- what is read was written so
pub entry_takes : (bytes : List ℕ) (e : Entry) → IsBytes bytes → entry_of bytes ≡ Some e → IsEntry bytes e
unfolding entry_of
entry_takes [] e fits h = absurd cc
entry_takes (zero ∷ rest) e fits h = absurd cc
entry_takes (suc zero ∷ rest) e fits h =
    let a = bind_some (whole (branch_at rest)) (λ b. Some (Prepared b.0 b.1)) e h in
    let t = whole_takes branch_reads rest a.0 (IsBytes-tail 1 rest fits) a.1 in
    subst (IsEntry (1 ∷ rest)) (some_is (Prepared a.0.0 a.0.1) e a.2) (t.0, ap (λ (x : List ℕ). 1 ∷ x) t.1)
entry_takes (suc (suc zero) ∷ rest) e fits h =
    let a = bind_some (whole (xid_at rest)) (λ x. Some (Committed x)) e h in
    let t = whole_takes xid_reads rest a.0 (IsBytes-tail 2 rest fits) a.1 in
    subst (IsEntry (2 ∷ rest)) (some_is (Committed a.0) e a.2) (t.0, ap (λ (x : List ℕ). 2 ∷ x) t.1)
entry_takes (suc (suc (suc zero)) ∷ rest) e fits h =
    let a = bind_some (whole (xid_at rest)) (λ x. Some (RolledBack x)) e h in
    let t = whole_takes xid_reads rest a.0 (IsBytes-tail 3 rest fits) a.1 in
    subst (IsEntry (3 ∷ rest)) (some_is (RolledBack a.0) e a.2) (t.0, ap (λ (x : List ℕ). 3 ∷ x) t.1)
entry_takes (suc (suc (suc (suc zero))) ∷ rest) e fits h =
    let a = bind_some (whole (branch_at rest)) (λ b. Some (OnePhase b.0 b.1)) e h in
    let t = whole_takes branch_reads rest a.0 (IsBytes-tail 4 rest fits) a.1 in
    subst (IsEntry (4 ∷ rest)) (some_is (OnePhase a.0.0 a.0.1) e a.2) (t.0, ap (λ (x : List ℕ). 4 ∷ x) t.1)
entry_takes (suc (suc (suc (suc (suc kind)))) ∷ rest) e fits h = absurd cc

-- what a reader returned is the record whose bytes these are
pub entry_found : (bytes : List ℕ) (r : Result Entry ReadFault) → IsBytes bytes → Gives (λ e. e) r (entry_of bytes) → IfOk r (λ e. IsPayload e bytes)
entry_found bytes (Ok e) fits given = let t = entry_takes bytes e fits given in record { has = t.0; is = t.1 }
entry_found bytes (Err fault) fits given = tt
