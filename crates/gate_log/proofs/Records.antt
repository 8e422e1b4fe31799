-- The records of bytes that were written as records.
use Rattle.std.proofs.Common.{◌≡◌, ◌≢◌, ℕ, zero, suc, ◌+◌, ◌^◌, ◌<◌, ◌≤◌, ◌==◌, inl, inr, true, false, nat_lt, nat_le, if◌then◌else◌, List, [], ◌∷◌, ◌++◌, length, take, drop, Option, Some, None, option_map, option_and_then, bytes_eq, refl, sym, ◌∙◌, ap, arith, append_assoc, length-append, length-drop}
use Rattle.std.proofs.lemmas.List.{take_at, drop_at}
use Rattle.std.proofs.lemmas.Bool.{lt-ltb, cases_lt}
use Rattle.std.proofs.lemmas.Bool.Decides.{nat_tests}
use Rattle.std.proofs.lemmas.Nat.{from_be_bytes-to_be_bytes_4}
use Rattle.std.specs.Int.{w32, to_be_bytes}
use Rattle.gate_log.specs.Records.{header, log_limit, body, opened, size_in, split_body, gated, records_from, records}

split_is : (bytes p rest : List ℕ) (size : ℕ) → size_in bytes ≡ size → 4 + size < length bytes → take size (drop 4 bytes) ≡ p → drop (4 + size) bytes ≡ rest → split_body bytes ≡ Some (p, rest)
unfolding split_body
split_is bytes p rest size e lt ep er = rw (e, lt-ltb (4 + size) (length bytes) lt, ep, er) refl

pub split_none : (bytes : List ℕ) (size : ℕ) → size_in bytes ≡ size → length bytes ≤ 4 + size → split_body bytes ≡ None
unfolding split_body
split_none bytes size e le =
    let no : nat_lt (4 + size) (length bytes) ≡ false = grind (arith, nat_tests) in
    rw (e, no) refl

pub length-body : (p : List ℕ) → length (body p) ≡ 4 + length p
unfolding body
length-body p = omega (arith, length-append (to_be_bytes w32 (length p)) p)

pub size_in-body : (p rest : List ℕ) → length p < 2 ^ 32 → size_in (body p ++ rest) ≡ length p
unfolding body size_in
size_in-body p rest lt = from_be_bytes-to_be_bytes_4 (length p) lt

pub behind-body : (p rest : List ℕ) → drop 4 (body p ++ rest) ≡ p ++ rest
unfolding body
behind-body p rest = refl

pub split_body-body : (p rest : List ℕ) → length p < 2 ^ 32 → 0 < length rest → split_body (body p ++ rest) ≡ Some (p, rest)
split_body-body p rest lt more =
    let size = length-body p in
    split_is (body p ++ rest) p rest (length p) (size_in-body p rest lt)
    (omega (arith, size, length-append (body p) rest))
    (ap (take (length p)) (behind-body p rest) ∙ take_at p rest (length p) refl)
    (drop_at (body p) rest (4 + length p) size)

abbrev rest_of : Option (List ℕ × List ℕ) → List ℕ
rest_of None = []
rest_of (Some found) = found.1

-- what follows a body is no longer than the whole
shorter : (bytes : List ℕ) → length (rest_of (split_body bytes)) ≤ length bytes
shorter bytes =
    elim (cases_lt (4 + size_in bytes) (length bytes)) [
      | inl lt ↦ let e = split_is bytes (take (size_in bytes) (drop 4 bytes)) (drop (4 + size_in bytes) bytes) (size_in bytes) refl lt refl refl in rw e (omega (arith, length-drop (4 + size_in bytes) bytes))
      | inr le ↦ rw (split_none bytes (size_in bytes) refl le) (omega arith)
    ]

gated-nil : (m : ℕ) → gated m [] ≡ None
unfolding gated
gated-nil zero = refl
gated-nil (suc m) = refl

-- a closed gate ends them, whatever follows
pub gated_closed : (m gate : ℕ) (rest : List ℕ) → gate ≢ 1 → 0 < m → gated m (gate ∷ rest) ≡ Some []
unfolding gated
gated_closed zero gate rest closed some = absurd (omega arith)
gated_closed (suc m) gate rest closed some = grind (arith, nat_tests)

-- an open gate and the body behind it
gated_open : (m : ℕ) (rest : List ℕ) → gated (suc m) (1 ∷ rest) ≡ option_and_then (λ found. option_map (λ payloads. found.0 ∷ payloads) (gated m found.1)) (split_body rest)
unfolding gated
gated_open m rest = refl

pub gated_broken : (m : ℕ) (rest : List ℕ) → split_body rest ≡ None → gated m (1 ∷ rest) ≡ None
unfolding gated
gated_broken zero rest e = refl
gated_broken (suc m) rest e = rw e refl

same_step : (m n : ℕ) (o : Option (List ℕ × List ℕ)) → gated m (rest_of o) ≡ gated n (rest_of o)
    → option_and_then (λ found. option_map (λ payloads. found.0 ∷ payloads) (gated m found.1)) o ≡ option_and_then (λ found. option_map (λ payloads. found.0 ∷ payloads) (gated n found.1)) o
same_step m n None e = refl
same_step m n (Some found) e = ap (option_map (λ payloads. found.0 ∷ payloads)) e

-- how many records are looked at makes no difference, where they are enough
pub gated_same : (m n : ℕ) (bytes : List ℕ) → length bytes ≤ m → length bytes ≤ n → gated m bytes ≡ gated n bytes
unfolding gated
gated_same m n [] lm ln = gated-nil m ∙ sym (gated-nil n)
gated_same zero n (gate ∷ rest) lm ln = absurd (omega arith)
gated_same (suc m) zero (gate ∷ rest) lm ln = absurd (omega arith)
gated_same (suc m) (suc n) (gate ∷ rest) lm ln =
    let small = shorter rest in
    ap (λ (o : Option (List (List ℕ))). if gate == 1 then o else Some []) (same_step m n (split_body rest) (gated_same m n (rest_of (split_body rest)) (omega arith) (omega arith)))

map_map : (p : List ℕ) (ps : List (List ℕ)) (o : Option (List (List ℕ))) → option_map (λ qs. p ∷ qs) (option_map (λ qs. ps ++ qs) o) ≡ option_map (λ qs. (p ∷ ps) ++ qs) o
map_map p ps None = refl
map_map p ps (Some qs) = refl

map_nil : (o : Option (List (List ℕ))) → o ≡ option_map (λ qs. [] ++ qs) o
map_nil None = refl
map_nil (Some qs) = refl

-- records that were written, and then what the rest stands for
pub gated-opened : (ps : List (List ℕ)) (rest : List ℕ) (m n : ℕ) → length (opened ps) < 2 ^ 32 → 0 < length rest → length (opened ps ++ rest) ≤ m → length rest ≤ n → gated m (opened ps ++ rest) ≡ option_map (λ qs. ps ++ qs) (gated n rest)
gated-opened [] rest m n lt more lm ln = gated_same m n rest lm ln ∙ map_nil (gated n rest)
gated-opened (p ∷ ps) rest zero n lt more lm ln = absurd (omega arith)
gated-opened (p ∷ ps) rest (suc m) n lt more lm ln =
    let whole = length-append (body p) (opened ps) in
    let size = length-body p in
    let tail = append_assoc (body p) (opened ps) rest in
    let long = length-append (body p) (opened ps ++ rest) in
    let longer = ap length tail in
    let behind = length-append (opened ps) rest in
    let split = ap split_body tail ∙ split_body-body p (opened ps ++ rest) (omega arith) (omega arith) in
    gated_open m ((body p ++ opened ps) ++ rest)
    ∙ ap (option_and_then (λ found. option_map (λ payloads. found.0 ∷ payloads) (gated m found.1))) split
    ∙ ap (option_map (λ payloads. p ∷ payloads)) (gated-opened ps rest m n (omega arith) more (omega arith) ln)
    ∙ map_map p ps (gated n rest)

pub opened-append : (ps qs : List (List ℕ)) → opened (ps ++ qs) ≡ opened ps ++ opened qs
opened-append [] qs = refl
opened-append (p ∷ ps) qs = ap (λ (l : List ℕ). 1 ∷ l) (ap (λ (l : List ℕ). body p ++ l) (opened-append ps qs) ∙ sym (append_assoc (body p) (opened ps) (opened qs)))

pub no_records : (ps : List (List ℕ)) → length (opened ps) ≡ 0 → ps ≡ []
no_records [] e = refl
no_records (p ∷ ps) e = absurd (omega arith)

pub records_short : (bytes : List ℕ) → length bytes ≤ 9 → records bytes ≡ Some []
unfolding records
records_short bytes le = let short : nat_le (length bytes) 9 ≡ true = grind (arith, nat_tests) in rw short refl

pub records_long : (bytes : List ℕ) → log_limit < length bytes → records bytes ≡ None
unfolding records
records_long bytes gt =
    let long : nat_le (length bytes) 9 ≡ false = grind (arith, nat_tests) in
    let more : nat_le (length bytes) log_limit ≡ false = grind (arith, nat_tests) in
    rw (long, more) (grind (arith, nat_tests))

pub records_other : (bytes : List ℕ) → 9 < length bytes → bytes_eq (take 8 bytes) header ≡ false → records bytes ≡ None
unfolding records
records_other bytes gt other =
    let long : nat_le (length bytes) 9 ≡ false = grind (arith, nat_tests) in
    rw (long, other) refl

pub records_front : (ps : List (List ℕ)) (rest : List ℕ) (n : ℕ) → 9 < length ((header ++ opened ps) ++ rest) → length ((header ++ opened ps) ++ rest) ≤ log_limit → 0 < length rest → length rest ≤ n → records ((header ++ opened ps) ++ rest) ≡ option_map (λ qs. ps ++ qs) (gated n rest)
unfolding records records_from
records_front ps rest n long short more ln =
    let size = length-append (opened ps) rest in
    let not_short : nat_le (length ((header ++ opened ps) ++ rest)) 9 ≡ false = grind (arith, nat_tests) in
    let fits : nat_le (length ((header ++ opened ps) ++ rest)) log_limit ≡ true = grind (arith, nat_tests) in
    rw (not_short, fits) (gated-opened ps rest (length ((header ++ opened ps) ++ rest)) n (omega arith) more (omega arith) ln)
