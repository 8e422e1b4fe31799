-- The records that a text has from a state on, one after the other.
use Rattle.std.proofs.Common.{◌≡◌, ◌∙◌, ◌≤◌, ◌<◌, ◌+◌, ◌==◌, ◌||◌, ◌++◌, if◌then◌else◌, ℕ, zero, suc, Bool, true, false, List, [], ◌∷◌, Option, Some, None, IfSome, length, refl, ap, sym, subst, arith, add-one}
use Rattle.csv.specs.Machine.{Read, next_record, step, is_end, ends_at_end, fields_after, field_after}
use Rattle.csv.specs.Reading.{Reached, default_config, records_from, records_next}
use Rattle.csv.specs.declared.parser.Action.{Action}
use Rattle.csv.specs.declared.parser.Action.TheVariants as act
use Rattle.csv.specs.declared.parser.State.{State}
use Rattle.csv.specs.declared.parser.State.TheVariants as st
use Rattle.csv_folder.specs.Records.{Fields, is_between, records_from_state}

-- a byte that ends a record leaves a state between two
abbrev Between : State × Action → Type 0
Between p = is_end p.1 ≡ true → is_between p.0 ≡ true

abbrev fielded : Bool → Bool → Bool → State × Action
fielded d e r = if d then (st.StartField, act.EndField) else if e then ((if r then st.AfterCr else st.StartRecord), act.EndRecord) else (st.InField, act.Copy)

fielded_between : (d e r : Bool) → Between (fielded d e r)
fielded_between true e r h = cc
fielded_between false true true h = refl
fielded_between false true false h = refl
fielded_between false false r h = cc

quoted_between : (q d e r : Bool) → Between (if q then (st.InQuoted, act.Skip) else fielded d e r)
quoted_between true d e r h = cc
quoted_between false d e r h = fielded_between d e r h

doubled_between : (q d e r : Bool) → Between (if q then (st.InQuoted, act.Copy) else fielded d e r)
doubled_between true d e r h = cc
doubled_between false d e r h = fielded_between d e r h

started_between : (q d e r : Bool) → Between (if e then (st.StartRecord, act.Skip) else if q then (st.InQuoted, act.Skip) else fielded d e r)
started_between q d true r h = cc
started_between q d false r h = quoted_between q d false r h

skipped_between : (f q d e r : Bool) → Between (if f then (st.StartRecord, act.Skip) else if e then (st.StartRecord, act.Skip) else if q then (st.InQuoted, act.Skip) else fielded d e r)
skipped_between true q d e r h = cc
skipped_between false q d e r h = started_between q d e r h

inside_between : (q : Bool) → Between (if q then (st.AfterQuote, act.Skip) else (st.InQuoted, act.Copy))
inside_between true h = cc
inside_between false h = cc

comment_between : (e : Bool) → Between (if e then (st.StartRecord, act.Skip) else (st.InComment, act.Skip))
comment_between true h = cc
comment_between false h = cc

between_byte : (s : State) (c : ℕ) → Between (step default_config s c)
between_byte st.StartRecord c = started_between (c == 34) (c == 44) ((c == 13) || (c == 10)) (c == 13)
between_byte st.StartField c = quoted_between (c == 34) (c == 44) ((c == 13) || (c == 10)) (c == 13)
between_byte st.InField c = fielded_between (c == 44) ((c == 13) || (c == 10)) (c == 13)
between_byte st.InQuoted c = inside_between (c == 34)
between_byte st.AfterQuote c = doubled_between (c == 34) (c == 44) ((c == 13) || (c == 10)) (c == 13)
between_byte st.InEscape c = λ h. cc h
between_byte st.InComment c = comment_between (c == 10)
between_byte st.AfterCr c = skipped_between (c == 10) (c == 34) (c == 44) ((c == 13) || (c == 10)) (c == 13)

-- after a record the state is between two
between_after : (s : State) (fields : Fields) (field : List ℕ) (xs : List ℕ) → IfSome (next_record default_config s fields field xs) (λ p. is_between p.1 ≡ true)
unfolding next_record
between_after s fields field [] = at_end (ends_at_end s)
  where
    at_end : (b : Bool) → IfSome {T = Read} (if b then Some (fields ++ (field ∷ []), st.StartRecord, []) else None) (λ p. is_between p.1 ≡ true)
    at_end true = refl
    at_end false = tt
between_after s fields field (c ∷ rest) =
    let next = step default_config s c in
    at_byte (is_end next.1) refl (between_after next.0 (fields_after next.1 fields field) (field_after next.1 c field) rest)
  where
    next : State × Action
    next = step default_config s c

    at_byte : (b : Bool) → is_end next.1 ≡ b → IfSome (next_record default_config next.0 (fields_after next.1 fields field) (field_after next.1 c field) rest) (λ p. is_between p.1 ≡ true)
        → IfSome {T = Read} (if b then Some (fields_after next.1 fields field, next.0, rest) else next_record default_config next.0 (fields_after next.1 fields field) (field_after next.1 c field) rest) (λ p. is_between p.1 ≡ true)
    at_byte true e later = between_byte s c e
    at_byte false e later = later

-- a record takes none but its own bytes, and one at least
within : (s : State) (fields : Fields) (field : List ℕ) (xs : List ℕ) (n : ℕ) → length xs ≤ n → IfSome (next_record default_config s fields field xs) (λ p. length p.2 ≤ n)
unfolding next_record
within s fields field [] n h = at_end (ends_at_end s)
  where
    at_end : (b : Bool) → IfSome {T = Read} (if b then Some (fields ++ (field ∷ []), st.StartRecord, []) else None) (λ p. length p.2 ≤ n)
    at_end true = omega arith
    at_end false = tt
within s fields field (c ∷ rest) n h = at_byte (is_end next.1) (within next.0 (fields_after next.1 fields field) (field_after next.1 c field) rest n (omega arith))
  where
    next : State × Action
    next = step default_config s c

    at_byte : (b : Bool) → IfSome (next_record default_config next.0 (fields_after next.1 fields field) (field_after next.1 c field) rest) (λ p. length p.2 ≤ n)
        → IfSome {T = Read} (if b then Some (fields_after next.1 fields field, next.0, rest) else next_record default_config next.0 (fields_after next.1 fields field) (field_after next.1 c field) rest) (λ p. length p.2 ≤ n)
    at_byte true later = omega arith
    at_byte false later = later

within_byte : (s : State) (fields : Fields) (field : List ℕ) (c : ℕ) (rest : List ℕ) → IfSome (next_record default_config s fields field (c ∷ rest)) (λ p. length p.2 ≤ length rest)
unfolding next_record
within_byte s fields field c rest = at_byte (is_end next.1)
  where
    next : State × Action
    next = step default_config s c

    at_byte : (b : Bool) → IfSome {T = Read} (if b then Some (fields_after next.1 fields field, next.0, rest) else next_record default_config next.0 (fields_after next.1 fields field) (field_after next.1 c field) rest) (λ p. length p.2 ≤ length rest)
    at_byte true = omega arith
    at_byte false = within next.0 (fields_after next.1 fields field) (field_after next.1 c field) rest (length rest) (omega arith)

none_left : (s : State) → is_between s ≡ true → next_record default_config s [] [] [] ≡ None
unfolding next_record
none_left st.StartRecord h = refl
none_left st.AfterCr h = refl
none_left st.StartField h = cc
none_left st.InField h = cc
none_left st.InQuoted h = cc
none_left st.AfterQuote h = cc
none_left st.InEscape h = cc
none_left st.InComment h = cc

-- any number of records that is enough gives the same
enough : (n m : ℕ) (s : State) (xs : List ℕ) → is_between s ≡ true → length xs < n → length xs < m → records_from default_config n s xs ≡ records_from default_config m s xs
unfolding records_from
enough zero m s xs b h k = absurd (omega arith)
enough (suc n) zero s xs b h k = absurd (omega arith)
enough (suc n) (suc m) s [] b h k = ap (records_next (records_from default_config n)) (none_left s b) ∙ sym (ap (records_next (records_from default_config m)) (none_left s b))
enough (suc n) (suc m) s (c ∷ rest) b h k = more (next_record default_config s [] [] (c ∷ rest)) (within_byte s [] [] c rest) (between_after s [] [] (c ∷ rest)) (enough n m)
  where
    more : (o : Option Read) → IfSome o (λ p. length p.2 ≤ length rest) → IfSome o (λ p. is_between p.1 ≡ true)
        → ((s : State) (xs : List ℕ) → is_between s ≡ true → length xs < n → length xs < m → records_from default_config n s xs ≡ records_from default_config m s xs)
        → records_next (records_from default_config n) o ≡ records_next (records_from default_config m) o
    more None w b later = refl
    more (Some p) w b later = ap (λ rs. p.0 ∷ rs) (later p.1 p.2 b (omega arith) (omega arith))

shorter : (s : State) (xs : List ℕ) (p : Read) → is_between s ≡ true → next_record default_config s [] [] xs ≡ Some p → length p.2 < length xs
shorter s [] p b e = let clash : ⊥ = cc (none_left s b, e) in absurd clash
shorter s (c ∷ rest) p b e =
    let w : length p.2 ≤ length rest = subst (λ o. IfSome o (λ q. length q.2 ≤ length rest)) e (within_byte s [] [] c rest) in
    omega arith

-- the records that are left, where the next one is read
left_next : (s : State) (xs : List ℕ) (p : Read) → is_between s ≡ true → next_record default_config s [] [] xs ≡ Some p → records_from_state s xs ≡ p.0 ∷ records_from_state p.1 p.2
unfolding records_from
left_next s xs p b e =
    let between : is_between p.1 ≡ true = subst (λ o. IfSome o (λ q. is_between q.1 ≡ true)) e (between_after s [] [] xs) in
    let less = shorter s xs p b e in
    ap (λ n. records_from default_config n s xs) (add-one (length xs))
    ∙ ap (records_next (records_from default_config (length xs))) e
    ∙ ap (λ rs. p.0 ∷ rs) (enough (length xs) (length p.2 + 1) p.1 p.2 between less (omega arith))

pub left_more : (s s2 : State) (xs ys : List ℕ) (f : Fields) → is_between s ≡ true → Reached default_config s xs (f ∷ []) s2 ys
    → (records_from_state s xs ≡ f ∷ records_from_state s2 ys) × (is_between s2 ≡ true)
unfolding Reached
left_more s s2 xs ys f b (p, e, is, ends) =
    let between : is_between p.1 ≡ true = subst (λ o. IfSome o (λ q. is_between q.1 ≡ true)) e (between_after s [] [] xs) in (
      left_next s xs p b e ∙ ap (λ g. g ∷ records_from_state p.1 p.2) (sym is) ∙ ap (λ t. f ∷ records_from_state t p.2) ends.0 ∙ ap (λ zs. f ∷ records_from_state s2 zs) ends.1,
      ap is_between (sym ends.0) ∙ between,
    )

pub left_none : (s : State) (xs : List ℕ) → next_record default_config s [] [] xs ≡ None → records_from_state s xs ≡ []
unfolding records_from
left_none s xs e = ap (λ n. records_from default_config n s xs) (add-one (length xs)) ∙ ap (records_next (records_from default_config (length xs))) e
