-- The items of a text in turn, and its one first fault.
use Rattle.std.proofs.Common.{ℕ, zero, suc, true, false, List, [], ◌∷◌, ◌++◌, ◌+◌, ◌-◌, ◌≡◌, ◌≤◌, ◌<◌, length, take, drop, refl, sym, ◌∙◌, ap, subst, append_assoc, length-drop, min, inl, inr, nat_lt, arith}
use Rattle.std.specs.Prelude.{slice_get}
use Rattle.std.specs.List.{All}
use Rattle.std.proofs.lemmas.Bool.{cases_Bool, ltb-true, ltb-false}
use Rattle.std.proofs.lemmas.List.Elements.{All-drop}
use Rattle.grammar.specs.declared.machine.Event.{Event}
use Rattle.grammar.specs.Reading.{IsFront, IsNone, IsReading, AtSyntax}
use Rattle.grammar.specs.Table.{Rules}
use Rattle.grammar.specs.declared.fault.ReadFault.{ReadFault}
use Rattle.grammar.specs.declared.fault.ReadFault.TheVariants.{Syntax}
use Rattle.grammar.proofs.Runs.{one_front, one_reading}
use Rattle.sql_tokens.specs.declared.token.Token.{Token}
use Rattle.sql_reader.specs.Kinds.{kinds_of}
use Rattle.sql_reader.specs.Source.{Source}
use Rattle.sql_tokens.specs.Tokens.{IsWithin, tokens_from}
use Rattle.sql_reader.specs.Trees.{kinds, place_of, start_or, source_of}
use Rattle.sql_reader.specs.Trees as trees
use Rattle.sql_reader.specs.declared.read.ReadFault as sql
use Rattle.sql_reader.specs.declared.read.ReadFault.TheVariants as fault
use Rattle.vdb_ddl.specs.declared.tree.Item.{Item}
use Rattle.vdb_ddl.specs.Build.{build}
use Rattle.vdb_ddl.specs.Items.{after, ends_at, IsItem, IsNoItem, IsItems, no_more, and_then, IsFault, no_item, no_end, later, IsRefused, at_fault, at_limit, max_bytes}
use Rattle.vdb_ddl.specs.Steps.{IsAdded, IsNext}
use Rattle.vdb_ddl.specs.Laws.{ItemsAlone, FaultAlone, NeverBoth}
use Rattle.vdb_ddl.specs.Symbols.{DDL_ITEM_RULE}
use Rattle.vdb_ddl.specs.Table.{table}
use Rattle.vdb_ddl.specs.Waiting.{Waiting, none}

-- the kinds of tokens from a number on
kinds_drop : (text : List ℕ) (ts : List Token) (n : ℕ) → kinds_of text (drop n ts) ≡ drop n (kinds_of text ts)
kinds_drop text ts zero = refl
kinds_drop text [] (suc n) = refl
kinds_drop text (t ∷ ts) (suc n) = kinds_drop text ts n

pub kinds_after : (text : List ℕ) (ts us : List Token) (ks js : List ℕ) (n : ℕ) → ks ≡ kinds_of text ts → us ≡ drop n ts → js ≡ drop n ks → js ≡ kinds_of text us
kinds_after text ts us ks js n k u j = rw (j, k, u) (sym (kinds_drop text ts n))

-- Two items at the front of a text are one.
same_count : (s : Source) (a b : Item) (m n : ℕ) → IsItem s a m → IsItem s b n → m ≡ n
same_count s a b m n f g = one_front table DDL_ITEM_RULE (kinds s) m n f.longest g.longest

item_is : (a b : Item) → (let v : Waiting = record none { items = a ∷ [] } in v) ≡ record none { items = b ∷ [] } → a ≡ b
item_is a b e = let h : a ∷ [] ≡ b ∷ [] = ap (λ (w : Waiting). w.items) e in cc

same_item : (s : Source) (a b : Item) (m n : ℕ) → IsItem s a m → IsItem s b n → a ≡ b
same_item s a b m n f g =
    let e = same_count s a b m n f g in
    let other : IsReading table DDL_ITEM_RULE (take m (kinds s)) g.log = subst (λ (k : ℕ). IsReading table DDL_ITEM_RULE (take k (kinds s)) g.log) (sym e) g.reading in
    let l : f.log ≡ g.log = one_reading table DDL_ITEM_RULE (take m (kinds s)) f.log g.log f.reading other in
    item_is a b (sym f.built ∙ ap (λ (log : List Event). build s log none) l ∙ g.built)

-- it isn't none
not_no_item : (s : Source) (a : Item) (m n : ℕ) → IsItem s a m → IsNoItem s n → ⊥
not_no_item s a m n f g =
    let e = one_front table DDL_ITEM_RULE (kinds s) m n f.longest g.longest in
    g.none f.log (subst (λ (k : ℕ). IsReading table DDL_ITEM_RULE (take k (kinds s)) f.log) e f.reading).sentence

-- it ends in one way
not_both_ends : (s : Source) (a b : Item) (m n : ℕ) → IsItem s a m → IsItem s b n → ends_at s m ≡ true → ends_at s n ≡ false → ⊥
not_both_ends s a b m n f g h k =
    let e : ends_at s m ≡ ends_at s n = ap (λ (i : ℕ). ends_at s i) (same_count s a b m n f g) in
    cc

-- a text with an item has a token
no_tokens : (s : Source) → s.tokens ≡ [] → 0 < length s.tokens → ⊥
no_tokens s e h = let k : length s.tokens ≡ 0 = ap (λ (ts : List Token). length ts) e in absurd (omega arith)

pub items_alone : ItemsAlone
items_alone s [] [] (no_more e) (no_more f) = refl
items_alone s [] (b ∷ ys) (no_more e) (and_then n g k u) = absurd (no_tokens s e g.some)
items_alone s (a ∷ xs) [] (and_then m f h t) (no_more e) = absurd (no_tokens s e f.some)
items_alone s (a ∷ xs) (b ∷ ys) (and_then m f h t) (and_then n g k u) =
    let c = same_count s a b m n f g in
    let i = same_item s a b m n f g in
    let r = items_alone (after (m + 1) s) xs ys t (subst (λ (j : ℕ). IsItems (after (j + 1) s) ys) (sym c) u) in
    cc

pub fault_alone : FaultAlone
fault_alone s at other (no_item m f p) (no_item n g q) =
    p ∙ ap (λ (i : ℕ). place_of s i) (one_front table DDL_ITEM_RULE (kinds s) m n f.longest g.longest) ∙ sym q
fault_alone s at other (no_item m f p) (no_end n b g k q) = absurd (not_no_item s b n m g f)
fault_alone s at other (no_item m f p) (later n b g k u) = absurd (not_no_item s b n m g f)
fault_alone s at other (no_end m a f h p) (no_item n g q) = absurd (not_no_item s a m n f g)
fault_alone s at other (no_end m a f h p) (no_end n b g k q) = p ∙ ap (λ (i : ℕ). place_of s i) (same_count s a b m n f g) ∙ sym q
fault_alone s at other (no_end m a f h p) (later n b g k u) = absurd (not_both_ends s b a n m g f k h)
fault_alone s at other (later m a f h t) (no_item n g q) = absurd (not_no_item s a m n f g)
fault_alone s at other (later m a f h t) (no_end n b g k q) = absurd (not_both_ends s a b m n f g h k)
fault_alone s at other (later m a f h t) (later n b g k u) =
    fault_alone (after (m + 1) s) at other t (subst (λ (j : ℕ). IsFault (after (j + 1) s) other) (sym (same_count s a b m n f g)) u)

pub never_both : NeverBoth
never_both s [] at (no_more e) (no_item n g q) = no_tokens s e g.some
never_both s [] at (no_more e) (no_end n b g k q) = no_tokens s e g.some
never_both s [] at (no_more e) (later n b g k u) = no_tokens s e g.some
never_both s (a ∷ xs) at (and_then m f h t) (no_item n g q) = not_no_item s a m n f g
never_both s (a ∷ xs) at (and_then m f h t) (no_end n b g k q) = not_both_ends s a b m n f g h k
never_both s (a ∷ xs) at (and_then m f h t) (later n b g k u) =
    never_both (after (m + 1) s) xs at t (subst (λ (j : ℕ). IsFault (after (j + 1) s) at) (sym (same_count s a b m n f g)) u)

-- What is left of a text, after these items: with items it is theirs with more, and its fault is the text's.
pub record Reaches (whole left : Source) (items : List Item) : Type 0 where
  pub all : (more : List Item) → IsItems left more → IsItems whole (items ++ more)
  pub fault : (at : ℕ) → IsFault left at → IsFault whole at

pub begins : (s : Source) → Reaches s s []
begins s = record { all = λ more h. h; fault = λ at h. h }

pub goes_on : (whole left rest : Source) (old new : List Item) → Reaches whole left old → IsNext left old new rest → Reaches whole rest new
goes_on whole left rest old new r n =
    let e : (more : List Item) → old ++ n.item ∷ more ≡ new ++ more = λ more. sym (ap (λ (xs : List Item). xs ++ more) n.added ∙ append_assoc old (n.item ∷ []) more) in
    record {
      all = λ more h. subst (λ (xs : List Item). IsItems whole xs) (e more) (r.all (n.item ∷ more) (and_then n.count n.is n.end (subst (λ (x : Source). IsItems x more) n.left h)));
      fault = λ at h. r.fault at (later n.count n.item n.is n.end (subst (λ (x : Source). IsFault x at) n.left h));
    }

append_nil : (xs : List Item) → xs ++ [] ≡ xs
append_nil [] = refl
append_nil (x ∷ xs) = ap (λ (ys : List Item). x ∷ ys) (append_nil xs)

is_empty : (ts : List Token) → length ts ≡ 0 → ts ≡ []
is_empty [] h = refl
is_empty (t ∷ ts) h = absurd (omega arith)

pub all_read : (whole left : Source) (items : List Item) → Reaches whole left items → length left.tokens ≡ 0 → IsItems whole items
all_read whole left items r e = subst (λ (xs : List Item). IsItems whole xs) (append_nil items) (r.all [] (no_more (is_empty left.tokens e)))

pub falls : (left rest : Source) (old new : List Item) → IsNext left old new rest → length rest.tokens < length left.tokens
falls left rest old new n =
    let e : length rest.tokens ≡ length left.tokens - (n.count + 1) = ap (λ (s : Source). length s.tokens) n.left ∙ length-drop (n.count + 1) left.tokens in
    let some = n.is.some in
    omega arith

-- A fault lies within its text, or at its end.
start_within : (size n : ℕ) (ts : List Token) → All (IsWithin size) ts → start_or size (slice_get ts n) ≤ size
start_within size n [] a = omega arith
start_within size zero (t ∷ ts) a = let w : IsWithin size t = a 0 t (omega arith) in let s = w.some in let e = w.within in omega arith
start_within size (suc n) (t ∷ ts) a = start_within size n ts (λ k d h. a (suc k) d (omega arith))

fault_within : (s : Source) (at : ℕ) → All (IsWithin (length s.text)) s.tokens → IsFault s at → at ≤ length s.text
fault_within s at w (no_item n g q) = rw q (start_within (length s.text) n s.tokens w)
fault_within s at w (no_end n b g k q) = rw q (start_within (length s.text) n s.tokens w)
fault_within s at w (later n b g k u) = fault_within (after (n + 1) s) at (All-drop (IsWithin (length s.text)) (n + 1) s.tokens w) u

-- where the front that the machine reads is no item
pub no_item_at : (g : Rules) (s : Source) (ks : List ℕ) (f : ReadFault) (token at : ℕ) → g ≡ table → ks ≡ kinds s → f ≡ Syntax token
    → AtSyntax f (IsFront g DDL_ITEM_RULE ks) → AtSyntax f (λ n. IsNone g DDL_ITEM_RULE (take n ks)) → 0 < length s.tokens → at ≡ place_of s token → IsFault s at
no_item_at g s ks f token at e k i front none some is =
    let l : IsFront g DDL_ITEM_RULE ks token = subst (λ (x : ReadFault). AtSyntax x (IsFront g DDL_ITEM_RULE ks)) i front in
    let n : IsNone g DDL_ITEM_RULE (take token ks) = subst (λ (x : ReadFault). AtSyntax x (λ m. IsNone g DDL_ITEM_RULE (take m ks))) i none in
    no_item token (record { some = some; longest = rw (sym e, sym k) l; none = rw (sym e, sym k) n }) is

-- and where it is one
pub item_at : (g : Rules) (s : Source) (ks : List ℕ) (log : List Event) (item : Item) (old new : List Item) (count : ℕ) → g ≡ table → ks ≡ kinds s
    → 0 < length s.tokens → IsFront g DDL_ITEM_RULE ks count → IsReading g DDL_ITEM_RULE (take count ks) log
    → build s log none ≡ record none { items = item ∷ [] } → new ≡ old ++ item ∷ [] → IsAdded s old new count
item_at g s ks log item old new count e k some front reading built added =
    record { item = item; is = record { some = some; log = log; longest = rw (sym e, sym k) front; reading = rw (sym e, sym k) reading; built = built }; added = added }

pub no_end_at : (s : Source) (old new : List Item) (count at : ℕ) → IsAdded s old new count → ends_at s count ≡ false → at ≡ place_of s count → IsFault s at
no_end_at s old new count at a e is = no_end count a.item a.is e is

pub next_at : (s rest : Source) (old new : List Item) (count : ℕ) → IsAdded s old new count → ends_at s count ≡ true → rest ≡ after (count + 1) s → IsNext s old new rest
next_at s rest old new count a e is = record { count = count; item = a.item; is = a.is; end = e; added = a.added; left = is }

text_of : (text : List ℕ) (ts : List Token) → ts ≡ tokens_from 0 text → (let s : Source = record { text = text; tokens = ts } in s) ≡ source_of text
text_of text ts e = ap (λ (us : List Token). let s : Source = record { text = text; tokens = us } in s) e

limited : (text : List ℕ) (at result : ℕ) → IsFault (source_of text) at → at ≤ length text → result ≡ min at max_bytes → IsRefused text result
limited text at result f w e = elim (cases_Bool (nat_lt max_bytes at)) [
  | inl b ↦
      let h : max_bytes < at = ltb-true max_bytes at b in
      at_limit (omega arith) (λ other g. let a = fault_alone (source_of text) at other f g in omega arith) (omega arith)
  | inr b ↦
      let h : at ≤ max_bytes = ltb-false max_bytes at b in
      let r : result ≡ at = omega arith in
      at_fault (subst (λ (n : ℕ). IsFault (source_of text) n) (sym r) f) (omega arith)
]

-- where a text with a fault is refused
pub refused : (text : List ℕ) (ts us : List Token) (f : sql.ReadFault) (at result : ℕ) → us ≡ ts → ts ≡ tokens_from 0 text → All (IsWithin (length text)) ts
    → f ≡ fault.Syntax at → trees.AtSyntax f (IsFault (record { text = text; tokens = us })) → result ≡ min at max_bytes → IsRefused text result
refused text ts us f at result e d w i g is =
    let s : Source = record { text = text; tokens = ts } in
    let h : IsFault (record { text = text; tokens = us }) at = subst (λ (x : sql.ReadFault). trees.AtSyntax x (IsFault (record { text = text; tokens = us }))) i g in
    let k : IsFault s at = subst (λ (xs : List Token). IsFault (record { text = text; tokens = xs }) at) e h in
    limited text at result (subst (λ (x : Source). IsFault x at) (text_of text ts d) k) (fault_within s at w k) is

-- and one that is too long
pub too_long : (text : List ℕ) (ts : List Token) (items : List Item) → ts ≡ tokens_from 0 text → IsItems (record { text = text; tokens = ts }) items
    → max_bytes < length text → IsRefused text max_bytes
too_long text ts items e i h =
    at_limit h (λ other g. absurd (never_both (source_of text) items other (subst (λ (s : Source). IsItems s items) (text_of text ts e) i) g)) refl
