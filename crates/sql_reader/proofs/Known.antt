-- The table of statements is well-formed, and what its reader says of a text is so of the text's tokens.
use Rattle.std.proofs.Common.{ℕ, zero, suc, Bool, true, List, [], ◌∷◌, ◌++◌, ◌+◌, ◌-◌, ◌≡◌, ◌≤◌, length, take, drop, refl, sym, ◌∙◌, ap, subst, arith, append_assoc}
use Rattle.grammar.specs.Reading.{AtSyntax, IsFront, IsNone}
use Rattle.grammar.specs.declared.fault.ReadFault.{ReadFault}
use Rattle.grammar.specs.declared.fault.ReadFault.TheVariants.{Syntax}
use Rattle.grammar.specs.Table.{Rules}
use Rattle.grammar.specs.WellFormed.{is_well_formed}
use Rattle.sql_reader.specs.Source.{Source}
use Rattle.sql_reader.specs.Symbols.{SET_ONLY_RULE}
use Rattle.sql_reader.specs.Table.{table, tokens, queries, statements, expressions}
use Rattle.sql_reader.specs.Kinds.{kinds_of}
use Rattle.sql_reader.specs.Trees.{IsFaultAt, IsNoFrontOf, kinds, part_of, place_of}
use Rattle.sql_tokens.specs.declared.token.Token.{Token}

table_known : is_well_formed table ≡ true
table_known = refl

pub known : (g : Rules) → g ≡ table → is_well_formed g ≡ true
known g e = rw e table_known

-- the parts of the table, one behind the other
pub in_turn : (a b c d x y z : Rules) → a ≡ tokens → x ≡ a ++ b → b ≡ queries → y ≡ x ++ c → c ≡ statements → z ≡ y ++ d → d ≡ expressions → z ≡ table
in_turn a b c d x y z ea ex eb ey ec ez ed =
    rw (ez, ey, ex, ea, eb, ec, ed) (append_assoc (tokens ++ queries) statements expressions ∙ append_assoc tokens queries (statements ++ expressions))

pub fault_at : (g : Rules) (s : Source) (start token at : ℕ) (ks : List ℕ) → g ≡ table → ks ≡ kinds s
    → IsFront g start ks token → IsNone g start ks → at ≡ place_of s token → IsFaultAt s start at
fault_at g s start token at ks e f front none is =
    record { token = token; front = rw (sym e, sym f) front; none = rw (sym e, sym f) none; place = is }

length_take_at_most : {A : Type 0} (n : ℕ) (xs : List A) → length (take n xs) ≤ n
length_take_at_most zero xs = omega arith
length_take_at_most (suc n) [] = omega arith
length_take_at_most (suc n) (x ∷ xs) = let h = length_take_at_most n xs in omega arith

pub as_many : (text : List ℕ) (ts : List Token) → length (kinds_of text ts) ≡ length ts
as_many text [] = refl
as_many text (t ∷ ts) = ap (λ (n : ℕ). suc n) (as_many text ts)

-- a front's end is within the tokens
pub front_within : (text : List ℕ) (tokens : List Token) (from until at : ℕ) (part : Source) → from ≤ until → until ≤ length tokens
    → part ≡ part_of (record { text = text; tokens = tokens }) from until → IsFront table SET_ONLY_RULE (kinds part) at → from + at ≤ until
front_within text tokens from until at part o w p f =
    let e : length (kinds part) ≡ length part.tokens = as_many part.text part.tokens in
    let t : length part.tokens ≤ until - from = rw p (length_take_at_most (until - from) (drop from tokens)) in
    let h = f.within in
    omega arith

-- the tokens of a part
pub same_part : (text : List ℕ) (ts a b x : List Token) (from until : ℕ) → x ≡ take (until - from) b → b ≡ drop from a → a ≡ ts
    → (let part : Source = record { text = text; tokens = x } in part) ≡ part_of (record { text = text; tokens = ts }) from until
same_part text ts a b x from until e f g = rw (e, f, g) refl

pub no_front : (g : Rules) (left part : Source) (start token at : ℕ) (ks : List ℕ) → g ≡ table → ks ≡ kinds part → start ≡ SET_ONLY_RULE
    → IsFront g start ks token → IsNone g start (take token ks) → at ≡ place_of left token → IsNoFrontOf left part at
no_front g left part start token at ks e f r front none is =
    record { count = token; longest = rw (sym e, sym f, sym r) front; none = rw (sym e, sym f, sym r) none; place = is }

-- what a fault says of its place
pub at_place : (f : ReadFault) (token : ℕ) (P : ℕ → Type 0) → f ≡ Syntax token → AtSyntax f P → P token
at_place f token P e h = subst (λ (x : ReadFault). AtSyntax x P) e h
