-- Each token of a text that may stand in a statement is spelled as a token that says the same.
use Rattle.std.proofs.Common.{◌≡◌, ◌⊎◌, inl, inr, ◌<◌, ◌≤◌, ℕ, zero, suc, ◌+◌, ◌-◌, ◌^◌, Bool, true, false, not, ◌==◌, ◌&&◌, ◌||◌, List, [], ◌∷◌, ◌++◌, None, Some, Option, length, refl, sym, ap, ◌∙◌, subst, arith, get_or, if◌then◌else◌, eqb-true, nat_le, nat_lt, length-append, pos}
use Rattle.std.specs.Fmt.{decimal}
use Rattle.std.specs.List.{list_all}
use Rattle.std.specs.Str.{IsUtf8, is_utf8}
use Rattle.std.proofs.lemmas.Bool.Decides.{nat_tests}
use Rattle.std.proofs.lemmas.Str.{IsUtf8-from_is_utf8}
use Rattle.grammar.specs.Derivation.{has}
use Rattle.vdb_base.specs.declared.value.Value.TheVariants as constant_value
use Rattle.sql_tokens.specs.declared.token.Kind.{Kind}
use Rattle.sql_tokens.specs.declared.token.Kind.TheVariants as kind
use Rattle.sql_tokens.specs.Bytes.{is_digit, is_letter, is_word, is_printable}
use Rattle.sql_tokens.specs.Parts.{inner, name_of, short, text_of}
use Rattle.sql_tokens.specs.Pieces.{piece, one}
use Rattle.sql_tokens.specs.Values as value
use Rattle.sql_tokens.specs.Values.{folded, single}
use Rattle.sql_tokens.specs.Words.{is_same, reserved, words}
use Rattle.sql_reader.specs.declared.tree.expr.Constant.{Constant}
use Rattle.sql_reader.specs.declared.tree.expr.Constant.TheVariants as constant
use Rattle.sql_reader.specs.Kinds.{kind_of, known_kind, free_kind, name_kind, word_kind}
use Rattle.sql_reader.specs.SoftWords.{soft, soft_words}
use Rattle.sql_reader.specs.Source.{or_empty, positive, negative, whole, whole_of, word_constant, constant_of}
use Rattle.sql_reader.specs.Symbols as symbol
use Rattle.sql_tokens.proofs.Alone.{IsSign, quotation, word_piece, numeral_piece, name_piece, string_piece, fraction_piece, open_sign, close_sign, comma_sign, dot_sign, semicolon_sign, equal_sign, not_equal_sign, less_sign, at_most_sign, greater_sign, at_least_sign, plus_sign, minus_sign, times_sign, join_sign}
use Rattle.sql_tokens.proofs.EachToken.{Quoted, inner_is, plain}
use Rattle.sql_tokens.proofs.TextParts.{quoted_text, undoubled_all, folded_text, printable_low}
use Rattle.sql_tokens.proofs.Utf8.{utf8_yes}
use Rattle.sql_printer.specs.Names.{constant_said}
use Rattle.sql_printer.specs.Said.{Said, Word, Named, Text, Number, Fraction}
use Rattle.sql_printer.specs.Spelled.{word_text, spell}
use Rattle.sql_printer.proofs.Saying.{names, constants, printed_kind}
use Rattle.sql_printer.proofs.Spelling.{both, either, all_below, below, folded_twice, length_folded, same_folded, same_as, IsPlaced, placed, printable_word, printable_folded, printable_quotation, quoted_same, IsNumeralOf, numeral_of}

-- what a token of this kind and with these bytes says
abbrev pub said_at : Kind → List ℕ → Said
said_at k b =
    if has names (kind_of k b) then Named (or_empty (name_of k b))
    else if has constants (kind_of k b) then constant_said (constant_of k b) (whole_of k b)
    else Word (kind_of k b)

-- another says the same
pub record Alike (k : Kind) (b : List ℕ) (k' : Kind) (b' : List ℕ) : Type 0 where
  pub is_kind : kind_of k' b' ≡ printed_kind (kind_of k b)
  pub is_name : has names (kind_of k b) ≡ true → or_empty (name_of k' b') ≡ or_empty (name_of k b)
  pub is_constant : has constants (kind_of k b) ≡ true → constant_of k' b' ≡ constant_of k b
  pub is_whole : has constants (kind_of k b) ≡ true → whole_of k' b' ≡ whole_of k b
  pub is_negative : kind_of k b ≡ symbol.NUMERAL → negative (value.decimal 0 b') ≡ negative (value.decimal 0 b)

-- what it says is spelled as one
pub record Spells (k : Kind) (b : List ℕ) : Type 0 where
  pub again : Kind
  pub some : 0 < length (spell (said_at k b))
  pub is_piece : (rest : List ℕ) → piece (spell (said_at k b) ++ 32 ∷ rest) ≡ one again (length (spell (said_at k b)))
  pub alike : Alike k b again (spell (said_at k b))

pub record SpellsAs (k : Kind) (b : List ℕ) (again : Kind) (text : List ℕ) : Type 0 where
  pub some : 0 < length text
  pub is_piece : (rest : List ℕ) → piece (text ++ 32 ∷ rest) ≡ one again (length text)
  pub alike : Alike k b again text

pub spells : (k : Kind) (b : List ℕ) (again : Kind) (text : List ℕ) → spell (said_at k b) ≡ text → SpellsAs k b again text → Spells k b
spells k b again text is way = record { again = again; some = rw is way.some; is_piece = λ rest. rw is (way.is_piece rest); alike = rw is way.alike }

-- signs

record IsSignKind (k : Kind) (n : ℕ) : Type 0 where
  is : (b : List ℕ) → kind_of k b ≡ n
  no_name : has names n ≡ false
  no_constant : has constants n ≡ false
  no_numeral : n ≡ symbol.NUMERAL → ⊥
  some : 0 < length (word_text n)
  sign : IsSign k (word_text n)

pub never : {A : Type 0} (b : Bool) → b ≡ false → b ≡ true → A
never true is_false is_true = absurd (cc is_false)
never false is_false is_true = absurd (cc is_true)

sign_spells : (k : Kind) (n : ℕ) → IsSignKind k n → (b : List ℕ) → Spells k b
sign_spells k n s b =
    let is : kind_of k b ≡ n = s.is b in
    let said : spell (said_at k b) ≡ word_text n = rw (is, s.no_name, s.no_constant) refl in
    spells k b k (word_text n) said (record {
      some = s.some;
      is_piece = s.sign;
      alike = record {
        is_kind = let again : kind_of k (word_text n) ≡ n = s.is (word_text n) in rw (is, again, s.no_name) refl;
        is_name = λ h. never (has names n) s.no_name (sym (ap (has names) is) ∙ h);
        is_constant = λ h. never (has constants n) s.no_constant (sym (ap (has constants) is) ∙ h);
        is_whole = λ h. never (has constants n) s.no_constant (sym (ap (has constants) is) ∙ h);
        is_negative = λ h. absurd (s.no_numeral (sym is ∙ h));
      };
    })

pub open_spells : (b : List ℕ) → Spells kind.Open b
open_spells = sign_spells kind.Open 64 (record { is = λ b. refl; no_name = refl; no_constant = refl; no_numeral = λ h. cc; some = omega arith; sign = open_sign })

pub close_spells : (b : List ℕ) → Spells kind.Close b
close_spells = sign_spells kind.Close 65 (record { is = λ b. refl; no_name = refl; no_constant = refl; no_numeral = λ h. cc; some = omega arith; sign = close_sign })

pub comma_spells : (b : List ℕ) → Spells kind.Comma b
comma_spells = sign_spells kind.Comma 66 (record { is = λ b. refl; no_name = refl; no_constant = refl; no_numeral = λ h. cc; some = omega arith; sign = comma_sign })

pub dot_spells : (b : List ℕ) → Spells kind.Dot b
dot_spells = sign_spells kind.Dot 67 (record { is = λ b. refl; no_name = refl; no_constant = refl; no_numeral = λ h. cc; some = omega arith; sign = dot_sign })

pub semicolon_spells : (b : List ℕ) → Spells kind.Semicolon b
semicolon_spells = sign_spells kind.Semicolon 68 (record { is = λ b. refl; no_name = refl; no_constant = refl; no_numeral = λ h. cc; some = omega arith; sign = semicolon_sign })

pub equal_spells : (b : List ℕ) → Spells kind.Equal b
equal_spells = sign_spells kind.Equal 69 (record { is = λ b. refl; no_name = refl; no_constant = refl; no_numeral = λ h. cc; some = omega arith; sign = equal_sign })

pub not_equal_spells : (b : List ℕ) → Spells kind.NotEqual b
not_equal_spells = sign_spells kind.NotEqual 70 (record { is = λ b. refl; no_name = refl; no_constant = refl; no_numeral = λ h. cc; some = omega arith; sign = not_equal_sign })

pub less_spells : (b : List ℕ) → Spells kind.Less b
less_spells = sign_spells kind.Less 71 (record { is = λ b. refl; no_name = refl; no_constant = refl; no_numeral = λ h. cc; some = omega arith; sign = less_sign })

pub at_most_spells : (b : List ℕ) → Spells kind.AtMost b
at_most_spells = sign_spells kind.AtMost 72 (record { is = λ b. refl; no_name = refl; no_constant = refl; no_numeral = λ h. cc; some = omega arith; sign = at_most_sign })

pub greater_spells : (b : List ℕ) → Spells kind.Greater b
greater_spells = sign_spells kind.Greater 73 (record { is = λ b. refl; no_name = refl; no_constant = refl; no_numeral = λ h. cc; some = omega arith; sign = greater_sign })

pub at_least_spells : (b : List ℕ) → Spells kind.AtLeast b
at_least_spells = sign_spells kind.AtLeast 74 (record { is = λ b. refl; no_name = refl; no_constant = refl; no_numeral = λ h. cc; some = omega arith; sign = at_least_sign })

pub plus_spells : (b : List ℕ) → Spells kind.Plus b
plus_spells = sign_spells kind.Plus 75 (record { is = λ b. refl; no_name = refl; no_constant = refl; no_numeral = λ h. cc; some = omega arith; sign = plus_sign })

pub minus_spells : (b : List ℕ) → Spells kind.Minus b
minus_spells = sign_spells kind.Minus 76 (record { is = λ b. refl; no_name = refl; no_constant = refl; no_numeral = λ h. cc; some = omega arith; sign = minus_sign })

pub times_spells : (b : List ℕ) → Spells kind.Times b
times_spells = sign_spells kind.Times 77 (record { is = λ b. refl; no_name = refl; no_constant = refl; no_numeral = λ h. cc; some = omega arith; sign = times_sign })

pub join_spells : (b : List ℕ) → Spells kind.Join b
join_spells = sign_spells kind.Join 78 (record { is = λ b. refl; no_name = refl; no_constant = refl; no_numeral = λ h. cc; some = omega arith; sign = join_sign })

-- fractions and strings

pub fraction_spells : (b : List ℕ) → Spells kind.Fraction b
fraction_spells b = spells kind.Fraction b kind.Fraction (48 ∷ 46 ∷ 53 ∷ []) refl (record {
  some = omega arith;
  is_piece = fraction_piece;
  alike = record { is_kind = refl; is_name = λ h. cc; is_constant = λ h. refl; is_whole = λ h. refl; is_negative = λ h. cc };
})

pub string_spells : (b : List ℕ) → Quoted 39 b → is_utf8 b ≡ true → Spells kind.Text b
string_spells b w e =
    let inside : single 39 false (inner b) ≡ w.body = inner_is 39 b w in
    let whole_text : is_utf8 (quotation 39 w.body) ≡ true = subst (λ x. is_utf8 x ≡ true) w.is e in
    let body_text : is_utf8 w.body ≡ true = utf8_yes w.body (quoted_text 39 (omega arith) w.body (IsUtf8-from_is_utf8 (quotation 39 w.body) whole_text)) in
    let said_body : or_empty (text_of (single 39 false (inner b))) ≡ w.body = rw (inside, body_text) refl in
    let said : spell (said_at kind.Text b) ≡ quotation 39 w.body = ap (λ x. spell (Text x)) said_body ∙ quoted_same 39 w.body in
    spells kind.Text b kind.Text (quotation 39 w.body) said (record {
      some = omega arith;
      is_piece = λ rest. string_piece w.body rest whole_text;
      alike = record {
        is_kind = refl;
        is_name = λ h. cc;
        is_constant = λ h. ap (constant_of kind.Text) (sym w.is);
        is_whole = λ h. refl;
        is_negative = λ h. cc;
      };
    })

-- numerals

number_said : (n m : ℕ) → constant_said (positive n) m ≡ Number m
number_said n m = at (nat_lt n (2 ^ 127))
  where
    at : (c : Bool) → constant_said (if c then constant.Value (constant_value.Num (pos n)) else constant.TooLong) m ≡ Number m
    at true = refl
    at false = refl

record IsShort (n : ℕ) : Type 0 where
  short : whole n < 10 ^ 64
  positive_same : positive (whole n) ≡ positive n
  negative_same : negative (whole n) ≡ negative n
  whole_same : whole (whole n) ≡ whole n

is_short : (n : ℕ) → IsShort n
is_short n = at (nat_le n (2 ^ 127)) refl
  where
    at : (c : Bool) → nat_le n (2 ^ 127) ≡ c → IsShort n
    at true e =
        let same : whole n ≡ n = rw e refl in
        let low : n ≤ 2 ^ 127 = grind (arith, nat_tests) in
        record { short = rw same (omega (arith, low)); positive_same = ap positive same; negative_same = ap negative same; whole_same = ap whole same }
    at false e =
        let long : whole n ≡ 2 ^ 127 + 1 = rw e refl in
        let not_less : nat_lt n (2 ^ 127) ≡ false = grind (arith, nat_tests) in
        let no_positive : positive n ≡ constant.TooLong = rw not_less refl in
        let no_negative : negative n ≡ constant.TooLong = rw e refl in
        record { short = rw long (omega arith); positive_same = ap positive long ∙ sym no_positive; negative_same = ap negative long ∙ sym no_negative; whole_same = ap whole long ∙ sym long }

pub numeral_spells : (b : List ℕ) → Spells kind.Numeral b
numeral_spells b =
    let n = value.decimal 0 b in
    let s = is_short n in
    let d = numeral_of (whole n) s.short in
    spells kind.Numeral b kind.Numeral (decimal (whole n)) (ap spell (number_said n (whole n))) (record {
      some = d.some;
      is_piece = λ rest. numeral_piece (decimal (whole n)) rest d.some d.digits;
      alike = record {
        is_kind = refl;
        is_name = λ h. cc;
        is_constant = λ h. ap positive d.value ∙ s.positive_same;
        is_whole = λ h. ap whole d.value ∙ s.whole_same;
        is_negative = λ h. ap negative d.value ∙ s.negative_same;
      };
    })

-- names

pub record IsName (k : Kind) (b name : List ℕ) : Type 0 where
  pub named : has names (kind_of k b) ≡ true
  pub no_constant : has constants (kind_of k b) ≡ false
  pub no_numeral : kind_of k b ≡ symbol.NUMERAL → ⊥
  pub is : or_empty (name_of k b) ≡ name
  pub printable : list_all is_printable name ≡ true
  pub lower : folded name ≡ name
  pub some : nat_le 1 (length name) ≡ true
  pub few : nat_le (length name) 64 ≡ true

pub name_spells : (k : Kind) (b name : List ℕ) → IsName k b name → Spells k b
name_spells k b name n =
    let quote : Quoted 34 (quotation 34 name) = record { body = name; is = refl } in
    let inside : single 34 false (inner (quotation 34 name)) ≡ name = inner_is 34 (quotation 34 name) quote in
    let said : spell (said_at k b) ≡ quotation 34 name = rw (n.named, n.is) (quoted_same 34 name) in
    let low : folded (single 34 false (inner (quotation 34 name))) ≡ name = ap folded inside ∙ n.lower in
    let text : is_utf8 name ≡ true = utf8_yes name (subst IsUtf8 n.lower (folded_text is_printable printable_low name n.printable)) in
    let read : short name ≡ Some name = rw (n.some, n.few, text) refl in
    let one_kind : name_kind (length name) ≡ symbol.NAME = rw (n.some, n.few) refl in
    spells k b kind.Name (quotation 34 name) said (record {
      some = omega arith;
      is_piece = λ rest. name_piece name rest (printable_quotation name n.printable);
      alike = record {
        is_kind = ap (λ x. name_kind (length x)) inside ∙ one_kind ∙ sym (ap (λ c. if c then symbol.NAME else kind_of k b) n.named);
        is_name = λ h. ap (λ x. or_empty (short x)) low ∙ ap or_empty read ∙ sym n.is;
        is_constant = λ h. never (has constants (kind_of k b)) n.no_constant h;
        is_whole = λ h. never (has constants (kind_of k b)) n.no_constant h;
        is_negative = λ h. absurd (n.no_numeral h);
      };
    })
