-- Words: reserved ones are spelled as they are, and others as names.
use Rattle.std.proofs.Common.{◌≡◌, ◌⊎◌, inl, inr, ◌<◌, ◌≤◌, ℕ, zero, suc, ◌+◌, Bool, true, false, not, ◌==◌, ◌&&◌, ◌||◌, List, [], ◌∷◌, ◌++◌, None, Some, Option, length, refl, sym, ap, ◌∙◌, subst, arith, get_or, if◌then◌else◌, eqb-true, nat_le, nat_lt, length-append, codes}
use Rattle.std.specs.List.{list_all}
use Rattle.std.specs.Str.{IsUtf8, is_utf8}
use Rattle.std.proofs.lemmas.Bool.Decides.{nat_tests}
use Rattle.grammar.specs.Derivation.{has}
use Rattle.sql_tokens.specs.declared.token.Kind.{Kind}
use Rattle.sql_tokens.specs.declared.token.Kind.TheVariants as kind
use Rattle.sql_tokens.specs.Bytes.{is_letter, is_word, is_printable}
use Rattle.sql_tokens.specs.Parts.{inner, name_of, short, text_of}
use Rattle.sql_tokens.specs.Pieces.{piece, one}
use Rattle.sql_tokens.specs.Values.{folded, single}
use Rattle.sql_tokens.specs.Words.{is_same, place_of, reserved, words}
use Rattle.sql_reader.specs.Kinds.{kind_of, known_kind, free_kind, name_kind, word_kind}
use Rattle.sql_reader.specs.SoftWords.{soft, soft_words}
use Rattle.sql_reader.specs.Source.{or_empty, word_constant, constant_of}
use Rattle.sql_reader.specs.Symbols as symbol
use Rattle.sql_tokens.proofs.Alone.{word_piece}
use Rattle.sql_tokens.proofs.EachToken.{Quoted, inner_is}
use Rattle.sql_tokens.proofs.TextParts.{undoubled_all, folded_text, printable_low}
use Rattle.sql_tokens.proofs.Utf8.{utf8_yes}
use Rattle.sql_printer.specs.Names.{constant_said}
use Rattle.sql_printer.specs.Said.{Said, Word}
use Rattle.sql_printer.specs.Spelled.{word_text, spell}
use Rattle.sql_printer.proofs.Alike.{said_at, Spells, SpellsAs, spells, IsName, name_spells, never}
use Rattle.sql_printer.proofs.Saying.{names, constants, printed_kind}
use Rattle.sql_printer.proofs.Spelling.{both, either, all_below, below, folded_twice, length_folded, same_folded, same_as, IsPlaced, placed, printable_word, printable_folded}

-- a letter, and bytes of words
abbrev lettered : List ℕ → Bool
lettered [] = false
lettered (b ∷ bs) = is_letter b && list_all is_word (b ∷ bs)

abbrev is_at : Option ℕ → ℕ → Bool
is_at None i = false
is_at (Some j) i = j == i

at_is : (o : Option ℕ) (i : ℕ) → is_at o i ≡ true → o ≡ Some i
at_is None i e = absurd (cc e)
at_is (Some j) i e = ap Some (eqb-true j i e)

-- what is computed of each reserved word
abbrev reserved_test : ℕ → Bool
reserved_test i = (lettered (word_text i) && is_at (reserved (word_text i)) i) && (not (has names i) && (not (has constants i) || (i == 52 || (i == 21 || i == 39))))

all_reserved : all_below 59 reserved_test ≡ true
unfolding reserved
all_reserved = refl

-- and of each word that the grammars know
abbrev soft_test : ℕ → Bool
soft_test j = (nat_le 1 (length (get_or soft_words j [])) && nat_le (length (get_or soft_words j [])) 64)
    && (has names (448 + j) && (not (has constants (448 + j)) && not (448 + j == 61)))

all_soft : all_below 28 soft_test ≡ true
all_soft = refl

not_is : (b : Bool) → not b ≡ true → b ≡ false
not_is true e = absurd (cc e)
not_is false e = refl

-- a reserved word

lettered_piece : (w rest : List ℕ) → lettered w ≡ true → piece (w ++ 32 ∷ rest) ≡ one kind.Word (length w)
lettered_piece [] rest e = absurd (cc e)
lettered_piece (b ∷ bs) rest e = let c = both (is_letter b) (list_all is_word (b ∷ bs)) e in word_piece b bs rest c.0 c.1

lettered_some : (w : List ℕ) → lettered w ≡ true → 0 < length w
lettered_some [] e = absurd (cc e)
lettered_some (b ∷ bs) e = omega arith

reserved_text : (i : ℕ) → i < 59 → word_text i ≡ get_or words i []
reserved_text i less = let low : nat_lt i 64 ≡ true = grind (arith, nat_tests) in rw low refl

constant_is : (i : ℕ) → has constants i ≡ true → (not (has constants i) || (i == 52 || (i == 21 || i == 39))) ≡ true
    → constant_said (word_constant (word_text i)) 0 ≡ Word i
constant_is i is test = elim (either (not (has constants i)) (i == 52 || (i == 21 || i == 39)) test) [
  | inl none ↦ never (has constants i) (not_is (has constants i) none) is
  | inr some ↦ elim (either (i == 52) (i == 21 || i == 39) some) [
    | inl e ↦ subst (λ j. constant_said (word_constant (word_text j)) 0 ≡ Word j) (sym (eqb-true i 52 e)) refl
    | inr more ↦ elim (either (i == 21) (i == 39) more) [
      | inl e ↦ subst (λ j. constant_said (word_constant (word_text j)) 0 ≡ Word j) (sym (eqb-true i 21 e)) refl
      | inr e ↦ subst (λ j. constant_said (word_constant (word_text j)) 0 ≡ Word j) (sym (eqb-true i 39 e)) refl
    ]
  ]
]

same_constant : (b w : List ℕ) → is_same b w ≡ true → word_constant b ≡ word_constant w
same_constant b w e = let yes = same_as b w (codes "true") e in let no = same_as b w (codes "false") e in rw (yes, no) refl

reserved_placed : (b : List ℕ) (i : ℕ) → reserved b ≡ Some i → IsPlaced b words i
unfolding reserved
reserved_placed b i e = placed b words i e

reserved_spells : (b : List ℕ) (i : ℕ) → reserved b ≡ Some i → Spells kind.Word b
reserved_spells b i e = at (reserved_placed b i e)
  where
    numeral : {A : Type 0} → kind_of kind.Word b ≡ i → i < 59 → kind_of kind.Word b ≡ symbol.NUMERAL → A
    numeral is less h = absurd (omega (arith, is, h))

    says : (i : ℕ) → kind_of kind.Word b ≡ i → has names i ≡ false → word_constant b ≡ word_constant (word_text i)
        → (not (has constants i) || (i == 52 || (i == 21 || i == 39))) ≡ true → said_at kind.Word b ≡ Word i
    says i is no_name constant test = rw (is, no_name) (at_constant (has constants i) refl)
      where
        at_constant : (c : Bool) → has constants i ≡ c → (if c then constant_said (word_constant b) 0 else Word i) ≡ Word i
        at_constant true e = rw constant (constant_is i e test)
        at_constant false e = refl

    at : IsPlaced b words i → Spells kind.Word b
    at p =
        let less : i < 59 = p.within in
        let test = below 59 i reserved_test all_reserved less in
        let c = both (lettered (word_text i) && is_at (reserved (word_text i)) i) (not (has names i) && (not (has constants i) || (i == 52 || (i == 21 || i == 39)))) test in
        let word = both (lettered (word_text i)) (is_at (reserved (word_text i)) i) c.0 in
        let kinds = both (not (has names i)) (not (has constants i) || (i == 52 || (i == 21 || i == 39))) c.1 in
        let no_name : has names i ≡ false = not_is (has names i) kinds.0 in
        let again : reserved (word_text i) ≡ Some i = at_is (reserved (word_text i)) i word.1 in
        let same : is_same b (word_text i) ≡ true = rw (reserved_text i less) p.is in
        let is : kind_of kind.Word b ≡ i = rw e refl in
        let constant : word_constant b ≡ word_constant (word_text i) = same_constant b (word_text i) same in
        let said : said_at kind.Word b ≡ Word i = says i is no_name constant kinds.1 in
        spells kind.Word b kind.Word (word_text i) (ap spell said) (record {
          some = lettered_some (word_text i) word.0;
          is_piece = λ rest. lettered_piece (word_text i) rest word.0;
          alike = record {
            is_kind = rw (is, again, no_name) refl;
            is_name = λ h. never (has names i) no_name (sym (ap (has names) is) ∙ h);
            is_constant = λ h. sym constant;
            is_whole = λ h. refl;
            is_negative = λ h. numeral is less h;
          };
        })

-- other words, and names in quotes

word_name : (b : List ℕ) → reserved b ≡ None → list_all is_word b ≡ true → nat_le 1 (length b) ≡ true → nat_le (length b) 64 ≡ true
    → or_empty (name_of kind.Word b) ≡ folded b
word_name b none all some few =
    let printable : list_all is_printable b ≡ true = printable_word b all in
    let text : is_utf8 (folded b) ≡ true = utf8_yes (folded b) (folded_text is_printable printable_low b printable) in
    rw (none, length_folded b, some, few, text) refl

free_name : (b : List ℕ) → reserved b ≡ None → list_all is_word b ≡ true → nat_le 1 (length b) ≡ true → nat_le (length b) 64 ≡ true
    → has names (kind_of kind.Word b) ≡ true → has constants (kind_of kind.Word b) ≡ false → (kind_of kind.Word b ≡ symbol.NUMERAL → ⊥)
    → IsName kind.Word b (folded b)
free_name b none all some few named no_constant no_numeral = record {
  named = named;
  no_constant = no_constant;
  no_numeral = no_numeral;
  is = word_name b none all some few;
  printable = printable_folded b (printable_word b all);
  lower = folded_twice b;
  some = rw (length_folded b) some;
  few = rw (length_folded b) few;
}

-- a name's length, where it stands somewhere
record IsLength (n : ℕ) : Type 0 where
  some : nat_le 1 n ≡ true
  few : nat_le n 64 ≡ true

stands : (n : ℕ) → (name_kind n ≡ symbol.NOWHERE → ⊥) → IsLength n
stands n h = at (nat_le 1 n) (nat_le n 64) refl refl
  where
    at : (c d : Bool) → nat_le 1 n ≡ c → nat_le n 64 ≡ d → IsLength n
    at true true e f = record { some = e; few = f }
    at true false e f = absurd (h (rw (e, f) refl))
    at false d e f = absurd (h (rw e refl))

soft_placed : (b : List ℕ) (j : ℕ) → soft b ≡ Some j → IsPlaced b soft_words j
unfolding soft
soft_placed b j e = placed b soft_words j e

soft_spells : (b : List ℕ) (j : ℕ) → reserved b ≡ None → soft b ≡ Some j → list_all is_word b ≡ true → Spells kind.Word b
soft_spells b j none e all = at (soft_placed b j e)
  where
    at : IsPlaced b soft_words j → Spells kind.Word b
    at p =
        let less : j < 28 = p.within in
        let test = below 28 j soft_test all_soft less in
        let c = both (nat_le 1 (length (get_or soft_words j [])) && nat_le (length (get_or soft_words j [])) 64) (has names (448 + j) && (not (has constants (448 + j)) && not (448 + j == 61))) test in
        let size = both (nat_le 1 (length (get_or soft_words j []))) (nat_le (length (get_or soft_words j [])) 64) c.0 in
        let kinds = both (has names (448 + j)) (not (has constants (448 + j)) && not (448 + j == 61)) c.1 in
        let others = both (not (has constants (448 + j))) (not (448 + j == 61)) kinds.1 in
        let long : length b ≡ length (get_or soft_words j []) = sym (length_folded b) ∙ ap length (same_folded b (get_or soft_words j []) p.is) in
        let is : kind_of kind.Word b ≡ 448 + j = rw (none, e) refl in
        let no_numeral : kind_of kind.Word b ≡ symbol.NUMERAL → ⊥ = λ h. omega (arith, is, h) in
        name_spells kind.Word b (folded b) (free_name b none all (rw long size.0) (rw long size.1)
        (rw is kinds.0) (rw is (not_is (has constants (448 + j)) others.0)) no_numeral)

plain_spells : (b : List ℕ) → reserved b ≡ None → soft b ≡ None → list_all is_word b ≡ true → (kind_of kind.Word b ≡ symbol.NOWHERE → ⊥) → Spells kind.Word b
plain_spells b none no_soft all somewhere =
    let is : kind_of kind.Word b ≡ name_kind (length b) = rw (none, no_soft) refl in
    let size = stands (length b) (λ h. somewhere (is ∙ h)) in
    let name : name_kind (length b) ≡ symbol.NAME = rw (size.some, size.few) refl in
    let all_is : kind_of kind.Word b ≡ symbol.NAME = is ∙ name in
    name_spells kind.Word b (folded b) (free_name b none all size.some size.few (rw all_is refl) (rw all_is refl) (λ h. omega (arith, all_is, h)))

pub word_spells : (b : List ℕ) → list_all is_word b ≡ true → (kind_of kind.Word b ≡ symbol.NOWHERE → ⊥) → Spells kind.Word b
word_spells b all somewhere = at (reserved b) (soft b) refl refl
  where
    at : (o p : Option ℕ) → reserved b ≡ o → soft b ≡ p → Spells kind.Word b
    at (Some i) p e f = reserved_spells b i e
    at None (Some j) e f = soft_spells b j e f all
    at None None e f = plain_spells b e f all somewhere

pub quoted_spells : (b : List ℕ) → Quoted 34 b → list_all is_printable b ≡ true → (kind_of kind.Name b ≡ symbol.NOWHERE → ⊥) → Spells kind.Name b
quoted_spells b w e somewhere =
    let inside : single 34 false (inner b) ≡ w.body = inner_is 34 b w in
    let size = stands (length (single 34 false (inner b))) somewhere in
    let name : kind_of kind.Name b ≡ symbol.NAME = rw (size.some, size.few) refl in
    let printable : list_all is_printable w.body ≡ true = undoubled_all is_printable 34 w.body (34 ∷ []) (sym (ap (list_all is_printable) w.is) ∙ e) in
    let text : is_utf8 (folded w.body) ≡ true = utf8_yes (folded w.body) (folded_text is_printable printable_low w.body printable) in
    let some : nat_le 1 (length w.body) ≡ true = subst (λ x. nat_le 1 (length x) ≡ true) inside size.some in
    let few : nat_le (length w.body) 64 ≡ true = subst (λ x. nat_le (length x) 64 ≡ true) inside size.few in
    name_spells kind.Name b (folded w.body) (record {
      named = rw name refl;
      no_constant = rw name refl;
      no_numeral = λ h. omega (arith, name, h);
      is = rw (inside, length_folded w.body, some, few, text) refl;
      printable = printable_folded w.body printable;
      lower = folded_twice w.body;
      some = rw (length_folded w.body) some;
      few = rw (length_folded w.body) few;
    })
