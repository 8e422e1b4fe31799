-- Tables by which the next token, or the text's end, tells which alternative to take: a text has one log.
use Rattle.std.specs.Prelude.{ℕ, Bool, true, false, not, List, [], ◌∷◌, ◌++◌, ◌+◌, ◌≡◌, ◌&&◌, ◌||◌, if◌then◌else◌, map, slice_index_or}
use Rattle.std.specs.List.{filter, list_all}
use Rattle.grammar.specs.declared.table.Item.{Item}
use Rattle.grammar.specs.declared.machine.Event.{Event}
use Rattle.grammar.specs.Table.{Rules, Shape, Token, Action, Unless, Choice, rule_of}
use Rattle.grammar.specs.Derivation.{has}
use Rattle.grammar.specs.Reading.{IsSentence}
use Rattle.grammar.specs.Weights.{all_solid}

-- what may come next: a token of some kinds, and the text's end
pub record Lookahead : Type 0 where
  pub kinds : List ℕ
  pub at_end : Bool

-- What the table's author knows of a rule: the kinds with which a text of it may begin, and what may come after one. They
-- may be more than there are: the test shows that none is missing.
pub record FirstFollow : Type 0 where
  pub first : List ℕ
  pub follow : Lookahead

-- of each rule, by its number; nothing need be known of a symbol that is no rule
abbrev pub Certificate : Type 0
Certificate = List FirstFollow

-- tokens, and not the end
abbrev pub only : List ℕ → Lookahead
only kinds = record { kinds = kinds; at_end = false }

abbrev pub unknown : FirstFollow
unknown = record { first = []; follow = only [] }

abbrev pub first_of : Certificate → ℕ → List ℕ
first_of c n = (slice_index_or c n unknown).first

abbrev pub follow_of : Certificate → ℕ → Lookahead
follow_of c n = (slice_index_or c n unknown).follow

-- what may begin a symbol and then the rest
abbrev pub begin_with : List ℕ → Shape → Lookahead → Lookahead
begin_with first (Token kinds) rest = only kinds
begin_with first Action rest = rest
begin_with first (Unless kinds) rest = record { kinds = filter (λ k. not (has kinds k)) rest.kinds; at_end = rest.at_end }
begin_with first (Choice weight solid rank ps) rest = if solid then only first else record { kinds = first ++ rest.kinds; at_end = rest.at_end }

-- what may begin an alternative and then the rest
abbrev pub begins : Rules → Certificate → List Item → Lookahead → Lookahead
begins g c [] rest = rest
begins g c (i ∷ is) rest = begin_with (first_of c i.symbol) (rule_of g i.symbol) (begins g c is rest)

-- the outer has all that the inner has
abbrev pub covers : Lookahead → Lookahead → Bool
covers outer inner = list_all (has outer.kinds) inner.kinds && (outer.at_end || not inner.at_end)

-- nothing is in both
abbrev pub is_apart : Lookahead → Lookahead → Bool
is_apart x y = list_all (λ k. not (has y.kinds k)) x.kinds && not (x.at_end && y.at_end)

abbrev pub all_apart : List Lookahead → Bool
all_apart [] = true
all_apart (x ∷ xs) = list_all (is_apart x) xs && all_apart xs

abbrev pub is_rule : Shape → Bool
is_rule (Token kinds) = false
is_rule Action = false
is_rule (Unless kinds) = false
is_rule (Choice weight solid rank ps) = true

-- Of each rule in an alternative it is known what may come after it there, where the rest may come after the alternative.
abbrev pub has_follow : Rules → Certificate → Lookahead → List Item → Bool
has_follow g c rest [] = true
has_follow g c rest (i ∷ is) = (not (is_rule (rule_of g i.symbol)) || covers (follow_of c i.symbol) (begins g c is rest)) && has_follow g c rest is

-- A rule by its number: each alternative reads a token if the rule is solid, begins as is known of the rule, and has rules
-- that are followed as is known of them; and no two begin alike.
abbrev pub predicts : Rules → Certificate → ℕ → Shape → Bool
predicts g c n (Token kinds) = true
predicts g c n Action = true
predicts g c n (Unless kinds) = true
predicts g c n (Choice weight solid rank ps) =
    (not solid || all_solid g ps) &&
    (list_all (λ p. covers (only (first_of c n)) (begins g c p (only []))) ps &&
    (list_all (has_follow g c (follow_of c n)) ps &&
    all_apart (map (λ p. begins g c p (follow_of c n)) ps)))

-- symbols in turn, the first of which has the number n
abbrev pub all_predict : Rules → Certificate → ℕ → List Shape → Bool
all_predict g c n [] = true
all_predict g c n (s ∷ ss) = predicts g c n s && all_predict g c (n + 1) ss

abbrev pub is_predictive : Rules → Certificate → Bool
is_predictive g c = all_predict g c 0 g

-- Where the table is predictive and the text may end after the start symbol, all derivations of a text have one log.
abbrev pub OneDerivation : Type 0
OneDerivation = (g : Rules) (c : Certificate) (n : ℕ) (text : List ℕ) (log other : List Event) → is_predictive g c ≡ true → (follow_of c n).at_end ≡ true
    → IsSentence g n text log → IsSentence g n text other → log ≡ other
