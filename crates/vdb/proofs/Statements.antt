-- The statements of a script, found in turn.
use Rattle.std.proofs.Common.{◌≡◌, ◌≤◌, ℕ, ◌+◌, Bool, true, false, List, [], ◌∷◌, Some, None, length, drop, refl, sym, ap, if◌then◌else◌}
use Rattle.sql_tokens.specs.declared.token.Token.{Token}
use Rattle.sql_tokens.specs.declared.cut.Found.{Found}
use Rattle.sql_tokens.specs.declared.cut.Found.TheVariants.{Statement, More, End}
use Rattle.sql_tokens.specs.Tokens.{tokens_from}
use Rattle.sql_tokens.specs.Cut.{found, statement, cuts, cut_after}
use Rattle.sql_tokens.proofs.Turns.{found_in_turn}
use Rattle.vdb_session.specs.Script.{part, pieces, statements_from}

abbrev is_statement : Found → Bool
is_statement (Statement start end next) = true
is_statement More = false
is_statement End = false

none_after : (ended : Bool) (size start : ℕ) (ts : List Token) → is_statement (statement ended size start ts) ≡ false → cut_after ended size (Some start) ts ≡ []
none_after true size start [] h = cc
none_after false size start [] h = refl
none_after ended size start (t ∷ ts) h = by_cut (cuts t.kind) (Statement start t.start (t.start + 1)) _ _ _ refl h (none_after ended size start ts)
  where
    by_cut : (c : Bool) (x y : Found) (a b : List Found) → is_statement x ≡ true → is_statement (if c then x else y) ≡ false → (is_statement y ≡ false → b ≡ []) → (if c then a else b) ≡ []
    by_cut true x y a b s h f = absurd cc
    by_cut false x y a b s h f = f h

none_found : (ended : Bool) (size : ℕ) (ts : List Token) → is_statement (found ended size ts) ≡ false → cut_after ended size None ts ≡ []
none_found ended size [] h = refl
none_found ended size (t ∷ ts) h = by_cut (cuts t.kind) _ _ _ _ h (none_found ended size ts) (none_after ended size t.start ts)
  where
    by_cut : (c : Bool) (x y : Found) (a b : List Found) → is_statement (if c then x else y) ≡ false → (is_statement x ≡ false → a ≡ []) → (is_statement y ≡ false → b ≡ []) → (if c then a else b) ≡ []
    by_cut true x y a b h f g = f h
    by_cut false x y a b h f g = g h

not_statement : (x : Found) → ((start end next : ℕ) → x ≡ Statement start end next → ⊥) → is_statement x ≡ false
not_statement (Statement start end next) h = absurd (h start end next refl)
not_statement More h = refl
not_statement End h = refl

-- where none is found there is none
pub no_more : (script : List ℕ) (ended : Bool) (from : ℕ) (x : Found) → x ≡ found ended (length script) (tokens_from from (drop from script)) → ((start end next : ℕ) → x ≡ Statement start end next → ⊥)
    → statements_from script ended from ≡ []
no_more script ended from x e h =
    let none : is_statement (found ended (length script) (tokens_from from (drop from script))) ≡ false = rw (← e) (not_statement x h) in
    ap (pieces script) (none_found ended (length script) (tokens_from from (drop from script)) none)

-- a statement that is found, and then those from its next place on
pub one_more : (script : List ℕ) (ended : Bool) (from start end next : ℕ) → from ≤ length script → Statement start end next ≡ found ended (length script) (tokens_from from (drop from script))
    → statements_from script ended from ≡ record { at = start; text = part script start end } ∷ statements_from script ended next
one_more script ended from start end next h e = ap (pieces script) (found_in_turn script from ended start end next h (sym e)).1
