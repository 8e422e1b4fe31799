-- All tokens of a text pass a test that all kinds of a table's tokens pass.
use Rattle.std.proofs.Common.{ℕ, zero, suc, Bool, true, List, [], ◌∷◌, ◌≡◌, ◌&&◌, refl, subst}
use Rattle.std.proofs.lemmas.Bool.{and_parts, and_from}
use Rattle.std.specs.List.{list_all}
use Rattle.std.specs.Prelude.{slice_index_or}
use Rattle.grammar.specs.Table.{Rules, Shape, Token, Action, Unless, Choice, rule_of}
use Rattle.grammar.specs.Derivation.{has, Derives, done, read, await, act, pass, free, choose}
use Rattle.grammar.specs.declared.machine.Event.{Event}
use Rattle.grammar.specs.declared.machine.Symbol.{Symbol}
use Rattle.grammar.proofs.Quiet.{has_all}

module _ (g : Rules) (test : ℕ → Bool) where
  abbrev pub tokens_pass : List Shape → Bool
  tokens_pass [] = true
  tokens_pass (Token ks ∷ xs) = list_all test ks && tokens_pass xs
  tokens_pass (Action ∷ xs) = tokens_pass xs
  tokens_pass (Unless ks ∷ xs) = tokens_pass xs
  tokens_pass (Choice w s r ps ∷ xs) = tokens_pass xs

  pass_at : (xs : List Shape) (n : ℕ) (ks : List ℕ) → tokens_pass xs ≡ true → slice_index_or xs n Action ≡ Token ks → list_all test ks ≡ true
  pass_at [] n ks h e = absurd cc
  pass_at (Token js ∷ xs) zero ks h e = let same : js ≡ ks = cc in subst (λ (l : List ℕ). list_all test l ≡ true) same (and_parts (list_all test js) (tokens_pass xs) h).0
  pass_at (Action ∷ xs) zero ks h e = absurd cc
  pass_at (Unless js ∷ xs) zero ks h e = absurd cc
  pass_at (Choice w s r ps ∷ xs) zero ks h e = absurd cc
  pass_at (Token js ∷ xs) (suc n) ks h e = pass_at xs n ks (and_parts (list_all test js) (tokens_pass xs) h).1 e
  pass_at (Action ∷ xs) (suc n) ks h e = pass_at xs n ks h e
  pass_at (Unless js ∷ xs) (suc n) ks h e = pass_at xs n ks h e
  pass_at (Choice w s r ps ∷ xs) (suc n) ks h e = pass_at xs n ks h e

  module _ (right : tokens_pass g ≡ true) where
    pub all_pass : {pos : ℕ} {ss : List Symbol} {log : List Event} {ts more : List ℕ} → Derives g pos ss log ts more → more ≡ [] → list_all test ts ≡ true
    all_pass done e = refl
    all_pass (read {s = s} {t = t} {ts = ts} ks r h w d) e = and_from (test t) (list_all test ts) (has_all test ks t (pass_at g s.id ks right r) h) (all_pass d e)
    all_pass (await ks r h d) e = absurd cc
    all_pass (act r d) e = all_pass d e
    all_pass (pass ks r h d) e = all_pass d e
    all_pass (free ks r d) e = refl
    all_pass (choose weight solid rank ps p r m d) e = all_pass d e
