-- What a derivation is, by the rule of its first symbol.
use Rattle.std.proofs.Common.{ℕ, Bool, true, false, List, [], ◌∷◌, ◌++◌, ◌+◌, ◌≡◌, refl}
use Rattle.grammar.specs.declared.table.Item.{Item}
use Rattle.grammar.specs.declared.machine.Symbol.{Symbol}
use Rattle.grammar.specs.declared.machine.Event.{Event}
use Rattle.grammar.specs.Table.{Rules, Token, Action, Unless, Choice, rule_of}
use Rattle.grammar.specs.Derivation.{has, Among, Derives, done, read, await, act, pass, free, choose}
use Rattle.grammar.specs.Limits.{is_within, children}

pub by_token : {g : Rules} {pos : ℕ} {s : Symbol} {ss : List Symbol} {log : List Event} {t : ℕ} {ts more : List ℕ} (kinds : List ℕ) → rule_of g s.id ≡ Token kinds
    → Derives g pos (s ∷ ss) log (t ∷ ts) more → (has kinds t ≡ true) × (is_within pos s ≡ true) × Derives g (pos + 1) ss log ts more
by_token kinds e (read kinds' f h w d) = let same : kinds' ≡ kinds = cc in (rw same at h, w, d)
by_token kinds e (act f d) = absurd cc
by_token kinds e (pass kinds' f h d) = absurd cc
by_token kinds e (choose weight solid rank ps p f m d) = absurd cc

pub no_end : {g : Rules} {pos : ℕ} {s : Symbol} {ss : List Symbol} {log : List Event} {more : List ℕ} (kinds : List ℕ) → rule_of g s.id ≡ Token kinds → more ≡ []
    → Derives g pos (s ∷ ss) log [] more → ⊥
no_end kinds e f (await kinds' f' h d) = cc
no_end kinds e f (act f' d) = cc
no_end kinds e f (free kinds' f' d) = cc
no_end kinds e f (choose weight solid rank ps p f' m d) = cc

pub by_action : {g : Rules} {pos : ℕ} {s : Symbol} {ss : List Symbol} {log : List Event} {ts more : List ℕ} → rule_of g s.id ≡ Action
    → Derives g pos (s ∷ ss) log ts more → (rest : List Event) × (log ≡ record { action = s.id; at = pos } ∷ rest) × Derives g pos ss rest ts more
by_action e (read kinds f h w d) = absurd cc
by_action e (await kinds f h d) = absurd cc
by_action e (act {log = rest} f d) = (rest, refl, d)
by_action e (pass kinds f h d) = absurd cc
by_action e (free kinds f d) = absurd cc
by_action e (choose weight solid rank ps p f m d) = absurd cc

pub by_guard : {g : Rules} {pos : ℕ} {s : Symbol} {ss : List Symbol} {log : List Event} {t : ℕ} {ts more : List ℕ} (kinds : List ℕ) → rule_of g s.id ≡ Unless kinds
    → Derives g pos (s ∷ ss) log (t ∷ ts) more → (has kinds t ≡ false) × Derives g pos ss log (t ∷ ts) more
by_guard kinds e (read kinds' f h w d) = absurd cc
by_guard kinds e (act f d) = absurd cc
by_guard kinds e (pass kinds' f h d) = let same : kinds' ≡ kinds = cc in (rw same at h, d)
by_guard kinds e (choose weight solid rank ps p f m d) = absurd cc

pub by_guard_end : {g : Rules} {pos : ℕ} {s : Symbol} {ss : List Symbol} {log : List Event} {more : List ℕ} (kinds : List ℕ) → rule_of g s.id ≡ Unless kinds
    → Derives g pos (s ∷ ss) log [] more → Derives g pos ss log [] more
by_guard_end kinds e (await kinds' f h d) = absurd cc
by_guard_end kinds e (act f d) = absurd cc
by_guard_end kinds e (free kinds' f d) = d
by_guard_end kinds e (choose weight solid rank ps p f m d) = absurd cc

pub by_choice : {g : Rules} {pos : ℕ} {s : Symbol} {ss : List Symbol} {log : List Event} {ts more : List ℕ} (weight : ℕ) (solid : Bool) (rank : ℕ) (ps : List (List Item))
    → rule_of g s.id ≡ Choice weight solid rank ps → Derives g pos (s ∷ ss) log ts more → (p : List Item) × Among p ps × Derives g pos (children s p ++ ss) log ts more
by_choice weight solid rank ps e (read kinds f h w d) = absurd cc
by_choice weight solid rank ps e (await kinds f h d) = absurd cc
by_choice weight solid rank ps e (act f d) = absurd cc
by_choice weight solid rank ps e (pass kinds f h d) = absurd cc
by_choice weight solid rank ps e (free kinds f d) = absurd cc
by_choice weight solid rank ps e (choose weight' solid' rank' qs p f m d) = let same : qs ≡ ps = cc in (p, rw same at m, d)

-- an empty stack derives nothing
pub no_token : {g : Rules} {pos : ℕ} {log : List Event} {t : ℕ} {ts more : List ℕ} → Derives g pos [] log (t ∷ ts) more → ⊥
no_token d = elim d [ ]

pub only_end : {g : Rules} {pos pos' : ℕ} {log : List Event} {ts more : List ℕ} → Derives g pos' [] log ts more → (ts ≡ []) × (more ≡ []) × Derives g pos [] log [] more
only_end done = (refl, refl, done)

pub no_actions : {g : Rules} {pos : ℕ} {log : List Event} → Derives g pos [] log [] [] → log ≡ []
no_actions done = refl

-- What the symbols derive with tokens seen, they derive with these tokens to come.
all_unseen : {g : Rules} {pos : ℕ} {ss : List Symbol} {log : List Event} {vs more : List ℕ} → Derives g pos ss log vs more → Derives g pos ss log [] (vs ++ more)
all_unseen done = done
all_unseen (read kinds e h w d) = await kinds e h (all_unseen d)
all_unseen (await kinds e h d) = await kinds e h (all_unseen d)
all_unseen (act e d) = act e (all_unseen d)
all_unseen (pass kinds e h d) = free kinds e (all_unseen d)
all_unseen (free kinds e d) = free kinds e (all_unseen d)
all_unseen (choose weight solid rank ps p e m d) = choose weight solid rank ps p e m (all_unseen d)

tail_is : {x y : ℕ} {xs ys : List ℕ} → x ∷ xs ≡ y ∷ ys → xs ≡ ys
tail_is e = cc

pub unseen : {g : Rules} (ts us : List ℕ) {pos : ℕ} {ss : List Symbol} {log : List Event} {vs more : List ℕ} → vs ≡ ts ++ us → Derives g pos ss log vs more → Derives g pos ss log ts (us ++ more)
unseen [] us e d = rw e at (all_unseen d)
unseen (t ∷ ts) us e done = absurd cc
unseen (t ∷ ts) us e (read {s = s} {t = u} kinds f h w d) = let same : u ≡ t = cc in rw same at (read {s = s} kinds f h w (unseen ts us (tail_is e) d))
unseen (t ∷ ts) us e (await kinds f h d) = absurd cc
unseen (t ∷ ts) us e (act f d) = act f (unseen (t ∷ ts) us e d)
unseen (t ∷ ts) us e (pass {t = u} kinds f h d) = let same : u ≡ t = cc in pass kinds f (rw same at h) (unseen (t ∷ ts) us e d)
unseen (t ∷ ts) us e (free kinds f d) = absurd cc
unseen (t ∷ ts) us e (choose weight solid rank ps p f m d) = choose weight solid rank ps p f m (unseen (t ∷ ts) us e d)
