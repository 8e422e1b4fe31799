-- What the tests over a table mean, and what each step of the reader keeps.
use Rattle.std.proofs.Common.{ℕ, zero, suc, Bool, true, false, List, [], ◌∷◌, ◌++◌, ◌+◌, ◌≡◌, ◌≤◌, ◌<◌, ◌&&◌, ◌||◌, inl, inr, Some, None, length, take, get_or, nat_lt, cond, refl, sym, ap, subst, arith, eq-eqb}
use native.Mathlib.Numerals.{unary_clauses}
use Rattle.std.proofs.lemmas.Bool.{ltb-true, cases_Bool, and_parts, and_from}
use Rattle.std.proofs.lemmas.List.{take_all}
use Rattle.std.specs.Prelude.{slice_index_or, not, if◌then◌else◌}
use Rattle.grammar.specs.declared.table.Cause.TheVariants.{Weight, Solid, Rank}
use Rattle.grammar.specs.declared.table.Item.{Item}
use Rattle.grammar.specs.declared.table.Rule.{Rule}
use Rattle.grammar.specs.declared.machine.Symbol.{Symbol}
use Rattle.grammar.specs.declared.machine.Event.{Event}
use Rattle.grammar.specs.Table.{Rules, Shape, Token, Action, Unless, Choice, rule_of, shape_of, shapes}
use Rattle.grammar.specs.Derivation.{has, Among, here, there, Derives, done, await, act, free, choose}
use Rattle.grammar.specs.Limits.{child, children}
use Rattle.grammar.proofs.Elements.{each_passes}
use Rattle.grammar.specs.WellFormed.{cause_of, is_right, all_right, is_well_formed}
use Rattle.grammar.specs.Weights.{weight_of, is_solid, rank_of, opening, has_solid, ranks_below, all_light, all_solid, any_below}

and_left : (a b : Bool) → (a && b) ≡ true → a ≡ true
and_left a b h = (and_parts a b h).0

and_right : (a b : Bool) → (a && b) ≡ true → b ≡ true
and_right a b h = (and_parts a b h).1

rule_is_right : (g rs : Rules) (n : ℕ) → all_right g rs ≡ true → is_right (cause_of g (slice_index_or rs n Action)) ≡ true
rule_is_right g [] n h = refl
rule_is_right g (r ∷ rs) zero h = and_left _ _ h
rule_is_right g (r ∷ rs) (suc n) h = rule_is_right g rs n (and_right (is_right (cause_of g r)) (all_right g rs) h)

-- what the tests of a choice say
record Tested (g : Rules) (weight : ℕ) (solid : Bool) (rank : ℕ) (ps : List (List Item)) : Type 0 where
  light : all_light g weight ps ≡ true
  solids : solid ≡ true → all_solid g ps ≡ true
  below : any_below g rank ps ≡ true

tested_of : (g : Rules) (weight : ℕ) (solid : Bool) (rank : ℕ) (ps : List (List Item)) (light solids below : Bool)
    → light ≡ all_light g weight ps → solids ≡ all_solid g ps → below ≡ any_below g rank ps
    → is_right (if not light then Some Weight else if solid && not solids then Some Solid else if below then None else Some Rank) ≡ true
    → Tested g weight solid rank ps
tested_of g weight solid rank ps false solids below e f k h = absurd cc
tested_of g weight solid rank ps true solids false e f k h = absurd (none_right (solid && not solids) h)
  where
    none_right : (b : Bool) → is_right (if b then Some Solid else Some Rank) ≡ true → ⊥
    none_right true h = cc
    none_right false h = cc
tested_of g weight false rank ps true solids true e f k h = record { light = sym e; solids = λ s. absurd cc; below = sym k }
tested_of g weight true rank ps true false true e f k h = absurd cc
tested_of g weight true rank ps true true true e f k h = record { light = sym e; solids = λ s. sym f; below = sym k }

tested : (g : Rules) (n weight : ℕ) (solid : Bool) (rank : ℕ) (ps : List (List Item)) → is_well_formed g ≡ true → rule_of g n ≡ Choice weight solid rank ps → Tested g weight solid rank ps
tested g n weight solid rank ps ok e = tested_of g weight solid rank ps _ _ _ refl refl refl (rw e at (rule_is_right g g n ok))

-- how much a stack opens before the next token is read
abbrev pub cost : Rules → List Symbol → ℕ
cost g [] = 0
cost g (s ∷ ss) = weight_of (rule_of g s.id) + cond (is_solid (rule_of g s.id)) 0 (cost g ss)

weigh : (w a b c : ℕ) (s : Bool) → a ≤ b + c → w + cond s 0 a ≤ (w + cond s 0 b) + c
weigh w a b c true h = omega arith
weigh w a b c false h = omega arith

cost_children : (g : Rules) (s : Symbol) (p : List Item) (ss : List Symbol) → cost g (children s p ++ ss) ≤ opening g p + cost g ss
cost_children g s [] ss = omega arith
cost_children g s (i ∷ is) ss = weigh (weight_of (rule_of g i.symbol)) (cost g (children s is ++ ss)) (opening g is) (cost g ss) (is_solid (rule_of g i.symbol)) (cost_children g s is ss)

weigh_solid : (w a b : ℕ) (s t : Bool) → (s || t) ≡ true → (t ≡ true → a ≤ b) → w + cond s 0 a ≤ w + cond s 0 b
weigh_solid w a b true t h f = omega arith
weigh_solid w a b false t h f = let k : a ≤ b = f h in omega arith

cost_solid : (g : Rules) (s : Symbol) (p : List Item) (ss : List Symbol) → has_solid g p ≡ true → cost g (children s p ++ ss) ≤ opening g p
cost_solid g s [] ss h = cc
cost_solid g s (i ∷ is) ss h = weigh_solid (weight_of (rule_of g i.symbol)) (cost g (children s is ++ ss)) (opening g is) (is_solid (rule_of g i.symbol)) (has_solid g is) h (cost_solid g s is ss)

choice_falls : (g : Rules) (weight : ℕ) (solid : Bool) (rank : ℕ) (ps : List (List Item)) (p : List Item) (s : Symbol) (ss : List Symbol)
    → Among p ps → Tested g weight solid rank ps → cost g (children s p ++ ss) < weight + cond solid 0 (cost g ss)
choice_falls g weight true rank ps p s ss m t =
    let below : opening g p < weight = ltb-true _ _ (each_passes (λ q. nat_lt (opening g q) weight) p ps m t.light) in
    let here : cost g (children s p ++ ss) ≤ opening g p = cost_solid g s p ss (each_passes (has_solid g) p ps m (t.solids refl)) in
    omega arith
choice_falls g weight false rank ps p s ss m t =
    let below : opening g p < weight = ltb-true _ _ (each_passes (λ q. nat_lt (opening g q) weight) p ps m t.light) in
    let here : cost g (children s p ++ ss) ≤ opening g p + cost g ss = cost_children g s p ss in
    omega arith

-- what an alternative puts on the stack costs less than what it replaces
pub falls : (g : Rules) (s : Symbol) (ss : List Symbol) (weight : ℕ) (solid : Bool) (rank : ℕ) (ps : List (List Item)) (p : List Item)
    → is_well_formed g ≡ true → rule_of g s.id ≡ Choice weight solid rank ps → Among p ps → cost g (children s p ++ ss) < cost g (s ∷ ss)
falls g s ss weight solid rank ps p ok e m = rw e (choice_falls g weight solid rank ps p s ss m (tested g s.id weight solid rank ps ok e))

-- Each stack can be completed.
abbrev pub Ends : Rules → List Symbol → Type 0
Ends g ss = (pos : ℕ) → (log : List Event) × (more : List ℕ) × Derives g pos ss log [] more

ends_items : (g : Rules) (rank : ℕ) (s : Symbol) (p : List Item) (ss : List Symbol)
    → ((u : Symbol) (us : List Symbol) → rank_of (rule_of g u.id) < rank → Ends g us → Ends g (u ∷ us))
    → ranks_below g rank p ≡ true → Ends g ss → Ends g (children s p ++ ss)
ends_items g rank s [] ss one h e = e
ends_items g rank s (i ∷ is) ss one h e =
    one (child s i) (children s is ++ ss) (ltb-true _ _ (and_left (nat_lt (rank_of (rule_of g i.symbol)) rank) (ranks_below g rank is) h))
    (ends_items g rank s is ss one (and_right (nat_lt (rank_of (rule_of g i.symbol)) rank) (ranks_below g rank is) h) e)

below_at : (g : Rules) (rank : ℕ) (ps : List (List Item)) → any_below g rank ps ≡ true → (p : List Item) × Among p ps × (ranks_below g rank p ≡ true)
below_at g rank [] h = absurd cc
below_at g rank (p ∷ ps) h = elim (cases_Bool (ranks_below g rank p)) [
  | inl e ↦ (p, here, e)
  | inr e ↦ let m = below_at g rank ps (rw e at h) in (m.0, there m.1, m.2)
]

has_first : (k : ℕ) (ks : List ℕ) → has (k ∷ ks) k ≡ true
has_first k ks = rw (eq-eqb k k refl) refl

ends_rule : (g : Rules) (s : Symbol) (ss : List Symbol) (r : Shape) → is_well_formed g ≡ true → rule_of g s.id ≡ r
    → ((u : Symbol) (us : List Symbol) → rank_of (rule_of g u.id) < rank_of r → Ends g us → Ends g (u ∷ us)) → Ends g ss → Ends g (s ∷ ss)
ends_rule g s ss (Token []) ok e one tail pos = let wrong = rw e at (rule_is_right g g s.id ok) in absurd cc
ends_rule g s ss (Token (k ∷ ks)) ok e one tail pos = let t = tail (pos + 1) in (t.0, k ∷ t.1, await (k ∷ ks) e (has_first k ks) t.2)
ends_rule g s ss Action ok e one tail pos = let t = tail pos in (record { action = s.id; at = pos } ∷ t.0, t.1, act e t.2)
ends_rule g s ss (Unless kinds) ok e one tail pos = let t = tail pos in (t.0, t.1, free kinds e t.2)
ends_rule g s ss (Choice weight solid rank ps) ok e one tail pos =
    let m = below_at g rank ps (tested g s.id weight solid rank ps ok e).below in
    let t = ends_items g rank s m.0 ss one m.2 tail pos in
    (t.0, t.1, choose weight solid rank ps m.0 e m.1 t.2)

ends_one : (g : Rules) → is_well_formed g ≡ true → (fuel : ℕ) (s : Symbol) (ss : List Symbol) → rank_of (rule_of g s.id) < fuel → Ends g ss → Ends g (s ∷ ss)
ends_one g ok zero s ss h tail = absurd (omega arith)
ends_one g ok (suc fuel) s ss h tail = ends_rule g s ss (rule_of g s.id) ok refl (λ u us below. ends_one g ok fuel u us (omega arith)) tail

pub ends : (g : Rules) → is_well_formed g ≡ true → (ss : List Symbol) → Ends g ss
ends g ok [] pos = ([], [], done)
ends g ok (s ∷ ss) pos = ends_one g ok (suc (rank_of (rule_of g s.id))) s ss (omega arith) (ends g ok ss) pos

-- the rule at a place, and past the table's end
pub shape_at : (rules : List Rule) (i : ℕ) (x : Rule) → i < length rules → shape_of (get_or rules i x) ≡ rule_of (shapes rules) i
shape_at [] i x h = absurd (omega arith)
shape_at (r ∷ rules) zero x h = refl
shape_at (r ∷ rules) (suc i) x h = shape_at rules i x (omega arith)

pub no_shape : (rules : List Rule) (i : ℕ) → length rules ≤ i → Action ≡ rule_of (shapes rules) i
no_shape [] i h = refl
no_shape (r ∷ rules) zero h = absurd (omega arith)
no_shape (r ∷ rules) (suc i) h = no_shape rules i (omega arith)

-- the rules that are tested so far
right_suc : (g rs : Rules) (i : ℕ) → i < length rs → all_right g (take i rs) ≡ true → is_right (cause_of g (rule_of rs i)) ≡ true → all_right g (take (suc i) rs) ≡ true
right_suc g [] i h a r = absurd (omega arith)
right_suc g (s ∷ rs) zero h a r = and_from _ _ r refl
right_suc g (s ∷ rs) (suc i) h a r =
    let p = and_parts (is_right (cause_of g s)) (all_right g (take i rs)) a in
    and_from _ _ p.0 (right_suc g rs i (omega arith) p.1 r)

pub right_more : (g rs : Rules) (i : ℕ) → i < length rs → all_right g (take i rs) ≡ true → is_right (cause_of g (rule_of rs i)) ≡ true → all_right g (take (i + 1) rs) ≡ true
right_more g rs i h a r = simp unary_clauses (right_suc g rs i h a r)

pub length_shapes : (rules : List Rule) → length (shapes rules) ≡ length rules
length_shapes [] = refl
length_shapes (r ∷ rules) = ap suc (length_shapes rules)

pub right_all : (rules : List Rule) (i : ℕ) → length rules ≤ i → all_right (shapes rules) (take i (shapes rules)) ≡ true → is_well_formed (shapes rules) ≡ true
right_all rules i h a = subst (λ (rs : Rules). all_right (shapes rules) rs ≡ true) (take_all i (shapes rules) (rw (length_shapes rules) h)) a

pub shapes_join : (xs ys : List Rule) → shapes (xs ++ ys) ≡ shapes xs ++ shapes ys
shapes_join [] ys = refl
shapes_join (x ∷ xs) ys = ap (λ (rs : Rules). shape_of x ∷ rs) (shapes_join xs ys)
