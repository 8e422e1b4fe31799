-- What holds of all that a walk gives, and of the aggregates that it meets.
use Rattle.std.proofs.Common.{◌≡◌, ◌∙◌, true, List, [], ◌∷◌, ◌++◌, Result, Ok, Err, refl, ap, sym, subst, append_assoc, append-nil}
use Rattle.std.specs.List.{AllByRecursion}
use Rattle.vdb_base.specs.declared.value.Ty.{Ty}
use Rattle.vdb_model.specs.declared.rel.Agg.{Agg}
use Rattle.vdb_model.specs.declared.reply.Refusal.{Refusal}
use Rattle.vdb_model.specs.Columns.{aggs_have}
use Rattle.expr_resolver.specs.Walking.{Walk, given, from_there, in_turn, one, two, three, all}
use Rattle.walk_laws.proofs.Gives.{Gives, gives, refuses, all_append, all_become}

-- a list that begins with another
pub record Later {A : Type 0} (xs ys : List A) : Type 0 where
  pub more : List A
  pub is : ys ≡ xs ++ more

pub later_self : {A : Type 0} (xs : List A) → Later xs xs
later_self xs = record { more = []; is = sym (append-nil xs) }

pub later_by : {A : Type 0} (xs more : List A) → Later xs (xs ++ more)
later_by xs more = record { more = more; is = refl }

pub later_still : {A : Type 0} (xs ys zs : List A) → Later xs ys → Later ys zs → Later xs zs
later_still xs ys zs h k = record { more = h.more ++ k.more; is = k.is ∙ ap (λ l. l ++ k.more) h.is ∙ append_assoc xs h.more k.more }

pub later_behind : {A : Type 0} (front xs ys : List A) → Later xs ys → Later (front ++ xs) (front ++ ys)
later_behind front xs ys h = record { more = h.more; is = ap (λ l. front ++ l) h.is ∙ sym (append_assoc front xs h.more) }

-- A walk goes over aggregates that have types over the rows; what holds of its parts speaks of these types.
module _ (rows : List Ty) where
  -- by its end the aggregates have these types and more, over which it holds of the result
  pub record Ends {A : Type 0} (P : List Ty → A → Type 0) (ts : List Ty) (met : A × List Agg) : Type 0 where
    pub by_end : List Ty
    pub later : Later ts by_end
    pub aggs : aggs_have rows [] met.1 by_end ≡ true
    pub holds : P by_end met.0

  -- a part that is walked where the aggregates have these types
  pub record WalksFrom {A : Type 0} (ts : List Ty) (part : Walk A) (P : List Ty → A → Type 0) : Type 0 where
    pub each : (aggs : List Agg) → aggs_have rows [] aggs ts ≡ true → Gives (part aggs) (Ends P ts)

  pub record Walks {A : Type 0} (part : Walk A) (P : List Ty → A → Type 0) : Type 0 where
    pub from : (ts : List Ty) → WalksFrom ts part P

  -- it still holds where more aggregates are met
  pub record Stays {A : Type 0} (P : List Ty → A → Type 0) : Type 0 where
    pub each : (ts us : List Ty) (x : A) → Later ts us → P ts x → P us x

  pub walks_same : {A : Type 0} {P : List Ty → A → Type 0} {part same : Walk A} → ((aggs : List Agg) → part aggs ≡ same aggs) → Walks same P → Walks part P
  walks_same {P = P} e h = record { from = λ ts. record { each = λ aggs have. subst (λ r. Gives r (Ends P ts)) (sym (e aggs)) ((h.from ts).each aggs have) } }

  given_each : {A : Type 0} {P : List Ty → A → Type 0} (ts : List Ty) (r : Result A Refusal) (aggs : List Agg) → Gives r (P ts) → aggs_have rows [] aggs ts ≡ true → Gives (given r aggs) (Ends P ts)
  given_each {P = P} ts (Ok x) aggs h have = gives (Ends P ts) (x, aggs) (record { by_end = ts; later = later_self ts; aggs = have; holds = h.each x refl })
  given_each {P = P} ts (Err refusal) aggs h have = refuses (Ends P ts) refusal

  pub walks_given : {A : Type 0} {P : List Ty → A → Type 0} (ts : List Ty) (r : Result A Refusal) → Gives r (P ts) → WalksFrom ts (given r) P
  walks_given {P = P} ts r h = record { each = λ aggs have. given_each {P = P} ts r aggs h have }

  then_each : {A : Type 0} (P : List Ty → A → Type 0) (ts us : List Ty) (r : Result (A × List Agg) Refusal) → Later ts us → Gives r (Ends P us) → Gives r (Ends P ts)
  then_each P ts us r later h = record {
    each = λ met is. let k = h.each met is in record { by_end = k.by_end; later = later_still ts us k.by_end later k.later; aggs = k.aggs; holds = k.holds };
  }

  from_there_each : {A B : Type 0} (P : List Ty → A → Type 0) (Q : List Ty → B → Type 0) (ts : List Ty) (r : Result (A × List Agg) Refusal) (f : A → Walk B) → Gives r (Ends P ts)
      → ((us : List Ty) (x : A) → Later ts us → P us x → WalksFrom us (f x) Q) → Gives (from_there r f) (Ends Q ts)
  from_there_each P Q ts (Ok met) f h after =
      let m = h.each met refl in
      then_each Q ts m.by_end (f met.0 met.1) m.later ((after m.by_end met.0 m.later m.holds).each met.1 m.aggs)
  from_there_each P Q ts (Err refusal) f h after = refuses (Ends Q ts) refusal

  pub walks_in_turn : {A B : Type 0} {P : List Ty → A → Type 0} {Q : List Ty → B → Type 0} {ts : List Ty} {part : Walk A} {f : A → Walk B}
      → WalksFrom ts part P → ((us : List Ty) (x : A) → Later ts us → P us x → WalksFrom us (f x) Q) → WalksFrom ts (in_turn part f) Q
  walks_in_turn {P = P} {Q = Q} {ts = ts} {part = part} {f = f} h after = record { each = λ aggs have. from_there_each P Q ts (part aggs) f (h.each aggs have) after }

  pub walks_one : {A B : Type 0} {P : List Ty → A → Type 0} {Q : List Ty → B → Type 0} {part : Walk A} {f : A → Result B Refusal}
      → Walks part P → ((us : List Ty) (x : A) → P us x → Gives (f x) (Q us)) → Walks (one part f) Q
  walks_one {Q = Q} {f = f} h after = record { from = λ ts. walks_in_turn {f = λ x. given (f x)} (h.from ts) (λ us x l p. walks_given {P = Q} us (f x) (after us x p)) }

  one_after : {A B : Type 0} {P : List Ty → A → Type 0} {Q : List Ty → B → Type 0} (us : List Ty) {part : Walk A} {f : A → Result B Refusal}
      → Walks part P → ((vs : List Ty) (x : A) → Later us vs → P vs x → Gives (f x) (Q vs)) → WalksFrom us (one part f) Q
  one_after {Q = Q} us {f = f} h after = walks_in_turn {f = λ x. given (f x)} (h.from us) (λ vs x l p. walks_given {P = Q} vs (f x) (after vs x l p))

  pub walks_two : {A B C : Type 0} {P : List Ty → A → Type 0} {Q : List Ty → B → Type 0} {R : List Ty → C → Type 0} {left : Walk A} {right : Walk B} {f : A → B → Result C Refusal}
      → Stays P → Walks left P → Walks right Q → ((us : List Ty) (x : A) (y : B) → P us x → Q us y → Gives (f x y) (R us)) → Walks (two left right f) R
  walks_two {Q = Q} {R = R} {right = right} {f = f} stays h k after = record {
    from = λ ts. walks_in_turn {f = λ x. one right (f x)} (h.from ts) (λ us x l p. one_after {Q = R} us {f = f x} k (λ vs y m q. after vs x y (stays.each us vs x m p) q));
  }

  two_after : {A B C : Type 0} {P : List Ty → A → Type 0} {Q : List Ty → B → Type 0} {R : List Ty → C → Type 0} (us : List Ty) {left : Walk A} {right : Walk B} {f : A → B → Result C Refusal}
      → Stays P → Walks left P → Walks right Q → ((vs : List Ty) (x : A) (y : B) → Later us vs → P vs x → Q vs y → Gives (f x y) (R vs)) → WalksFrom us (two left right f) R
  two_after {R = R} us {right = right} {f = f} stays h k after =
      walks_in_turn {f = λ x. one right (f x)} (h.from us)
      (λ vs x l p. one_after {Q = R} vs {f = f x} k (λ ws y m q. after ws x y (later_still us vs ws l m) (stays.each vs ws x m p) q))

  pub walks_three : {A B C D : Type 0} {P : List Ty → A → Type 0} {Q : List Ty → B → Type 0} {R : List Ty → C → Type 0} {S : List Ty → D → Type 0} {left : Walk A} {middle : Walk B} {right : Walk C} {f : A → B → C → Result D Refusal}
      → Stays P → Stays Q → Walks left P → Walks middle Q → Walks right R → ((us : List Ty) (x : A) (y : B) (z : C) → P us x → Q us y → R us z → Gives (f x y z) (S us)) → Walks (three left middle right f) S
  walks_three {S = S} {middle = middle} {right = right} {f = f} stays remains h k l after = record {
    from = λ ts. walks_in_turn {f = λ x. two middle right (f x)} (h.from ts)
        (λ us x i p. two_after {R = S} us {f = f x} remains k l (λ vs y z j q r. after vs x y z (stays.each us vs x j p) q r));
  }

  -- each part of a list
  abbrev pub AllWalk : {A : Type 0} → (List Ty → A → Type 0) → List (Walk A) → Type 0
  AllWalk P [] = Unit {0}
  AllWalk P (part ∷ parts) = Walks part P × AllWalk P parts

  -- it holds of each of a list
  abbrev pub Each : {A : Type 0} → (List Ty → A → Type 0) → List Ty → List A → Type 0
  Each P ts xs = AllByRecursion (P ts) xs

  pub stays_each : {A : Type 0} (P : List Ty → A → Type 0) → Stays P → Stays (Each P)
  stays_each P stays = record { each = λ ts us xs later all. all_become (P ts) (P us) xs (λ x p. stays.each ts us x later p) all }

  pub walks_all : {A : Type 0} (P : List Ty → A → Type 0) (ts : List Ty) (parts : List (Walk A)) (made : List A) → Stays P → AllWalk P parts → Each P ts made → WalksFrom ts (all parts made) (Each P)
  walks_all P ts [] made stays hs is = walks_given {P = Each P} ts (Ok made) (gives (AllByRecursion (P ts)) made is)
  walks_all P ts (part ∷ parts) made stays hs is =
      walks_in_turn {f = λ x. all parts (made ++ x ∷ [])} (hs.0.from ts)
      (λ us x l p. walks_all P us parts (made ++ x ∷ []) stays hs.1 (all_append (P us) made (x ∷ []) ((stays_each P stays).each ts us made l is) (p, tt)))

  pub walks_every : {A : Type 0} (P : List Ty → A → Type 0) (parts : List (Walk A)) → Stays P → AllWalk P parts → Walks (all parts []) (Each P)
  walks_every P parts stays hs = record { from = λ ts. walks_all P ts parts [] stays hs tt }
