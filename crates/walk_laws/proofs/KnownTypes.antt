-- Types that are known of an expression, and the types that go together.
use Rattle.std.proofs.Common.{◌≡◌, ℕ, Bool, true, false, ◌&&◌, ◌||◌, if◌then◌else◌, List, [], ◌∷◌, Option, Some, None, Ok, refl, sym, subst}
use Rattle.std.specs.List.{list_any}
use Rattle.std.specs.Cmp.Derive.{both_true}
use Rattle.vdb_base.specs.declared.value.Ty.{Ty}
use Rattle.vdb_base.specs.declared.value.Ty.TheVariants.{Boolean, Integer, Long, BigInteger, Str as Text}
use Rattle.vdb_model.specs.Typed.{types, same_type, goes_into, within}
use Rattle.vdb_model.specs.Typed as model
use Rattle.expr_resolver.specs.Types.{is_a, common, with_others, common_of, as_number, settled, widened, computed_type, summed}

-- an expression of these types has the type that is known of it; a NULL alone has every type
abbrev pub Has : (Ty → Bool) → Option Ty → Type 0
Has f None = (t : Ty) → f t ≡ true
Has f (Some t) = f t ≡ true

-- the type that is known is this one, where one is known
abbrev pub Agrees : Option Ty → Ty → Type 0
Agrees None t = Unit {0}
Agrees (Some u) t = u ≡ t

-- what is known goes into the type
abbrev pub Goes : Option Ty → Ty → Type 0
Goes None t = Unit {0}
Goes (Some s) t = goes_into s t ≡ true

-- and into what is known of another
abbrev pub GoesOn : Option Ty → Option Ty → Type 0
GoesOn None w = Unit {0}
GoesOn (Some s) None = ⊥
GoesOn (Some s) (Some t) = goes_into s t ≡ true

abbrev pub AllGo : List (Option Ty) → Option Ty → Type 0
AllGo [] w = Unit {0}
AllGo (o ∷ os) w = GoesOn o w × AllGo os w

pub same_is : (s t : Ty) → same_type s t ≡ true → s ≡ t
same_is Boolean Boolean h = refl
same_is Boolean Integer h = absurd (cc h)
same_is Boolean Long h = absurd (cc h)
same_is Boolean BigInteger h = absurd (cc h)
same_is Boolean Text h = absurd (cc h)
same_is Integer Boolean h = absurd (cc h)
same_is Integer Integer h = refl
same_is Integer Long h = absurd (cc h)
same_is Integer BigInteger h = absurd (cc h)
same_is Integer Text h = absurd (cc h)
same_is Long Boolean h = absurd (cc h)
same_is Long Integer h = absurd (cc h)
same_is Long Long h = refl
same_is Long BigInteger h = absurd (cc h)
same_is Long Text h = absurd (cc h)
same_is BigInteger Boolean h = absurd (cc h)
same_is BigInteger Integer h = absurd (cc h)
same_is BigInteger Long h = absurd (cc h)
same_is BigInteger BigInteger h = refl
same_is BigInteger Text h = absurd (cc h)
same_is Text Boolean h = absurd (cc h)
same_is Text Integer h = absurd (cc h)
same_is Text Long h = absurd (cc h)
same_is Text BigInteger h = absurd (cc h)
same_is Text Text h = refl

pub same_self : (t : Ty) → same_type t t ≡ true
same_self Boolean = refl
same_self Integer = refl
same_self Long = refl
same_self BigInteger = refl
same_self Text = refl

pub goes_self : (t : Ty) → goes_into t t ≡ true
goes_self Boolean = refl
goes_self Integer = refl
goes_self Long = refl
goes_self BigInteger = refl
goes_self Text = refl

-- one type into another, and that into a third
pub goes_on : (r s t : Ty) → goes_into r s ≡ true → goes_into s t ≡ true → goes_into r t ≡ true
goes_on Boolean Boolean t h k = k
goes_on Boolean Integer t h k = absurd (cc h)
goes_on Boolean Long t h k = absurd (cc h)
goes_on Boolean BigInteger t h k = absurd (cc h)
goes_on Boolean Text t h k = absurd (cc h)
goes_on Integer Boolean t h k = absurd (cc h)
goes_on Integer Integer t h k = k
goes_on Integer Long Boolean h k = absurd (cc k)
goes_on Integer Long Integer h k = refl
goes_on Integer Long Long h k = refl
goes_on Integer Long BigInteger h k = refl
goes_on Integer Long Text h k = absurd (cc k)
goes_on Integer BigInteger Boolean h k = absurd (cc k)
goes_on Integer BigInteger Integer h k = refl
goes_on Integer BigInteger Long h k = refl
goes_on Integer BigInteger BigInteger h k = refl
goes_on Integer BigInteger Text h k = absurd (cc k)
goes_on Integer Text t h k = absurd (cc h)
goes_on Long Boolean t h k = absurd (cc h)
goes_on Long Integer t h k = absurd (cc h)
goes_on Long Long t h k = k
goes_on Long BigInteger Boolean h k = absurd (cc k)
goes_on Long BigInteger Integer h k = absurd (cc k)
goes_on Long BigInteger Long h k = refl
goes_on Long BigInteger BigInteger h k = refl
goes_on Long BigInteger Text h k = absurd (cc k)
goes_on Long Text t h k = absurd (cc h)
goes_on BigInteger Boolean t h k = absurd (cc h)
goes_on BigInteger Integer t h k = absurd (cc h)
goes_on BigInteger Long t h k = absurd (cc h)
goes_on BigInteger BigInteger t h k = k
goes_on BigInteger Text t h k = absurd (cc h)
goes_on Text Boolean t h k = absurd (cc h)
goes_on Text Integer t h k = absurd (cc h)
goes_on Text Long t h k = absurd (cc h)
goes_on Text BigInteger t h k = absurd (cc h)
goes_on Text Text t h k = k

or_here : (a b : Bool) → a ≡ true → (a || b) ≡ true
or_here true b h = refl
or_here false b h = absurd (cc h)

or_later : (a b : Bool) → b ≡ true → (a || b) ≡ true
or_later true b h = refl
or_later false b h = h

-- one type passes
pub some_type : (p : Ty → Bool) (t : Ty) → p t ≡ true → list_any p types ≡ true
some_type p Boolean h = or_here (p Boolean) (list_any p (Integer ∷ Long ∷ BigInteger ∷ Text ∷ [])) h
some_type p Integer h = or_later (p Boolean) (list_any p (Integer ∷ Long ∷ BigInteger ∷ Text ∷ [])) (or_here (p Integer) (list_any p (Long ∷ BigInteger ∷ Text ∷ [])) h)
some_type p Long h =
    or_later (p Boolean) (list_any p (Integer ∷ Long ∷ BigInteger ∷ Text ∷ [])) (or_later (p Integer) (list_any p (Long ∷ BigInteger ∷ Text ∷ []))
    (or_here (p Long) (list_any p (BigInteger ∷ Text ∷ [])) h))
some_type p BigInteger h =
    or_later (p Boolean) (list_any p (Integer ∷ Long ∷ BigInteger ∷ Text ∷ [])) (or_later (p Integer) (list_any p (Long ∷ BigInteger ∷ Text ∷ []))
    (or_later (p Long) (list_any p (BigInteger ∷ Text ∷ [])) (or_here (p BigInteger) (list_any p (Text ∷ [])) h)))
some_type p Text h =
    or_later (p Boolean) (list_any p (Integer ∷ Long ∷ BigInteger ∷ Text ∷ [])) (or_later (p Integer) (list_any p (Long ∷ BigInteger ∷ Text ∷ []))
    (or_later (p Long) (list_any p (BigInteger ∷ Text ∷ [])) (or_later (p BigInteger) (list_any p (Text ∷ [])) (or_here (p Text) (list_any p []) h))))

pub has_at : (f : Ty → Bool) (o : Option Ty) (t : Ty) → Has f o → Agrees o t → f t ≡ true
has_at f None t h a = h t
has_at f (Some u) t h a = subst (λ t. f t ≡ true) a h

pub has_settled : (f : Ty → Bool) (o : Option Ty) → Has f o → f (settled o) ≡ true
has_settled f None h = h Text
has_settled f (Some t) h = h

pub agrees_settled : (o : Option Ty) → Agrees o (settled o)
agrees_settled None = tt
agrees_settled (Some t) = refl

pub has_some : (f : Ty → Bool) (o : Option Ty) → Has f o → list_any f types ≡ true
has_some f o h = some_type f (settled o) (has_settled f o h)

pub has_asked : (f : Ty → Bool) (t : Ty) (o : Option Ty) → is_a t o ≡ true → Has f o → f t ≡ true
has_asked f t None a h = h t
has_asked f t (Some u) a h = subst (λ t. f t ≡ true) (sym (same_is t u a)) h

pub within_self : (f : Ty → Bool) (t : Ty) → f t ≡ true → within t f ≡ true
within_self f t h = some_type (λ s. goes_into s t && f s) t (both_true (goes_self t) h)

pub within_of : (f : Ty → Bool) (o : Option Ty) (t : Ty) → Has f o → Goes o t → within t f ≡ true
within_of f None t h g = within_self f t (h t)
within_of f (Some s) t h g = some_type (λ s. goes_into s t && f s) s (both_true g h)

pub goes_settled : (o w : Option Ty) → GoesOn o w → Goes o (settled w)
goes_settled None w g = tt
goes_settled (Some s) None g = absurd g
goes_settled (Some s) (Some t) g = g

pub goes_number : (o w : Option Ty) → GoesOn o w → Goes o (as_number w)
goes_number None w g = tt
goes_number (Some s) None g = absurd g
goes_number (Some s) (Some t) g = g

pub goes_as_number : (o : Option Ty) → Goes o (as_number o)
goes_as_number None = tt
goes_as_number (Some t) = goes_self t

pub on_self : (o : Option Ty) → GoesOn o o
on_self None = tt
on_self (Some t) = goes_self t

pub on_further : (o v w : Option Ty) → GoesOn o v → GoesOn v w → GoesOn o w
on_further None v w g h = tt
on_further (Some r) None w g h = absurd g
on_further (Some r) (Some s) None g h = absurd h
on_further (Some r) (Some s) (Some t) g h = goes_on r s t g h

-- the wider one of two
wider_by : (t u : Ty) (b c : Bool) (w : Option Ty) → goes_into t u ≡ b → goes_into u t ≡ c → (if b then Some (Some u) else if c then Some (Some t) else None) ≡ Some w
    → GoesOn (Some t) w × GoesOn (Some u) w
wider_by t u true c w g h e = let is : Some u ≡ w = cc e in (subst (GoesOn (Some t)) is g, subst (GoesOn (Some u)) is (goes_self u))
wider_by t u false true w g h e = let is : Some t ≡ w = cc e in (subst (GoesOn (Some t)) is (goes_self t), subst (GoesOn (Some u)) is h)
wider_by t u false false w g h e = absurd (cc e)

pub common_goes : (o v w : Option Ty) → common o v ≡ Some w → GoesOn o w × GoesOn v w
common_goes None v w e = let is : v ≡ w = cc e in (tt, subst (GoesOn v) is (on_self v))
common_goes (Some t) None w e = let is : Some t ≡ w = cc e in (subst (GoesOn (Some t)) is (goes_self t), tt)
common_goes (Some t) (Some u) w e = wider_by t u (goes_into t u) (goes_into u t) w refl refl e

no_others : (os : List (Option Ty)) (w : Option Ty) → with_others None os ≡ Some w → ⊥
no_others os w e = cc e

one_more : (c : Option (Option Ty)) (o v : Option Ty) (os : List (Option Ty)) (w : Option Ty) → common o v ≡ c → ((u : Option Ty) → with_others (Some u) os ≡ Some w → GoesOn u w × AllGo os w)
    → with_others c os ≡ Some w → GoesOn o w × AllGo (v ∷ os) w
one_more None o v os w e more h = absurd (no_others os w h)
one_more (Some u) o v os w e more h =
    let g = common_goes o v u e in
    let k = more u h in
    (on_further o u w g.0 k.0, (on_further v u w g.1 k.0, k.1))

with_others_go : (o : Option Ty) (os : List (Option Ty)) (w : Option Ty) → with_others (Some o) os ≡ Some w → GoesOn o w × AllGo os w
with_others_go o [] w e = let is : o ≡ w = cc e in (subst (GoesOn o) is (on_self o), tt)
with_others_go o (v ∷ os) w e = one_more (common o v) o v os w refl (λ u. with_others_go u os w) e

-- each goes into the type that all go together in
pub common_of_goes : (os : List (Option Ty)) (w : Option Ty) → common_of os ≡ Some w → AllGo os w
common_of_goes os w e = (with_others_go None os w e).1

-- what arithmetic gives
pub widened_of : (p : Ty → Bool) (at : ℕ) (s t : Ty) → widened at s ≡ Ok t → p s ≡ true → model.widened p t ≡ true
widened_of p at Boolean t e h = absurd (cc e)
widened_of p at Integer t e h = let is : Long ≡ t = cc e in subst (λ t. model.widened p t ≡ true) is h
widened_of p at Long t e h = let is : BigInteger ≡ t = cc e in subst (λ t. model.widened p t ≡ true) is h
widened_of p at BigInteger t e h = absurd (cc e)
widened_of p at Text t e h = absurd (cc e)

pub computed_of : (p : Ty → Bool) (at : ℕ) (c : Option (Option Ty)) (t : Ty) → computed_type at c ≡ Ok t → ((w : Option Ty) → c ≡ Some w → p (as_number w) ≡ true) → model.widened p t ≡ true
computed_of p at None t e h = absurd (cc e)
computed_of p at (Some w) t e h = widened_of p at (as_number w) t e (h w refl)

-- what SUM gives
pub summed_of : (at : ℕ) (s t : Ty) → summed at s ≡ Ok t → (BigInteger ≡ t) × (goes_into s Long ≡ true)
summed_of at Boolean t e = absurd (cc e)
summed_of at Integer t e = (cc e, refl)
summed_of at Long t e = (cc e, refl)
summed_of at BigInteger t e = absurd (cc e)
summed_of at Text t e = absurd (cc e)

pub goes_widening : (o : Option Ty) (t : Ty) → goes_into (as_number o) t ≡ true → Goes o t
goes_widening None t h = tt
goes_widening (Some s) t h = h
