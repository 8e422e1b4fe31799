-- The columns that take values, and the values that can be assigned to them.
use Rattle.std.proofs.Common.{◌≡◌, ◌∙◌, ℕ, suc, ◌+◌, ◌==◌, Bool, true, false, ◌&&◌, if◌then◌else◌, List, [], ◌∷◌, ◌++◌, length, Option, Some, None, Ok, refl, ap}
use Rattle.std.specs.Prelude.{slice_index_or}
use Rattle.std.specs.List.{list_any, AllByRecursion}
use Rattle.std.specs.Cmp.Derive.{both_true}
use Rattle.vdb_base.specs.declared.value.Ty.{Ty}
use Rattle.vdb_base.specs.declared.value.Ty.TheVariants.{Boolean}
use Rattle.vdb_model.specs.declared.expr.Expr.{Expr}
use Rattle.vdb_model.specs.declared.reply.Refusal.TheVariants.{Mismatch}
use Rattle.vdb_model.specs.declared.typed.VarDef.{VarDef}
use Rattle.vdb_model.specs.Columns.{all_have}
use Rattle.vdb_model.specs.Defs.{all_below}
use Rattle.vdb_model.specs.NameText.{name_text}
use Rattle.vdb_model.specs.Typed.{has_type}
use Rattle.vdb_model.specs.WellFormed.{variable_types}
use Rattle.vdb_model.proofs.Ranges.{and_left, and_right}
use Rattle.sql_reader.specs.declared.tree.name.Name.{Name}
use Rattle.expr_resolver.specs.declared.known.Known.{Known}
use Rattle.resolver.specs.declared.selected.Column.{Column}
use Rattle.resolver.specs.declared.targets.Given.{Given}
use Rattle.resolver.specs.declared.targets.Targets.{Targets}
use Rattle.resolver.specs.Assigning.{target_column, with_column, target_columns, no_columns, every_column, listed_columns, of_known, of_columns, first_unfit, unfit_at, unless_unfit, assigned}
use Rattle.expr_resolver.specs.Operators.{exprs_of}
use Rattle.expr_resolver.specs.Scope.{named}
use Rattle.expr_resolver.specs.Types.{is_assignable}
use Rattle.walk_laws.specs.TypedStatements.{can_take, all_take, takes_value, all_take_values, types_at}
use Rattle.walk_laws.proofs.Gives.{Gives, gives, refuses, gives_unless, gives_next, gives_only}
use Rattle.walk_laws.proofs.KnownTypes.{Has, Agrees, goes_self, has_at, some_type}
use Rattle.walk_laws.proofs.Scope.{IsAt, Behind, behind_here, behind_next, index_of_get, place_below, named_at}
use Rattle.walk_laws.proofs.TypedFrom.{AllAgree}
use Rattle.walk_laws.proofs.TypedKnown.{IsTyped}
use Rattle.walk_laws.proofs.TypedSelects.{below_more, test_same}

takes_self : (t : Ty) → can_take t t ≡ true
takes_self t = rw (goes_self t) refl

pub types_more : (cols : List Ty) (places : List ℕ) (place : ℕ) (t : Ty) → IsAt cols (place, t) → types_at cols (places ++ place ∷ []) ≡ types_at cols places ++ t ∷ []
types_more cols [] place t h = ap (λ t. t ∷ []) (index_of_get cols place t Boolean h)
types_more cols (p ∷ places) place t h = ap (λ ts. slice_index_or cols p Boolean ∷ ts) (types_more cols places place t h)

module _ (cols : List Ty) where
  -- columns of the target with their types
  pub record AreTargets (made : Targets) : Type 0 where
    pub places : all_below (length cols) made.columns ≡ true
    pub types : types_at cols made.columns ≡ made.tys

  none_yet : AreTargets no_columns
  none_yet = record { places = refl; types = refl }

  with_one : (made : Targets) (column : ℕ × Ty) → AreTargets made → IsAt cols column → AreTargets (with_column made column)
  with_one made column h at = record {
    places = below_more (length cols) made.columns column.0 h.places (place_below cols column at);
    types = types_more cols made.columns column.0 column.1 at ∙ ap (λ ts. ts ++ column.1 ∷ []) h.types;
  }

  pub target_found : (columns : List VarDef) (seen : List ℕ) (name : Name) → Behind cols 0 (variable_types columns) → Gives (target_column columns seen name) (IsAt cols)
  target_found columns seen name b =
      gives_next (gives_only (IsAt cols) (name_text name.text) (named 0 name.text columns) (named_at cols 0 name.text columns b))
      (λ column h. gives_unless (IsAt cols) (list_any (λ c. c == column.0) seen) (Mismatch name.at) (Ok column) (gives (IsAt cols) column h))

  targets_found : (columns : List VarDef) (names : List Name) (made : Targets) → Behind cols 0 (variable_types columns) → AreTargets made → Gives (target_columns columns names made) AreTargets
  targets_found columns [] made b h = gives AreTargets made h
  targets_found columns (name ∷ names) made b h =
      gives_next (target_found columns made.columns name b) (λ column at. targets_found columns names (with_column made column) b (with_one made column h at))

  every_found : (at : ℕ) (columns : List VarDef) (made : Targets) → Behind cols at (variable_types columns) → AreTargets made → AreTargets (every_column at columns made)
  every_found at [] made b h = h
  every_found at (c ∷ cs) made b h =
      every_found (at + 1) cs (with_column made (at, c.ty)) (behind_next cols at c.ty (variable_types cs) b) (with_one made (at, c.ty) h (behind_here cols at c.ty (variable_types cs) b))

  pub listed_found : (columns : List VarDef) (names : List Name) → Behind cols 0 (variable_types columns) → Gives (listed_columns columns names) AreTargets
  listed_found columns [] b = gives AreTargets _ (every_found 0 columns no_columns b none_yet)
  listed_found columns (name ∷ names) b = targets_found columns (name ∷ names) no_columns b none_yet

  -- a value that can be assigned
  pub value_taken : (t : Ty) (o : Option Ty) (e : Expr) → is_assignable t o ≡ true → Has (has_type cols [] e) o → takes_value cols t e ≡ true
  value_taken t None e a h = some_type (λ u. can_take t u && has_type cols [] e u) t (both_true (takes_self t) (h t))
  value_taken t (Some u) e a h = some_type (λ u. can_take t u && has_type cols [] e u) u (both_true a h)

-- what is given has these types
abbrev pub GivenAgree : List Given → List Ty → Type 0
GivenAgree [] [] = Unit {0}
GivenAgree [] (t ∷ ts) = ⊥
GivenAgree (g ∷ gs) [] = ⊥
GivenAgree (g ∷ gs) (t ∷ ts) = Agrees g.ty t × GivenAgree gs ts

-- what is given has types that are taken
pub record AreTaken (ts : List Ty) (gs : List Given) : Type 0 where
  pub own : List Ty
  pub agree : GivenAgree gs own
  pub take : all_take ts own ≡ true

one_taken : (t : Ty) (o : Option Ty) → is_assignable t o ≡ true → (u : Ty) × (Agrees o u × (can_take t u ≡ true))
one_taken t None a = (t, (tt, takes_self t))
one_taken t (Some u) a = (u, (refl, a))

-- none that is unfit is found
fit_first : (b : Bool) (at : ℕ) (rest : Option ℕ) → (if b then rest else Some at) ≡ None → (b ≡ true) × (rest ≡ None)
fit_first true at rest e = (refl, e)
fit_first false at rest e = absurd (cc e)

are_taken : (ts : List Ty) (gs : List Given) → length ts ≡ length gs → first_unfit ts gs ≡ None → AreTaken ts gs
are_taken [] [] same e = record { own = []; agree = tt; take = refl }
are_taken [] (g ∷ gs) same e = absurd (cc same)
are_taken (t ∷ ts) [] same e = absurd (cc same)
are_taken (t ∷ ts) (g ∷ gs) same e =
    let fit = fit_first (is_assignable t g.ty) g.first (first_unfit ts gs) e in
    let first = one_taken t g.ty fit.0 in
    let rest = are_taken ts gs (cc same) fit.1 in
    record { own = first.0 ∷ rest.own; agree = (first.1.0, rest.agree); take = both_true first.1.1 rest.take }

fit_taken : (at : ℕ) (ts : List Ty) (gs : List Given) → unfit_at at ts gs ≡ None → AreTaken ts gs
fit_taken at ts gs e =
    let fit = fit_first (length ts == length gs) at (first_unfit ts gs) e in
    are_taken ts gs (test_same (length ts) (length gs) fit.0) fit.1

gives_fit : {A : Type 0} (P : A → Type 0) (o : Option ℕ) (x : A) → (o ≡ None → P x) → Gives (unless_unfit o x) P
gives_fit P None x h = gives P x (h refl)
gives_fit P (Some at) x h = refuses P (Mismatch at)

pub gives_assigned : {A : Type 0} (P : A → Type 0) (at : ℕ) (ts : List Ty) (gs : List Given) (x : A) → (AreTaken ts gs → P x) → Gives (assigned at ts gs x) P
gives_assigned P at ts gs x h = gives_fit P (unfit_at at ts gs) x (λ e. h (fit_taken at ts gs e))

pub columns_agree : (cs : List Column) (ts : List Ty) → GivenAgree (of_columns cs) ts → AllAgree cs ts
columns_agree [] [] agree = tt
columns_agree [] (t ∷ ts) agree = absurd agree
columns_agree (c ∷ cs) [] agree = absurd agree
columns_agree (c ∷ cs) (t ∷ ts) agree = (agree.0, columns_agree cs ts agree.1)

pub known_have : (cols : List Ty) (ks : List Known) (ts : List Ty) → AllByRecursion (IsTyped cols) ks → GivenAgree (of_known ks) ts → (length (exprs_of ks) ≡ length ts) × (all_have cols [] (exprs_of ks) ts ≡ true)
known_have cols [] [] all agree = (refl, refl)
known_have cols [] (t ∷ ts) all agree = absurd agree
known_have cols (k ∷ ks) [] all agree = absurd agree
known_have cols (k ∷ ks) (t ∷ ts) all agree =
    let rest = known_have cols ks ts all.1 agree.1 in
    (ap suc rest.0, both_true (has_at (has_type cols [] k.expr) k.ty t all.0 agree.0) rest.1)

-- and each value is taken
pub known_taken : (cols ts own : List Ty) (ks : List Known) → AllByRecursion (IsTyped cols) ks → GivenAgree (of_known ks) own → all_take ts own ≡ true → all_take_values cols ts (exprs_of ks) ≡ true
known_taken cols [] [] [] all agree take = refl
known_taken cols [] [] (k ∷ ks) all agree take = absurd agree
known_taken cols [] (u ∷ own) ks all agree take = absurd (cc take)
known_taken cols (t ∷ ts) [] ks all agree take = absurd (cc take)
known_taken cols (t ∷ ts) (u ∷ own) [] all agree take = absurd agree
known_taken cols (t ∷ ts) (u ∷ own) (k ∷ ks) all agree take =
    let first = can_take t u in
    let here = some_type (λ u. can_take t u && has_type cols [] k.expr u) u (both_true (and_left first (all_take ts own) take) (has_at (has_type cols [] k.expr) k.ty u all.0 agree.0)) in
    both_true here (known_taken cols ts own ks all.1 agree.1 (and_right first (all_take ts own) take))
