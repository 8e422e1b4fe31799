-- The columns of two queries go into the merged ones, and a union has every list of types that agrees with these.
use Rattle.std.proofs.Common.{◌≡◌, ◌∙◌, Bool, true, false, List, [], ◌∷◌, ◌++◌, length, Option, Some, None, refl, sym, subst, append_assoc, append-nil}
use Rattle.std.specs.List.{AllByRecursion}
use Rattle.std.specs.Cmp.Derive.{both_true}
use Rattle.vdb_base.specs.declared.value.Ty.{Ty}
use Rattle.vdb_model.specs.declared.rel.Rel.{Rel}
use Rattle.vdb_model.specs.declared.rel.Rel.TheVariants as rel
use Rattle.vdb_model.specs.declared.reply.Refusal.TheVariants.{Mismatch}
use Rattle.vdb_model.specs.Columns.{all_go_into}
use Rattle.vdb_model.specs.Defined.{Defined}
use Rattle.vdb_model.specs.Typed.{goes_into}
use Rattle.vdb_model.proofs.Ranges.{and_left, and_right}
use Rattle.resolver.specs.declared.selected.Column.{Column}
use Rattle.resolver.specs.Selects.{union_of, merged, merge, parts_by}
use Rattle.expr_resolver.specs.Types.{common}
use Rattle.walk_laws.proofs.Gives.{Gives, gives, refuses, gives_next, all_append, all_become}
use Rattle.walk_laws.proofs.KnownTypes.{Agrees, GoesOn, goes_on, goes_self, common_goes}
use Rattle.walk_laws.proofs.TypedFrom.{AllAgree, HasColumns}
use Rattle.walk_laws.proofs.TypedRels.{HasTypes, GoesInto, into_own, distinct_has, union_has}

-- what is known of each column goes into what is known of the one at its place
abbrev pub AllOn : List Column → List Column → Type 0
AllOn [] [] = Unit {0}
AllOn [] (d ∷ ds) = ⊥
AllOn (c ∷ cs) [] = ⊥
AllOn (c ∷ cs) (d ∷ ds) = GoesOn c.ty d.ty × AllOn cs ds

-- both lists of columns go into the rest of what is merged
pub record Merged (ls rs made columns : List Column) : Type 0 where
  pub rest : List Column
  pub is : columns ≡ made ++ rest
  pub left : AllOn ls rest
  pub right : AllOn rs rest

one_merged : (l r : Column) (c : Option (Option Ty)) → common l.ty r.ty ≡ c → Gives (merged l r c) (λ m. GoesOn l.ty m.ty × GoesOn r.ty m.ty)
one_merged l r None e = refuses _ (Mismatch r.first)
one_merged l r (Some w) e = gives _ (record l { ty = w }) (common_goes l.ty r.ty w e)

pub merge_goes : (ls rs made : List Column) → length ls ≡ length rs → Gives (merge ls rs made) (Merged ls rs made)
merge_goes [] [] made same = gives (Merged [] [] made) made (record { rest = []; is = sym (append-nil made); left = tt; right = tt })
merge_goes [] (r ∷ rs) made same = absurd (cc same)
merge_goes (l ∷ ls) [] made same = absurd (cc same)
merge_goes (l ∷ ls) (r ∷ rs) made same =
    gives_next (one_merged l r (common l.ty r.ty) refl) (λ c g. record {
      each = λ columns e.
          let m = (merge_goes ls rs (made ++ c ∷ []) (cc same)).each columns e in
          record { rest = c ∷ m.rest; is = m.is ∙ append_assoc made (c ∷ []) m.rest; left = (g.0, m.left); right = (g.1, m.right) };
    })

-- types that agree with columns, and that go into the others
pub record Below (cs : List Column) (ts : List Ty) : Type 0 where
  pub own : List Ty
  pub agree : AllAgree cs own
  pub go : all_go_into own ts ≡ true

one_below : (o w : Option Ty) (t : Ty) → GoesOn o w → Agrees w t → (s : Ty) × (Agrees o s × (goes_into s t ≡ true))
one_below None w t g a = (t, (tt, goes_self t))
one_below (Some s) None t g a = absurd g
one_below (Some s) (Some u) t g a = (s, (refl, subst (λ t. goes_into s t ≡ true) a g))

pub all_below : (cs ds : List Column) (ts : List Ty) → AllOn cs ds → AllAgree ds ts → Below cs ts
all_below [] [] [] on agree = record { own = []; agree = tt; go = refl }
all_below [] [] (t ∷ ts) on agree = absurd agree
all_below [] (d ∷ ds) ts on agree = absurd on
all_below (c ∷ cs) [] ts on agree = absurd on
all_below (c ∷ cs) (d ∷ ds) [] on agree = absurd agree
all_below (c ∷ cs) (d ∷ ds) (t ∷ ts) on agree =
    let first = one_below c.ty d.ty t on.0 agree.0 in
    let rest = all_below cs ds ts on.1 agree.1 in
    record { own = first.0 ∷ rest.own; agree = (first.1.0, rest.agree); go = both_true first.1.1 rest.go }

all_go_on : (rs ss ts : List Ty) → all_go_into rs ss ≡ true → all_go_into ss ts ≡ true → all_go_into rs ts ≡ true
all_go_on [] [] ts h k = k
all_go_on [] (s ∷ ss) ts h k = absurd (cc h)
all_go_on (r ∷ rs) [] ts h k = absurd (cc h)
all_go_on (r ∷ rs) (s ∷ ss) [] h k = absurd (cc k)
all_go_on (r ∷ rs) (s ∷ ss) (t ∷ ts) h k =
    both_true (goes_on r s t (and_left (goes_into r s) (all_go_into rs ss) h) (and_left (goes_into s t) (all_go_into ss ts) k))
    (all_go_on rs ss ts (and_right (goes_into r s) (all_go_into rs ss) h) (and_right (goes_into s t) (all_go_into ss ts) k))

-- there is one
abbrev pub IsSome : List Rel → Type 0
IsSome [] = ⊥
IsSome (r ∷ rs) = Unit {0}

some_append : (ls : List Rel) (r : Rel) → IsSome (ls ++ r ∷ [])
some_append [] r = tt
some_append (l ∷ ls) r = tt

module _ (defined : Defined) where
  -- Whatever the types of the columns of which none is known: the relation of the parts has them, and each part's own go into them.
  pub record PartsTyped (parts : List Rel) (columns : List Column) : Type 0 where
    pub some : IsSome parts
    pub has : HasColumns defined (union_of parts) columns
    pub into : (ts : List Ty) → AllAgree columns ts → AllByRecursion (λ r. GoesInto defined r ts) parts

  pub alone_typed : (r : Rel) (columns : List Column) → HasColumns defined r columns → PartsTyped (r ∷ []) columns
  alone_typed r columns h = record { some = tt; has = h; into = λ ts agree. (into_own defined r ts (h ts agree), tt) }

  into_wider : (ss ts : List Ty) (r : Rel) → all_go_into ss ts ≡ true → GoesInto defined r ss → GoesInto defined r ts
  into_wider ss ts r h i = record { own = i.own; has = i.has; go = all_go_on i.own ss ts i.go h }

  whole_into : (parts : List Rel) (columns ds : List Column) (ts : List Ty) → PartsTyped parts columns → AllOn columns ds → AllAgree ds ts → GoesInto defined (union_of parts) ts
  whole_into parts columns ds ts h on agree =
      let b = all_below columns ds ts on agree in
      record { own = b.own; has = h.has b.own b.agree; go = b.go }

  parts_into : (parts : List Rel) (columns ds : List Column) (ts : List Ty) → PartsTyped parts columns → AllOn columns ds → AllAgree ds ts → AllByRecursion (λ r. GoesInto defined r ts) parts
  parts_into parts columns ds ts h on agree =
      let b = all_below columns ds ts on agree in
      all_become (λ r. GoesInto defined r b.own) (λ r. GoesInto defined r ts) parts (λ r i. into_wider b.own ts r b.go i) (h.into b.own b.agree)

  -- of two parts or more it is a Union
  chain_has : (ls : List Rel) (r : Rel) (ts : List Ty) → IsSome ls → AllByRecursion (λ r. GoesInto defined r ts) (ls ++ r ∷ []) → HasTypes defined (union_of (ls ++ r ∷ [])) ts
  chain_has [] r ts some all = absurd some
  chain_has (l ∷ []) r ts some all = union_has defined l (r ∷ []) ts all
  chain_has (l ∷ m ∷ more) r ts some all = union_has defined l (m ∷ (more ++ r ∷ [])) ts all

  module _ (ls rs : List Rel) (left right columns : List Column) (h : PartsTyped ls left) (k : PartsTyped rs right) (on : AllOn left columns) (too : AllOn right columns) where
    chained : (ts : List Ty) → AllAgree columns ts → AllByRecursion (λ r. GoesInto defined r ts) (ls ++ union_of rs ∷ [])
    chained ts agree = all_append (λ r. GoesInto defined r ts) ls (union_of rs ∷ []) (parts_into ls left columns ts h on agree) (whole_into rs right columns ts k too agree, tt)

    distinct : HasColumns defined (rel.Distinct (rel.Union (union_of ls ∷ union_of rs ∷ []))) columns
    distinct ts agree =
        distinct_has defined (rel.Union (union_of ls ∷ union_of rs ∷ [])) ts
        (union_has defined (union_of ls) (union_of rs ∷ []) ts (whole_into ls left columns ts h on agree, (whole_into rs right columns ts k too agree, tt)))

    pub united_parts : (all : Bool) → PartsTyped (parts_by all ls rs) columns
    united_parts true = record { some = some_append ls (union_of rs); has = λ ts agree. chain_has ls (union_of rs) ts h.some (chained ts agree); into = chained }
    united_parts false = alone_typed (rel.Distinct (rel.Union (union_of ls ∷ union_of rs ∷ []))) columns distinct
