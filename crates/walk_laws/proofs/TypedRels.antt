-- Each kind of relation has its columns' types where its parts have theirs.
use Rattle.std.proofs.Common.{◌≡◌, ◌∙◌, ℕ, zero, suc, ◌+◌, Bool, true, ◌&&◌, List, [], ◌∷◌, ◌++◌, length, map, take, drop, refl, ap, sym, subst, arith, length-append}
use Rattle.std.specs.Prelude.{◌==◌}
use Rattle.std.specs.List.{AllByRecursion}
use Rattle.std.specs.Cmp.Derive.{both_true}
use Rattle.std.proofs.Math.Seq.{take-append_seam, drop-append_seam}
use Rattle.std.proofs.lemmas.Bool.Decides.{nat_tests}
use Rattle.vdb_base.specs.declared.value.Ty.{Ty}
use Rattle.vdb_base.specs.declared.value.Ty.TheVariants.{Boolean}
use Rattle.vdb_model.specs.declared.expr.Expr.{Expr}
use Rattle.vdb_model.specs.declared.rel.Agg.{Agg}
use Rattle.vdb_model.specs.declared.rel.JoinKind.{JoinKind}
use Rattle.vdb_model.specs.declared.rel.Rel.{Rel}
use Rattle.vdb_model.specs.declared.rel.Rel.TheVariants as rel
use Rattle.vdb_model.specs.Columns.{Columns, some_types, are_same, all_go_into, all_have, aggs_have, key_types, group_has, parts_have}
use Rattle.vdb_model.specs.Defined.{Defined}
use Rattle.vdb_model.specs.Defs.{all_below}
use Rattle.vdb_model.specs.Typed.{has_type, goes_into}
use Rattle.vdb_model.specs.WellFormed.{table_types, view_types}
use Rattle.vdb_model.proofs.Ranges.{and_right}
use Rattle.walk_laws.specs.Typed.{columns_over, AreOf}
use Rattle.walk_laws.proofs.ColumnsByKinds.{columns-One, columns-Where, columns-Select, columns-Join, columns-Group, columns-Distinct, columns-Union}
use Rattle.walk_laws.proofs.KnownTypes.{some_type, same_self, goes_self}
use Rattle.walk_laws.proofs.TypedAggs.{key_types_length, aggs_length}

same_columns : (a b : Columns) (ts : List Ty) → a ≡ b → AreOf b ts → AreOf a ts
same_columns a b ts e h = subst (λ c. AreOf c ts) (sym e) h

-- the types themselves show that there are some that pass
pub some_types_by : (n : ℕ) (ts : List Ty) (passes : List Ty → Bool) → n ≡ length ts → passes ts ≡ true → some_types n passes ≡ true
unfolding some_types
some_types_by zero [] passes same h = h
some_types_by zero (t ∷ ts) passes same h = absurd (cc same)
some_types_by (suc n) [] passes same h = absurd (cc same)
some_types_by (suc n) (t ∷ ts) passes same h = some_type (λ t. some_types n (λ ts. passes (t ∷ ts))) t (some_types_by n ts (λ ts. passes (t ∷ ts)) (cc same) h)

pub are_same_self : (ts : List Ty) → are_same ts ts ≡ true
are_same_self [] = refl
are_same_self (t ∷ ts) = both_true (same_self t) (are_same_self ts)

pub all_go_self : (ts : List Ty) → all_go_into ts ts ≡ true
all_go_self [] = refl
all_go_self (t ∷ ts) = both_true (goes_self t) (all_go_self ts)

module _ (defined : Defined) where
  abbrev tables : List (List Ty)
  tables = table_types defined.tables

  abbrev views : List (List Ty)
  views = view_types defined.views

  -- the relation has columns of these types
  abbrev pub HasTypes : Rel → List Ty → Type 0
  HasTypes r ts = AreOf (columns_over defined r) ts

  pub one_has : HasTypes rel.One []
  one_has = same_columns _ _ [] (columns-One tables views []) (record { width = refl; have = refl })

  pub where_has : (r : Rel) (e : Expr) (ts : List Ty) → HasTypes r ts → has_type ts [] e Boolean ≡ true → HasTypes (rel.Where r e) ts
  where_has r e ts h k = same_columns _ _ ts (columns-Where tables views [] r e) (record { width = h.width; have = both_true h.have k })

  pub select_has : (r : Rel) (es : List Expr) (cols ts : List Ty) → HasTypes r cols → length es ≡ length ts → all_have cols [] es ts ≡ true → HasTypes (rel.Select r es) ts
  select_has r es cols ts h count k = same_columns _ _ ts (columns-Select tables views [] r es) (record {
    width = count;
    have = some_types_by (columns_over defined r).width cols (λ cols. (columns_over defined r).have cols && all_have cols [] es ts) h.width (both_true h.have k);
  })

  pub join_has : (kind : JoinKind) (l r : Rel) (on : Expr) (ts us : List Ty) → HasTypes l ts → HasTypes r us → has_type (ts ++ us) [] on Boolean ≡ true → HasTypes (rel.Join kind l r on) (ts ++ us)
  join_has kind l r on ts us h k i =
      let left : (columns_over defined l).have (take (columns_over defined l).width (ts ++ us)) ≡ true =
      subst (λ xs. (columns_over defined l).have xs ≡ true) (sym (ap (λ n. take n (ts ++ us)) h.width ∙ take-append_seam ts us)) h.have in
      let right : (columns_over defined r).have (drop (columns_over defined l).width (ts ++ us)) ≡ true =
      subst (λ xs. (columns_over defined r).have xs ≡ true) (sym (ap (λ n. drop n (ts ++ us)) h.width ∙ drop-append_seam ts us)) k.have in
      same_columns _ _ (ts ++ us) (columns-Join tables views [] kind l r on) (record {
        width = ap (λ n. n + (columns_over defined r).width) h.width ∙ ap (λ n. length ts + n) k.width ∙ sym (length-append ts us);
        have = both_true (both_true left right) i;
      })

  pub distinct_has : (r : Rel) (ts : List Ty) → HasTypes r ts → HasTypes (rel.Distinct r) ts
  distinct_has r ts h = same_columns _ _ ts (columns-Distinct tables views [] r) h

  group_fits : (keys : List ℕ) (aggs : List Agg) (cols ts : List Ty) → all_below (length cols) keys ≡ true → aggs_have cols [] aggs ts ≡ true → group_has keys aggs cols [] (key_types cols keys ++ ts) ≡ true
  group_fits keys aggs cols ts below have =
      let front = key_types cols keys in
      let count = key_types_length cols keys in
      let first : are_same front (take (length keys) (front ++ ts)) ≡ true =
      subst (λ xs. are_same front xs ≡ true) (sym (ap (λ n. take n (front ++ ts)) (sym count) ∙ take-append_seam front ts)) (are_same_self front) in
      let rest : aggs_have cols [] aggs (drop (length keys) (front ++ ts)) ≡ true =
      subst (λ xs. aggs_have cols [] aggs xs ≡ true) (sym (ap (λ n. drop n (front ++ ts)) (sym count) ∙ drop-append_seam front ts)) have in
      both_true (both_true below first) rest

  pub group_has_types : (r : Rel) (keys : List ℕ) (aggs : List Agg) (cols ts : List Ty) → HasTypes r cols → all_below (length cols) keys ≡ true → aggs_have cols [] aggs ts ≡ true
      → HasTypes (rel.Group r keys aggs) (key_types cols keys ++ ts)
  group_has_types r keys aggs cols ts h below have =
      let all = key_types cols keys ++ ts in
      same_columns _ _ all (columns-Group tables views [] r keys aggs) (record {
        width = ap (λ n. n + length aggs) (sym (key_types_length cols keys)) ∙ ap (λ n. length (key_types cols keys) + n) (sym (aggs_length cols aggs ts have)) ∙ sym (length-append (key_types cols keys) ts);
        have = some_types_by (columns_over defined r).width cols (λ cols. (columns_over defined r).have cols && group_has keys aggs cols [] all) h.width (both_true h.have (group_fits keys aggs cols ts below have));
      })

  -- its columns' types go into these
  pub record GoesInto (r : Rel) (ts : List Ty) : Type 0 where
    pub own : List Ty
    pub has : HasTypes r own
    pub go : all_go_into own ts ≡ true

  pub into_own : (r : Rel) (ts : List Ty) → HasTypes r ts → GoesInto r ts
  into_own r ts h = record { own = ts; has = h; go = all_go_self ts }

  abbrev part_columns : List Rel → List Columns
  part_columns rs = map (columns_over defined) rs

  go_length : (ss ts : List Ty) → all_go_into ss ts ≡ true → length ss ≡ length ts
  go_length [] [] h = refl
  go_length [] (t ∷ ts) h = absurd (cc h)
  go_length (s ∷ ss) [] h = absurd (cc h)
  go_length (s ∷ ss) (t ∷ ts) h = ap suc (go_length ss ts (and_right (goes_into s t) (all_go_into ss ts) h))

  pub into_width : (r : Rel) (ts : List Ty) → GoesInto r ts → (columns_over defined r).width ≡ length ts
  into_width r ts h = h.has.width ∙ go_length h.own ts h.go

  same_count : (m n : ℕ) → m ≡ n → (m == n) ≡ true
  same_count m n h = grind (arith, nat_tests)

  parts_fit : (rs : List Rel) (ts : List Ty) → AllByRecursion (λ r. GoesInto r ts) rs → parts_have (part_columns rs) ts ≡ true
  parts_fit [] ts all = refl
  parts_fit (r ∷ rs) ts all =
      let part = columns_over defined r in
      let wide = same_count part.width (length ts) (into_width r ts all.0) in
      let into = some_types_by part.width all.0.own (λ own. part.have own && all_go_into own ts) all.0.has.width (both_true all.0.has.have all.0.go) in
      both_true (both_true wide into) (parts_fit rs ts all.1)

  pub union_has : (r : Rel) (rs : List Rel) (ts : List Ty) → AllByRecursion (λ r. GoesInto r ts) (r ∷ rs) → HasTypes (rel.Union (r ∷ rs)) ts
  union_has r rs ts all =
      let wide = into_width r ts all.0 in
      same_columns _ _ ts (columns-Union tables views [] (r ∷ rs)) (record {
        width = wide;
        have = both_true (same_count (columns_over defined r).width (length ts) wide) (parts_fit (r ∷ rs) ts all);
      })
