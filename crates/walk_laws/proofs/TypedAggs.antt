-- An aggregate of a typed expression is typed, and stands behind the keys and the aggregates that were met before it.
use Rattle.std.proofs.Common.{◌≡◌, ◌∙◌, ℕ, suc, ◌+◌, Bool, true, false, List, [], ◌∷◌, ◌++◌, length, slice_get, Some, Result, Ok, Err, refl, ap, sym, subst, append_assoc, length-append}
use Rattle.std.specs.Cmp.Derive.{both_true}
use Rattle.vdb_base.specs.declared.value.Ty.{Ty}
use Rattle.vdb_base.specs.declared.value.Ty.TheVariants.{Long}
use Rattle.vdb_model.specs.declared.expr.Expr.TheVariants.{Col}
use Rattle.vdb_model.specs.declared.rel.Agg.{Agg}
use Rattle.vdb_model.specs.declared.rel.Agg.TheVariants.{CountStar}
use Rattle.vdb_model.specs.declared.reply.Refusal.{Refusal}
use Rattle.vdb_model.specs.declared.reply.Refusal.TheVariants.{Mismatch}
use Rattle.vdb_model.specs.Columns.{agg_has, aggs_have, key_types}
use Rattle.vdb_model.specs.Typed.{has_type, is_some_type}
use Rattle.vdb_model.proofs.Ranges.{and_left, and_right}
use Rattle.sql_reader.specs.declared.tree.expr.Aggregate.{Aggregate}
use Rattle.sql_reader.specs.declared.tree.expr.Aggregate.TheVariants as aggregate
use Rattle.expr_resolver.specs.declared.known.Known.{Known}
use Rattle.expr_resolver.specs.declared.scope.Over.{Over}
use Rattle.expr_resolver.specs.declared.scope.Over.TheVariants.{Rows, Groups}
use Rattle.expr_resolver.specs.Operators as op
use Rattle.expr_resolver.specs.Types.{as_number, settled, aggregate_type}
use Rattle.walk_laws.proofs.Gives.{Gives, gives, refuses}
use Rattle.walk_laws.proofs.KnownTypes.{same_self, has_settled, has_some, within_of, goes_widening, summed_of}
use Rattle.walk_laws.proofs.Scope.{IsAt, get_middle, get_front, Sees, Seen}
use Rattle.walk_laws.proofs.TypedKnown.{IsTyped}
use Rattle.walk_laws.proofs.TypesByKinds.{types-Col}
use Rattle.walk_laws.proofs.WalkTyped.{WalksFrom, Ends, later_by}

pub at_typed : (cols : List Ty) (at : ℕ) (t : Ty) → IsAt cols (at, t) → has_type cols [] (Col at) t ≡ true
at_typed cols at t h = types-Col cols [] at t ∙ subst (λ o. is_some_type t o ≡ true) (sym h) (same_self t)

pub column_typed : (cols : List Ty) (first : ℕ) (column : ℕ × Ty) → IsAt cols column → Gives (op.column_at first column) (IsTyped cols)
column_typed cols first column h = gives (IsTyped cols) _ (at_typed cols column.0 column.1 h)

pub key_types_length : (cols : List Ty) (keys : List ℕ) → length (key_types cols keys) ≡ length keys
key_types_length cols [] = refl
key_types_length cols (key ∷ keys) = ap suc (key_types_length cols keys)

module _ (rows : List Ty) where
  aggs_one_more : (aggs : List Agg) (ts : List Ty) (agg : Agg) (t : Ty) → aggs_have rows [] aggs ts ≡ true → agg_has rows [] agg t ≡ true → aggs_have rows [] (aggs ++ agg ∷ []) (ts ++ t ∷ []) ≡ true
  aggs_one_more [] [] agg t h k = both_true k refl
  aggs_one_more [] (u ∷ ts) agg t h k = absurd (cc h)
  aggs_one_more (a ∷ aggs) [] agg t h k = absurd (cc h)
  aggs_one_more (a ∷ aggs) (u ∷ ts) agg t h k =
      let first = agg_has rows [] a u in
      let rest = aggs_have rows [] aggs ts in
      both_true (and_left first rest h) (aggs_one_more aggs ts agg t (and_right first rest h) k)

  pub aggs_length : (aggs : List Agg) (ts : List Ty) → aggs_have rows [] aggs ts ≡ true → length ts ≡ length aggs
  aggs_length [] [] h = refl
  aggs_length [] (u ∷ ts) h = absurd (cc h)
  aggs_length (a ∷ aggs) [] h = absurd (cc h)
  aggs_length (a ∷ aggs) (u ∷ ts) h = ap suc (aggs_length aggs ts (and_right (agg_has rows [] a u) (aggs_have rows [] aggs ts) h))

  agg_typed : (a : Aggregate) (at : ℕ) (k : Known) (t : Ty) → IsTyped rows k → aggregate_type a at k.ty ≡ Ok t → agg_has rows [] (op.agg_of a k.expr) t ≡ true
  agg_typed aggregate.Count at k t h e =
      let is : Long ≡ t = cc e in
      subst (λ t. agg_has rows [] (op.agg_of aggregate.Count k.expr) t ≡ true) is (has_some (has_type rows [] k.expr) k.ty h)
  agg_typed aggregate.Sum at k t h e =
      let is = summed_of at (as_number k.ty) t e in
      subst (λ t. agg_has rows [] (op.agg_of aggregate.Sum k.expr) t ≡ true) is.0 (within_of (has_type rows [] k.expr) k.ty Long h (goes_widening k.ty Long is.1))
  agg_typed aggregate.Min at k t h e =
      let is : settled k.ty ≡ t = cc e in
      subst (λ t. agg_has rows [] (op.agg_of aggregate.Min k.expr) t ≡ true) is (has_settled (has_type rows [] k.expr) k.ty h)
  agg_typed aggregate.Max at k t h e =
      let is : settled k.ty ≡ t = cc e in
      subst (λ t. agg_has rows [] (op.agg_of aggregate.Max k.expr) t ≡ true) is (has_settled (has_type rows [] k.expr) k.ty h)

  module _ (keys : List ℕ) where
    agg_at : (ts : List Ty) (t : Ty) (count : ℕ) (cols : List Ty) → length ts ≡ count → Sees rows keys Groups (ts ++ t ∷ []) cols → IsAt cols (length keys + count, t)
    agg_at ts t count cols same s =
        let front = key_types rows keys in
        let place : length (front ++ ts) ≡ length keys + count = length-append front ts ∙ ap (λ n. n + length ts) (key_types_length rows keys) ∙ ap (λ n. length keys + n) same in
        let whole : cols ≡ ((front ++ ts) ++ t ∷ []) ++ s.more = s.is ∙ ap (λ l. l ++ s.more) (sym (append_assoc front ts (t ∷ []))) in
        let here : slice_get (((front ++ ts) ++ t ∷ []) ++ s.more) (length (front ++ ts)) ≡ Some t =
        get_front ((front ++ ts) ++ t ∷ []) s.more (length (front ++ ts)) t (get_middle (front ++ ts) t []) in
        subst (λ n. slice_get cols n ≡ Some t) place (subst (λ l. slice_get l (length (front ++ ts)) ≡ Some t) (sym whole) here)

    add_agg_walks : (ts : List Ty) (at : ℕ) (between : Bool) (agg : Agg) (t : Ty) → agg_has rows [] agg t ≡ true → WalksFrom rows ts (op.add_agg (length keys) at between agg t) (Seen rows keys Groups IsTyped)
    add_agg_walks ts at between agg t h = record {
      each = λ aggs have. gives (Ends rows (Seen rows keys Groups IsTyped) ts) _ (record {
        by_end = ts ++ t ∷ [];
        later = later_by ts (t ∷ []);
        aggs = aggs_one_more aggs ts agg t have h;
        holds = λ cols s. at_typed cols (length keys + length aggs) t (agg_at ts t (length aggs) cols (aggs_length aggs ts have) s);
      });
    }

    refused : (ts : List Ty) (over : Over) (refusal : Refusal) → WalksFrom rows ts (λ aggs. Err refusal) (Seen rows keys over IsTyped)
    refused ts over refusal = record { each = λ aggs have. refuses (Ends rows (Seen rows keys over IsTyped) ts) refusal }

    pub count_all_walks : (over : Over) (ts : List Ty) (at : ℕ) → WalksFrom rows ts (op.count_all over (length keys) at) (Seen rows keys over IsTyped)
    count_all_walks Rows ts at = refused ts Rows (Mismatch at)
    count_all_walks Groups ts at = add_agg_walks ts at false CountStar Long refl

    with_type_walks : (ts : List Ty) (at : ℕ) (a : Aggregate) (k : Known) (r : Result Ty Refusal) → IsTyped rows k → aggregate_type a at k.ty ≡ r → WalksFrom rows ts (op.with_type (length keys) at a k r) (Seen rows keys Groups IsTyped)
    with_type_walks ts at a k (Ok t) h e = add_agg_walks ts at k.between (op.agg_of a k.expr) t (agg_typed a at k t h e)
    with_type_walks ts at a k (Err refusal) h e = refused ts Groups refusal

    pub aggregate_walks : (over : Over) (ts : List Ty) (a : Aggregate) (at : ℕ) (k : Known) → IsTyped rows k → WalksFrom rows ts (op.aggregate_of over (length keys) a at k) (Seen rows keys over IsTyped)
    aggregate_walks Rows ts a at k h = refused ts Rows (Mismatch at)
    aggregate_walks Groups ts a at k h = with_type_walks ts at a k (aggregate_type a at k.ty) h refl
