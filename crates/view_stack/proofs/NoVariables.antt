-- What reads no variable gives the same with any variables.
use Rattle.std.proofs.Common.{◌≡◌, ◌∙◌, Bool, true, false, ◌&&◌, if◌then◌else◌, List, [], ◌∷◌, ◌++◌, ℕ, map, ap, sym, refl}
use Rattle.std.specs.List.{AllByRecursion}
use Rattle.std.proofs.lemmas.List.Elements.{filter_agree}
use Rattle.vdb_base.specs.declared.value.Value.{Value}
use Rattle.vdb_model.specs.declared.expr.Expr.{Expr}
use Rattle.vdb_model.specs.declared.expr.Arm.{Arm, out-Arm}
use Rattle.vdb_model.specs.declared.rel.Agg.{Agg}
use Rattle.vdb_model.specs.declared.rel.Agg.TheVariants.{CountStar, Count, Sum, Min, Max}
use Rattle.vdb_model.specs.declared.rel.JoinKind.{JoinKind}
use Rattle.vdb_model.specs.declared.rel.Rel.{Rel}
use Rattle.vdb_model.specs.declared.bag.Bag.{Bag}
use Rattle.vdb_model.specs.Logic.{is_true, is_null}
use Rattle.vdb_model.specs.Meaning.{value, values, arm_value}
use Rattle.vdb_model.specs.Rows.{Cells, passes, where_rows, select_rows, matches, join_rows}
use Rattle.vdb_model.specs.Groups.{known, aggregate, aggregates, members, key_lists, rows_by_group}
use Rattle.vdb_model.specs.Relations.{bag_of, bags_of}
use Rattle.vdb_model.specs.Closed.{all_true, is_closed, are_closed, is_closed_agg, are_closed_aggs, reads_no_variable}
use Rattle.vdb_model.proofs.ByKinds.{OfArm, by_kinds}
use Rattle.vdb_model.proofs.RelByKinds.{rel_by_kinds}
use Rattle.vdb_model.proofs.Value.{value-Col, value-Const, value-Not, value-And, value-Or, value-Cmp, value-IsNull, value-In, value-Like, value-Arith, value-Neg, value-Concat, value-Case, value-Coalesce}
use Rattle.vdb_model.proofs.Bags.{bag-One, bag-Table, bag-View, bag-Where, bag-Select, bag-Join, bag-Group, bag-Distinct, bag-Union}
use Rattle.view_stack.proofs.ClosedByKinds.{are_closed_arms, closed-Var, closed-Not, closed-And, closed-Or, closed-Cmp, closed-IsNull, closed-In, closed-Like, closed-Arith, closed-Neg, closed-Concat, closed-Case, closed-Coalesce}
use Rattle.view_stack.proofs.UnreadByKinds.{unread_each, unread-Where, unread-Select, unread-Join, unread-Group, unread-Distinct, unread-Union}

pub both : (a b : Bool) → (a && b) ≡ true → (a ≡ true) × (b ≡ true)
both true b is = (refl, is)
both false b is = absurd (cc is)

module _ (us vs : Cells) where
  abbrev Alike : Expr → Type 0
  Alike e = is_closed e ≡ true → (row : Cells) → value e row us ≡ value e row vs

  lists : (es : List Expr) → AllByRecursion Alike es → are_closed es ≡ true → (row : Cells) → values es row us ≡ values es row vs
  lists [] all closed row = refl
  lists (e ∷ es) all closed row =
      let c = both (is_closed e) (are_closed es) closed in
      cc (all.0 c.0 row, lists es all.1 c.1 row)

  arms_alike : (arms : List Arm) → AllByRecursion (OfArm Alike) arms → are_closed_arms arms ≡ true → (row : Cells) → map (arm_value row us) arms ≡ map (arm_value row vs) arms
  arms_alike [] all closed row = refl
  arms_alike (arm ∷ arms) all closed row =
      let c = both (is_closed (out-Arm arm).when && is_closed (out-Arm arm).gives) (are_closed_arms arms) closed in
      let d = both (is_closed (out-Arm arm).when) (is_closed (out-Arm arm).gives) c.0 in
      cc (all.0.0 d.0 row, all.0.1 d.1 row, arms_alike arms all.1 c.1 row)

  pub alike : (e : Expr) → Alike e
  alike = by_kinds Alike (record {
    onCol = λ at closed row. cc (value-Col row us at, value-Col row vs at);
    onVar = λ at closed row. absurd (cc (closed, closed-Var at));
    onConst = λ v closed row. cc (value-Const row us v, value-Const row vs v);
    onNot = λ e is closed row. cc (value-Not row us e, value-Not row vs e, is (sym (closed-Not e) ∙ closed) row);
    onAnd = λ es is closed row. cc (value-And row us es, value-And row vs es, lists es is (sym (closed-And es) ∙ closed) row);
    onOr = λ es is closed row. cc (value-Or row us es, value-Or row vs es, lists es is (sym (closed-Or es) ∙ closed) row);
    onCmp = λ op a b is too closed row. let c = both (is_closed a) (is_closed b) (sym (closed-Cmp op a b) ∙ closed) in cc (value-Cmp row us op a b, value-Cmp row vs op a b, is c.0 row, too c.1 row);
    onIsNull = λ e is closed row. cc (value-IsNull row us e, value-IsNull row vs e, is (sym (closed-IsNull e) ∙ closed) row);
    onIn = λ e es is too closed row. let c = both (is_closed e) (are_closed es) (sym (closed-In e es) ∙ closed) in cc (value-In row us e es, value-In row vs e es, is c.0 row, lists es too c.1 row);
    onLike = λ e pattern is closed row. cc (value-Like row us e pattern, value-Like row vs e pattern, is (sym (closed-Like e pattern) ∙ closed) row);
    onArith = λ op a b is too closed row. let c = both (is_closed a) (is_closed b) (sym (closed-Arith op a b) ∙ closed) in cc (value-Arith row us op a b, value-Arith row vs op a b, is c.0 row, too c.1 row);
    onNeg = λ e is closed row. cc (value-Neg row us e, value-Neg row vs e, is (sym (closed-Neg e) ∙ closed) row);
    onConcat = λ es is closed row. cc (value-Concat row us es, value-Concat row vs es, lists es is (sym (closed-Concat es) ∙ closed) row);
    onCase = λ arms last is too closed row. let c = both (are_closed_arms arms) (is_closed last) (sym (closed-Case arms last) ∙ closed) in cc (value-Case row us arms last, value-Case row vs arms last, arms_alike arms is c.0 row, too c.1 row);
    onCoalesce = λ es is closed row. cc (value-Coalesce row us es, value-Coalesce row vs es, lists es is (sym (closed-Coalesce es) ∙ closed) row);
  })

  pub all_alike : (es : List Expr) → are_closed es ≡ true → (row : Cells) → values es row us ≡ values es row vs
  all_alike [] closed row = refl
  all_alike (e ∷ es) closed row =
      let c = both (is_closed e) (are_closed es) closed in
      cc (alike e c.0 row, all_alike es c.1 row)

  where_alike : (e : Expr) → is_closed e ≡ true → (rows : List Cells) → where_rows e us rows ≡ where_rows e vs rows
  where_alike e closed rows = filter_agree (passes e us) (passes e vs) (λ row. ap is_true (alike e closed row)) rows

  select_alike : (es : List Expr) → are_closed es ≡ true → (rows : List Cells) → select_rows es us rows ≡ select_rows es vs rows
  select_alike es closed [] = refl
  select_alike es closed (row ∷ rows) = cc (all_alike es closed row, select_alike es closed rows)

  matches_alike : (on : Expr) → is_closed on ≡ true → (left : Cells) (rights : List Cells) → matches on us left rights ≡ matches on vs left rights
  matches_alike on closed left [] = refl
  matches_alike on closed left (right ∷ rights) =
      ap (λ (m : List Cells). if passes on us (left ++ right) then (left ++ right) ∷ m else m) (matches_alike on closed left rights)
      ∙ ap (λ (v : Value). if is_true v then (left ++ right) ∷ matches on vs left rights else matches on vs left rights) (alike on closed (left ++ right))

  join_alike : (kind : JoinKind) (width : ℕ) (on : Expr) → is_closed on ≡ true → (lefts rights : List Cells) → join_rows kind width on us lefts rights ≡ join_rows kind width on vs lefts rights
  join_alike kind width on closed [] rights = refl
  join_alike kind width on closed (left ∷ lefts) rights = cc (matches_alike on closed left rights, join_alike kind width on closed lefts rights)

  known_alike : (e : Expr) → is_closed e ≡ true → (rows : List Cells) → known e us rows ≡ known e vs rows
  known_alike e closed [] = refl
  known_alike e closed (row ∷ rows) =
      ap (λ (k : List Value). if is_null (value e row us) then k else value e row us ∷ k) (known_alike e closed rows)
      ∙ ap (λ (v : Value). if is_null v then known e vs rows else v ∷ known e vs rows) (alike e closed row)

  aggregate_alike : (agg : Agg) → is_closed_agg agg ≡ true → (rows : List Cells) → aggregate agg us rows ≡ aggregate agg vs rows
  aggregate_alike CountStar closed rows = refl
  aggregate_alike (Count e) closed rows = cc (known_alike e closed rows)
  aggregate_alike (Sum e) closed rows = cc (known_alike e closed rows)
  aggregate_alike (Min e) closed rows = cc (known_alike e closed rows)
  aggregate_alike (Max e) closed rows = cc (known_alike e closed rows)

  aggregates_alike : (aggs : List Agg) → are_closed_aggs aggs ≡ true → (rows : List Cells) → aggregates aggs us rows ≡ aggregates aggs vs rows
  aggregates_alike [] closed rows = refl
  aggregates_alike (agg ∷ aggs) closed rows =
      let c = both (is_closed_agg agg) (are_closed_aggs aggs) closed in
      cc (aggregate_alike agg c.0 rows, aggregates_alike aggs c.1 rows)

  groups_alike : (keys : List ℕ) (aggs : List Agg) → are_closed_aggs aggs ≡ true → (rows groups : List Cells) → rows_by_group keys aggs us rows groups ≡ rows_by_group keys aggs vs rows groups
  groups_alike keys aggs closed rows [] = refl
  groups_alike keys aggs closed rows (group ∷ groups) = cc (aggregates_alike aggs closed (members keys group rows), groups_alike keys aggs closed rows groups)

  module _ (tables views : List Bag) where
    abbrev at_us : Rel → Bag
    at_us r = bag_of tables views us r

    abbrev at_vs : Rel → Bag
    at_vs r = bag_of tables views vs r

    abbrev SameBag : Rel → Type 0
    SameBag r = reads_no_variable r ≡ true → at_us r ≡ at_vs r

    parts : (rs : List Rel) → AllByRecursion SameBag rs → all_true (unread_each rs) ≡ true → bags_of tables views us rs ≡ bags_of tables views vs rs
    parts [] all unread = refl
    parts (r ∷ rs) all unread =
        let c = both (reads_no_variable r) (all_true (unread_each rs)) unread in
        cc (all.0 c.0, parts rs all.1 c.1)

    -- the bag of a relation that reads no variable
    pub same_bag : (r : Rel) → SameBag r
    same_bag = rel_by_kinds SameBag (record {
      onOne = λ unread. cc (bag-One tables views us, bag-One tables views vs);
      onTable = λ t unread. cc (bag-Table tables views us t, bag-Table tables views vs t);
      onView = λ v unread. cc (bag-View tables views us v, bag-View tables views vs v);
      onWhere = λ r e is unread. let c = both (reads_no_variable r) (is_closed e) (sym (unread-Where r e) ∙ unread) in
          cc (bag-Where tables views us r e, bag-Where tables views vs r e, is c.0, where_alike e c.1 (at_us r).rows);
      onSelect = λ r es is unread. let c = both (reads_no_variable r) (are_closed es) (sym (unread-Select r es) ∙ unread) in
          cc (bag-Select tables views us r es, bag-Select tables views vs r es, is c.0, select_alike es c.1 (at_us r).rows);
      onJoin = λ kind l r on is too unread. let c = both (reads_no_variable l && reads_no_variable r) (is_closed on) (sym (unread-Join kind l r on) ∙ unread) in
          let d = both (reads_no_variable l) (reads_no_variable r) c.0 in
          cc (bag-Join tables views us kind l r on, bag-Join tables views vs kind l r on, is d.0, too d.1, join_alike kind (at_us r).width on c.1 (at_us l).rows (at_us r).rows);
      onGroup = λ r keys aggs is unread. let c = both (reads_no_variable r) (are_closed_aggs aggs) (sym (unread-Group r keys aggs) ∙ unread) in
          cc (bag-Group tables views us r keys aggs, bag-Group tables views vs r keys aggs, is c.0, groups_alike keys aggs c.1 (at_us r).rows (key_lists keys (at_us r).rows));
      onDistinct = λ r is unread. cc (bag-Distinct tables views us r, bag-Distinct tables views vs r, is (sym (unread-Distinct r) ∙ unread));
      onUnion = λ rs is unread. cc (bag-Union tables views us rs, bag-Union tables views vs rs, parts rs is (sym (unread-Union rs) ∙ unread));
    })
