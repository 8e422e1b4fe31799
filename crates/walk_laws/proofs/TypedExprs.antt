-- What the walk of an expression gives is typed over the rows or over the groups.
use Rattle.std.proofs.Common.{ℕ, Bool, List, [], ◌∷◌, length, Option, Some, None, Result, Ok, refl}
use Rattle.std.specs.List.{AllByRecursion}
use Rattle.vdb_base.specs.declared.value.Ty.{Ty}
use Rattle.vdb_base.specs.declared.value.Ty.TheVariants.{Boolean}
use Rattle.vdb_model.specs.declared.reply.Refusal.{Refusal}
use Rattle.sql_reader.specs.declared.tree.expr.Aggregate.{Aggregate}
use Rattle.sql_reader.specs.declared.tree.expr.Arm.{Arm}
use Rattle.sql_reader.specs.declared.tree.expr.Expr.{Expr}
use Rattle.sql_reader.specs.declared.tree.expr.Expr.TheVariants as tree
use Rattle.sql_reader.specs.declared.tree.expr.Link.{Link}
use Rattle.sql_reader.specs.declared.tree.expr.Operator.{Operator}
use Rattle.sql_reader.specs.declared.tree.expr.Operator.TheVariants.{Or, And, Concat, Add, Subtract, Multiply}
use Rattle.expr_resolver.specs.declared.known.Known.{Known}
use Rattle.expr_resolver.specs.declared.known.KnownArm.{KnownArm}
use Rattle.expr_resolver.specs.declared.scope.Names.{Names}
use Rattle.expr_resolver.specs.declared.scope.Over.{Over}
use Rattle.expr_resolver.specs.declared.scope.Over.TheVariants.{Rows}
use Rattle.expr_resolver.specs.Exprs.{Part, ArmPart, LinkPart, walk, walks, operands, all_operands, listed, computed, chain_by, chain, items, arms_in, last_in, parts_of, links_of, arms_of, part_of}
use Rattle.expr_resolver.specs.Operators as op
use Rattle.expr_resolver.specs.Scope.{column_seen, first_place}
use Rattle.expr_resolver.specs.Walking.{next, given, one, all}
use Rattle.expr_resolver.proofs.ByKinds.{walk-Literal, walk-Column, walk-Parens, walk-Negate, walk-Chain, walk-Not, walk-Compare, walk-IsNull, walk-In, walk-Like, walk-Between, walk-CountAll, walk-Aggregate, walk-Coalesce, walk-Case}
use Rattle.walk_laws.proofs.Gives.{Gives, gives, gives_next}
use Rattle.walk_laws.proofs.Scope.{entry_types, Sees, Seen, stays_seen, gives_seen, each_seen, name_seen}
use Rattle.walk_laws.proofs.TreeByKinds.{OfArm, OfLink, OfLast, by_kinds}
use Rattle.walk_laws.proofs.TypedAggs.{column_typed, count_all_walks, aggregate_walks}
use Rattle.walk_laws.proofs.TypedKnown.{IsTyped, IsOf, ArmIsTyped, literal_typed, parens_typed, needs_typed, condition_typed, negative_typed, arithmetic_typed, chained_typed, not_typed, compared_typed, null_typed, item_typed, in_typed, like_typed, between_typed, first_typed, arm_typed, case_typed, nothing_typed}
use Rattle.walk_laws.proofs.WalkTyped.{Walks, WalksFrom, AllWalk, Each, walks_same, walks_given, walks_in_turn, walks_one, walks_two, walks_three, walks_all, walks_every, stays_each}

module _ (names : Names) where
  abbrev rows : List Ty
  rows = entry_types names.entries

  abbrev SeenBy : {A : Type 0} → Over → (List Ty → A → Type 0) → List Ty → A → Type 0
  SeenBy over P = Seen rows names.keys over P

  -- what is known is typed over all that it sees
  abbrev pub Typed : Over → List Ty → Known → Type 0
  Typed over = Seen (entry_types names.entries) names.keys over IsTyped

  abbrev pub Of : Ty → Over → List Ty → Known → Type 0
  Of t over = Seen (entry_types names.entries) names.keys over (λ cols. IsOf cols t)

  abbrev ArmTyped : Over → List Ty → KnownArm → Type 0
  ArmTyped over = SeenBy over ArmIsTyped

  abbrev pub PartTyped : Part → Type 0
  PartTyped part = (over : Over) → Walks (entry_types names.entries) (part over) (Typed over)

  abbrev LinkTyped : LinkPart → Type 0
  LinkTyped link = PartTyped link.operand

  abbrev ArmPartTyped : ArmPart → Type 0
  ArmPartTyped arm = PartTyped arm.condition × PartTyped arm.value

  abbrev LastTyped : Option Part → Type 0
  LastTyped None = Unit {0}
  LastTyped (Some part) = PartTyped part

  module _ (over : Over) where
    abbrev AllTyped : List Ty → List Known → Type 0
    AllTyped = Each rows (Typed over)

    operands_walk : (o : Operator) (links : List LinkPart) → AllByRecursion LinkTyped links → AllWalk rows (Of (op.chain_type o) over) (operands o over links)
    operands_walk o [] all = tt
    operands_walk o (link ∷ links) all =
        let t = op.chain_type o in
        (walks_one rows {Q = Of t over} (all.0 over) (λ us k h. gives_seen rows names.keys over (λ cols. IsOf cols t) us (λ cols s. needs_typed cols t link.at k (h cols s))), operands_walk o links all.1)

    listed_walks : (o : Operator) (at : ℕ) (links : List LinkPart) (ts : List Ty) (k : Known) → AllByRecursion LinkTyped links → Typed over ts k → WalksFrom rows ts (listed o over at links k) (Typed over)
    unfolding listed
    listed_walks o at links ts k hs h =
        let t = op.chain_type o in
        let stays = stays_seen rows names.keys over (λ cols. IsOf cols t) in
        let first : WalksFrom rows ts (given (op.needs t at k)) (Of t over) =
        walks_given rows {P = Of t over} ts (op.needs t at k) (gives_seen rows names.keys over (λ cols. IsOf cols t) ts (λ cols s. needs_typed cols t at k (h cols s))) in
        let each : WalksFrom rows ts (all_operands o over at links k) (Each rows (Of t over)) =
        walks_in_turn rows {f = λ k. all (operands o over links) (k ∷ [])} first
        (λ us j l i. walks_all rows (Of t over) us (operands o over links) (j ∷ []) stays (operands_walk o links hs) (i, tt)) in
        walks_in_turn rows {f = λ ks. given (op.chained o k.first ks)} each
        (λ us ks l is. walks_given rows {P = Typed over} us (op.chained o k.first ks)
        (gives_seen rows names.keys over IsTyped us (λ cols s. chained_typed cols o k.first ks (each_seen rows names.keys over (λ cols. IsOf cols t) us ks is cols s))))

    computed_walks : (links : List LinkPart) (ts : List Ty) (k : Known) → AllByRecursion LinkTyped links → Typed over ts k → WalksFrom rows ts (computed over links k) (Typed over)
    computed_walks [] ts k all h = walks_given rows {P = Typed over} ts (Ok k) (gives (Typed over ts) k h)
    computed_walks (link ∷ links) ts k all h =
        let o = op.arith_op link.operator in
        let stays = stays_seen rows names.keys over IsTyped in
        let step : WalksFrom rows ts (one (link.operand over) (op.arithmetic o link.at k)) (Typed over) =
        walks_in_turn rows {f = λ j. given (op.arithmetic o link.at k j)} ((all.0 over).from ts)
        (λ us j l i. walks_given rows {P = Typed over} us (op.arithmetic o link.at k j)
        (gives_seen rows names.keys over IsTyped us (λ cols s. arithmetic_typed cols o link.at k j (stays.each ts us k l h cols s) (i cols s)))) in
        walks_in_turn rows {f = computed over links} step (λ us j l i. computed_walks links us j all.1 i)

    chain_by_walks : (o : Operator) (at : ℕ) (links : List LinkPart) (ts : List Ty) (k : Known) → AllByRecursion LinkTyped links → Typed over ts k → WalksFrom rows ts (chain_by o over at links k) (Typed over)
    chain_by_walks Or at links ts k all h = listed_walks Or at links ts k all h
    chain_by_walks And at links ts k all h = listed_walks And at links ts k all h
    chain_by_walks Concat at links ts k all h = listed_walks Concat at links ts k all h
    chain_by_walks Add at links ts k all h = computed_walks links ts k all h
    chain_by_walks Subtract at links ts k all h = computed_walks links ts k all h
    chain_by_walks Multiply at links ts k all h = computed_walks links ts k all h

    chain_walks : (links : List LinkPart) (ts : List Ty) (k : Known) → AllByRecursion LinkTyped links → Typed over ts k → WalksFrom rows ts (chain over links k) (Typed over)
    chain_walks [] ts k all h = walks_given rows {P = Typed over} ts (Ok k) (gives (Typed over ts) k h)
    chain_walks (link ∷ links) ts k all h = chain_by_walks link.operator link.at (link ∷ links) ts k all h

    items_walk : (parts : List Part) → AllByRecursion PartTyped parts → AllWalk rows (Typed over) (items over parts)
    items_walk [] all = tt
    items_walk (part ∷ parts) all = (walks_one rows {Q = Typed over} (all.0 over) (λ us k h. gives_seen rows names.keys over IsTyped us (λ cols s. item_typed cols k (h cols s))), items_walk parts all.1)

    walks_walk : (parts : List Part) → AllByRecursion PartTyped parts → AllWalk rows (Typed over) (walks over parts)
    walks_walk [] all = tt
    walks_walk (part ∷ parts) all = (all.0 over, walks_walk parts all.1)

    pub condition_walks : (part : Part) → PartTyped part → Walks rows (one (part over) op.condition) (Of Boolean over)
    condition_walks part h = walks_one rows {Q = Of Boolean over} (h over) (λ us k i. gives_seen rows names.keys over (λ cols. IsOf cols Boolean) us (λ cols s. condition_typed cols k (i cols s)))

    arms_walk : (arms : List ArmPart) → AllByRecursion ArmPartTyped arms → AllWalk rows (ArmTyped over) (arms_in over arms)
    arms_walk [] all = tt
    arms_walk (arm ∷ arms) all = (
      walks_two rows {R = ArmTyped over} (stays_seen rows names.keys over (λ cols. IsOf cols Boolean)) (condition_walks arm.condition all.0.0) (all.0.1 over)
          (λ us c v h k. gives_seen rows names.keys over ArmIsTyped us (λ cols s. arm_typed cols c v (h cols s) (k cols s))),
      arms_walk arms all.1,
    )

    last_walks : (at : ℕ) (last : Option Part) → LastTyped last → Walks rows (last_in over at last) (Typed over)
    last_walks at None h = record { from = λ ts. walks_given rows {P = Typed over} ts (Ok (op.nothing at)) (gives (Typed over ts) (op.nothing at) (λ cols s. nothing_typed cols at)) }
    last_walks at (Some part) h = h over

  abbrev ExprTyped : Expr → Type 0
  ExprTyped e = PartTyped (walk names e)

  parts_typed : (es : List Expr) → AllByRecursion ExprTyped es → AllByRecursion PartTyped (parts_of names es)
  parts_typed [] all = tt
  parts_typed (e ∷ es) all = (all.0, parts_typed es all.1)

  links_typed : (links : List Link) → AllByRecursion (OfLink ExprTyped) links → AllByRecursion LinkTyped (links_of names links)
  links_typed [] all = tt
  links_typed (link ∷ links) all = (all.0, links_typed links all.1)

  arms_typed : (arms : List Arm) → AllByRecursion (OfArm ExprTyped) arms → AllByRecursion ArmPartTyped (arms_of names arms)
  arms_typed [] all = tt
  arms_typed (arm ∷ arms) all = (all.0, arms_typed arms all.1)

  last_typed : (last : Option Expr) → OfLast ExprTyped last → LastTyped (part_of names last)
  last_typed None h = tt
  last_typed (Some e) h = h

  -- an operator gives a typed expression wherever it does over all columns
  from_each : (over : Over) (us : List Ty) {r : Result Known Refusal} → ((cols : List Ty) → Sees rows names.keys over us cols → Gives r (IsTyped cols)) → Gives r (Typed over us)
  from_each over us h = gives_seen rows names.keys over IsTyped us h

  aggregate_typed : (a : Aggregate) (operand : Expr) (at : ℕ) → ExprTyped operand → ExprTyped (tree.Aggregate a operand at)
  aggregate_typed a operand at is over = walks_same rows (λ aggs. walk-Aggregate names over aggs a operand at) (record {
    from = λ ts. walks_in_turn rows {f = op.aggregate_of over (length names.keys) a at} ((is Rows).from ts) (λ us k l h. aggregate_walks rows names.keys over us a at k (h rows refl));
  })

  in_list_typed : (e : Expr) (negated : Bool) (list : List Expr) (at : ℕ) → ExprTyped e → AllByRecursion ExprTyped list → ExprTyped (tree.In e negated list at)
  in_list_typed e negated list at is each over =
      let parts = parts_of names list in
      let stays = stays_seen rows names.keys over IsTyped in
      walks_same rows (λ aggs. walk-In names over aggs e negated list at)
      (walks_two rows {R = Typed over} stays (is over) (walks_every rows (Typed over) (items over parts) stays (items_walk over parts (parts_typed list each)))
      (λ us k ks h all. from_each over us (λ cols s. in_typed cols negated at k ks (h cols s) (each_seen rows names.keys over IsTyped us ks all cols s))))

  between_is_typed : (e : Expr) (negated : Bool) (low high : Expr) (at : ℕ) → ExprTyped e → ExprTyped low → ExprTyped high → ExprTyped (tree.Between e negated low high at)
  between_is_typed e negated low high at is from to over =
      let stays = stays_seen rows names.keys over IsTyped in
      walks_same rows (λ aggs. walk-Between names over aggs e negated low high at)
      (walks_three rows {S = Typed over} stays stays (is over) (from over) (to over)
      (λ us k l j g h i. from_each over us (λ cols s. between_typed cols negated at k l j (g cols s) (h cols s) (i cols s))))

  coalesce_typed : (list : List Expr) (at : ℕ) → AllByRecursion ExprTyped list → ExprTyped (tree.Coalesce list at)
  coalesce_typed list at each over =
      let parts = parts_of names list in
      walks_same rows (λ aggs. walk-Coalesce names over aggs list at)
      (walks_one rows {Q = Typed over} (walks_every rows (Typed over) (walks over parts) (stays_seen rows names.keys over IsTyped) (walks_walk over parts (parts_typed list each)))
      (λ us ks all. from_each over us (λ cols s. first_typed cols at ks (each_seen rows names.keys over IsTyped us ks all cols s))))

  case_is_typed : (arms : List Arm) (otherwise : Option Expr) (at : ℕ) → AllByRecursion (OfArm ExprTyped) arms → OfLast ExprTyped otherwise → ExprTyped (tree.Case arms otherwise at)
  case_is_typed arms otherwise at each last over =
      let parts = arms_of names arms in
      let stays = stays_seen rows names.keys over ArmIsTyped in
      walks_same rows (λ aggs. walk-Case names over aggs arms otherwise at)
      (walks_two rows {R = Typed over} (stays_each rows (ArmTyped over) stays)
      (walks_every rows (ArmTyped over) (arms_in over parts) stays (arms_walk over parts (arms_typed arms each)))
      (last_walks over at (part_of names otherwise) (last_typed otherwise last))
      (λ us ks k all h. from_each over us (λ cols s. case_typed cols at ks k (each_seen rows names.keys over ArmIsTyped us ks all cols s) (h cols s))))

  pub expr_walks : (e : Expr) (over : Over) → Walks (entry_types names.entries) (walk names e over) (Typed over)
  expr_walks = by_kinds ExprTyped (record {
    onLiteral = λ literal over. walks_same rows (λ aggs. walk-Literal names over aggs literal)
        (record { from = λ ts. walks_given rows {P = Typed over} ts (op.literal_of literal) (from_each over ts (λ cols s. literal_typed cols literal)) });
    onColumn = λ c over. walks_same rows (λ aggs. walk-Column names over aggs c)
        (record {
          from = λ ts. walks_given rows {P = Typed over} ts (next (column_seen names over c) (op.column_at (first_place c)))
              (gives_next (name_seen names over c ts) (λ column h. from_each over ts (λ cols s. column_typed cols (first_place c) column (h cols s))));
        });
    onParens = λ inner at is over. walks_same rows (λ aggs. walk-Parens names over aggs inner at) (walks_one rows {Q = Typed over} (is over) (λ us k h. from_each over us (λ cols s. parens_typed cols at k (h cols s))));
    onNegate = λ e at is over. walks_same rows (λ aggs. walk-Negate names over aggs e at) (walks_one rows {Q = Typed over} (is over) (λ us k h. from_each over us (λ cols s. negative_typed cols at k (h cols s))));
    onChain = λ first rest is each over. walks_same rows (λ aggs. walk-Chain names over aggs first rest)
        (record { from = λ ts. walks_in_turn rows {f = chain over (links_of names rest)} ((is over).from ts) (λ us k l h. chain_walks over (links_of names rest) us k (links_typed rest each) h) });
    onNot = λ e at is over. walks_same rows (λ aggs. walk-Not names over aggs e at) (walks_one rows {Q = Typed over} (is over) (λ us k h. from_each over us (λ cols s. not_typed cols at k (h cols s))));
    onCompare = λ c left right at is too over. walks_same rows (λ aggs. walk-Compare names over aggs c left right at)
        (walks_two rows {R = Typed over} (stays_seen rows names.keys over IsTyped) (is over) (too over) (λ us a b h k. from_each over us (λ cols s. compared_typed cols c at a b (h cols s) (k cols s))));
    onIsNull = λ e negated is over. walks_same rows (λ aggs. walk-IsNull names over aggs e negated) (walks_one rows {Q = Typed over} (is over) (λ us k h. from_each over us (λ cols s. null_typed cols negated k (h cols s))));
    onIn = in_list_typed;
    onLike = λ e negated pattern at is over. walks_same rows (λ aggs. walk-Like names over aggs e negated pattern at)
        (walks_one rows {Q = Typed over} (is over) (λ us k h. from_each over us (λ cols s. like_typed cols negated at pattern k (h cols s))));
    onBetween = between_is_typed;
    onCountAll = λ at over. walks_same rows (λ aggs. walk-CountAll names over aggs at) (record { from = λ ts. count_all_walks rows names.keys over ts at });
    onAggregate = aggregate_typed;
    onCoalesce = coalesce_typed;
    onCase = case_is_typed;
  })
