-- What the walk of an expression gives reads no variable, and neither do the aggregates that it meets.
use Rattle.std.proofs.Common.{ℕ, List, [], ◌∷◌, length, Option, Some, None, Ok}
use Rattle.std.specs.List.{AllByRecursion}
use Rattle.sql_reader.specs.declared.tree.expr.Arm.{Arm}
use Rattle.sql_reader.specs.declared.tree.expr.Expr.{Expr}
use Rattle.sql_reader.specs.declared.tree.expr.Link.{Link}
use Rattle.sql_reader.specs.declared.tree.expr.Operator.{Operator}
use Rattle.sql_reader.specs.declared.tree.expr.Operator.TheVariants.{Or, And, Concat, Add, Subtract, Multiply}
use Rattle.expr_resolver.specs.declared.known.Known.{Known}
use Rattle.expr_resolver.specs.declared.scope.Names.{Names}
use Rattle.expr_resolver.specs.declared.scope.Over.{Over}
use Rattle.expr_resolver.specs.declared.scope.Over.TheVariants.{Rows}
use Rattle.expr_resolver.specs.Walking.{next, given, one, all}
use Rattle.expr_resolver.specs.Scope.{column_seen, first_place}
use Rattle.expr_resolver.specs.Operators as op
use Rattle.expr_resolver.specs.Exprs.{Part, ArmPart, LinkPart, walk, walks, operands, all_operands, listed, computed, chain_by, chain, items, arms_in, last_in, parts_of, links_of, arms_of, part_of}
use Rattle.expr_resolver.proofs.ByKinds.{walk-Literal, walk-Column, walk-Parens, walk-Negate, walk-Chain, walk-Not, walk-Compare, walk-IsNull, walk-In, walk-Like, walk-Between, walk-CountAll, walk-Aggregate, walk-Coalesce, walk-Case}
use Rattle.walk_laws.proofs.ClosedKnown.{Shut, ShutArm, literal_shut, column_shut, parens_shut, needs_shut, condition_shut, negative_shut, arithmetic_shut, chained_shut, not_shut, compared_shut, null_shut, item_shut, in_shut, like_shut, between_shut, first_shut, arm_shut, case_shut, nothing_shut, count_all_shut, aggregate_shut}
use Rattle.walk_laws.proofs.Gives.{gives, gives_any, gives_next}
use Rattle.walk_laws.proofs.WalkClosed.{Walks, walks_same, walks_given, walks_in_turn, walks_one, walks_two, walks_three, AllWalk, walks_all}
use Rattle.walk_laws.proofs.TreeByKinds.{OfArm, OfLink, OfLast, by_kinds}

-- the walk of a part gives such an expression, over the rows and over the groups
abbrev pub PartShut : Part → Type 0
PartShut part = (over : Over) → Walks (part over) Shut

abbrev LinkShut : LinkPart → Type 0
LinkShut link = PartShut link.operand

abbrev ArmPartShut : ArmPart → Type 0
ArmPartShut arm = PartShut arm.condition × PartShut arm.value

abbrev LastShut : Option Part → Type 0
LastShut None = Unit {0}
LastShut (Some part) = PartShut part

operands_walk : (o : Operator) (over : Over) (links : List LinkPart) → AllByRecursion LinkShut links → AllWalk Shut (operands o over links)
operands_walk o over [] all = tt
operands_walk o over (link ∷ links) all = (walks_one (all.0 over) (needs_shut (op.chain_type o) link.at), operands_walk o over links all.1)

listed_walks : (o : Operator) (over : Over) (at : ℕ) (links : List LinkPart) (k : Known) → AllByRecursion LinkShut links → Shut k → Walks (listed o over at links k) Shut
unfolding listed
listed_walks o over at links k shut h =
    let first : Walks (given (op.needs (op.chain_type o) at k)) Shut = walks_given (op.needs (op.chain_type o) at k) (needs_shut (op.chain_type o) at k h) in
    let each : Walks (all_operands o over at links k) (AllByRecursion Shut) =
    walks_in_turn first (λ j i. walks_all Shut (operands o over links) (j ∷ []) (operands_walk o over links shut) (i, tt)) in
    walks_one each (chained_shut o k.first)

computed_walks : (over : Over) (links : List LinkPart) (k : Known) → AllByRecursion LinkShut links → Shut k → Walks (computed over links k) Shut
computed_walks over [] k all h = walks_given (Ok k) (gives Shut k h)
computed_walks over (link ∷ links) k all h =
    let step : Walks (one (link.operand over) (op.arithmetic (op.arith_op link.operator) link.at k)) Shut =
    walks_one (all.0 over) (λ j i. arithmetic_shut (op.arith_op link.operator) link.at k j h i) in
    walks_in_turn step (λ j i. computed_walks over links j all.1 i)

chain_by_walks : (o : Operator) (over : Over) (at : ℕ) (links : List LinkPart) (k : Known) → AllByRecursion LinkShut links → Shut k → Walks (chain_by o over at links k) Shut
chain_by_walks Or over at links k all h = listed_walks Or over at links k all h
chain_by_walks And over at links k all h = listed_walks And over at links k all h
chain_by_walks Concat over at links k all h = listed_walks Concat over at links k all h
chain_by_walks Add over at links k all h = computed_walks over links k all h
chain_by_walks Subtract over at links k all h = computed_walks over links k all h
chain_by_walks Multiply over at links k all h = computed_walks over links k all h

chain_walks : (over : Over) (links : List LinkPart) (k : Known) → AllByRecursion LinkShut links → Shut k → Walks (chain over links k) Shut
chain_walks over [] k all h = walks_given (Ok k) (gives Shut k h)
chain_walks over (link ∷ links) k all h = chain_by_walks link.operator over link.at (link ∷ links) k all h

items_walk : (over : Over) (parts : List Part) → AllByRecursion PartShut parts → AllWalk Shut (items over parts)
items_walk over [] all = tt
items_walk over (part ∷ parts) all = (walks_one (all.0 over) item_shut, items_walk over parts all.1)

walks_walk : (over : Over) (parts : List Part) → AllByRecursion PartShut parts → AllWalk Shut (walks over parts)
walks_walk over [] all = tt
walks_walk over (part ∷ parts) all = (all.0 over, walks_walk over parts all.1)

arms_walk : (over : Over) (arms : List ArmPart) → AllByRecursion ArmPartShut arms → AllWalk ShutArm (arms_in over arms)
arms_walk over [] all = tt
arms_walk over (arm ∷ arms) all =
    let condition : Walks (one (arm.condition over) op.condition) Shut = walks_one (all.0.0 over) condition_shut in
    (walks_two condition (all.0.1 over) arm_shut, arms_walk over arms all.1)

last_walks : (over : Over) (at : ℕ) (last : Option Part) → LastShut last → Walks (last_in over at last) Shut
last_walks over at None h = walks_given (Ok (op.nothing at)) (gives Shut (op.nothing at) (nothing_shut at))
last_walks over at (Some part) h = h over

module _ (names : Names) where
  abbrev ExprShut : Expr → Type 0
  ExprShut e = PartShut (walk names e)

  parts_shut : (es : List Expr) → AllByRecursion ExprShut es → AllByRecursion PartShut (parts_of names es)
  parts_shut [] all = tt
  parts_shut (e ∷ es) all = (all.0, parts_shut es all.1)

  links_shut : (links : List Link) → AllByRecursion (OfLink ExprShut) links → AllByRecursion LinkShut (links_of names links)
  links_shut [] all = tt
  links_shut (link ∷ links) all = (all.0, links_shut links all.1)

  arms_shut : (arms : List Arm) → AllByRecursion (OfArm ExprShut) arms → AllByRecursion ArmPartShut (arms_of names arms)
  arms_shut [] all = tt
  arms_shut (arm ∷ arms) all = (all.0, arms_shut arms all.1)

  last_shut : (last : Option Expr) → OfLast ExprShut last → LastShut (part_of names last)
  last_shut None h = tt
  last_shut (Some e) h = h

  pub expr_walks : (e : Expr) (over : Over) → Walks (walk names e over) Shut
  expr_walks = by_kinds ExprShut (record {
    onLiteral = λ literal over. walks_same (λ aggs. walk-Literal names over aggs literal) (walks_given (op.literal_of literal) (literal_shut literal));
    onColumn = λ c over. walks_same (λ aggs. walk-Column names over aggs c)
        (walks_given (next (column_seen names over c) (op.column_at (first_place c))) (gives_next (gives_any (column_seen names over c)) (λ column h. column_shut (first_place c) column)));
    onParens = λ inner at is over. walks_same (λ aggs. walk-Parens names over aggs inner at) (walks_one (is over) (parens_shut at));
    onNegate = λ e at is over. walks_same (λ aggs. walk-Negate names over aggs e at) (walks_one (is over) (negative_shut at));
    onChain = λ first rest is all over. walks_same (λ aggs. walk-Chain names over aggs first rest) (walks_in_turn (is over) (λ k h. chain_walks over (links_of names rest) k (links_shut rest all) h));
    onNot = λ e at is over. walks_same (λ aggs. walk-Not names over aggs e at) (walks_one (is over) (not_shut at));
    onCompare = λ c left right at is too over. walks_same (λ aggs. walk-Compare names over aggs c left right at) (walks_two (is over) (too over) (compared_shut c at));
    onIsNull = λ e negated is over. walks_same (λ aggs. walk-IsNull names over aggs e negated) (walks_one (is over) (null_shut negated));
    onIn = λ e negated list at is each over. walks_same (λ aggs. walk-In names over aggs e negated list at)
        (walks_two (is over) (walks_all Shut (items over (parts_of names list)) [] (items_walk over (parts_of names list) (parts_shut list each)) tt) (in_shut negated at));
    onLike = λ e negated pattern at is over. walks_same (λ aggs. walk-Like names over aggs e negated pattern at) (walks_one (is over) (like_shut negated at pattern));
    onBetween = λ e negated low high at is from to over. walks_same (λ aggs. walk-Between names over aggs e negated low high at) (walks_three (is over) (from over) (to over) (between_shut negated at));
    onCountAll = λ at over. walks_same (λ aggs. walk-CountAll names over aggs at) (count_all_shut over (length names.keys) at);
    onAggregate = λ a e at is over. walks_same (λ aggs. walk-Aggregate names over aggs a e at) (walks_in_turn (is Rows) (aggregate_shut over (length names.keys) a at));
    onCoalesce = λ list at each over. walks_same (λ aggs. walk-Coalesce names over aggs list at)
        (walks_one (walks_all Shut (walks over (parts_of names list)) [] (walks_walk over (parts_of names list) (parts_shut list each)) tt) (first_shut at));
    onCase = λ arms last at each is over. walks_same (λ aggs. walk-Case names over aggs arms last at)
        (walks_two (walks_all ShutArm (arms_in over (arms_of names arms)) [] (arms_walk over (arms_of names arms) (arms_shut arms each)) tt) (last_walks over at (part_of names last) (last_shut last is)) (case_shut at));
  })
