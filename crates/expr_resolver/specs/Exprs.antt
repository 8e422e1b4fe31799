-- The walk over an expression: operands from left to right, and the operator after them.
use Rattle.std.specs.Prelude.{ℕ, List, [], ◌∷◌, length, Option, Some, None, Ok}
use Rattle.sql_reader.specs.declared.tree.expr.Expr.{Expr}
use Rattle.sql_reader.specs.declared.tree.expr.Expr.TheOpen.{Expr-F, Link-F, Arm-F}
use Rattle.sql_reader.specs.declared.tree.expr.Expr.TheFolds.{fold-Expr}
use Rattle.sql_reader.specs.declared.tree.expr.Link.{Link, out-Link}
use Rattle.sql_reader.specs.declared.tree.expr.Arm.{Arm, out-Arm}
use Rattle.sql_reader.specs.declared.tree.expr.Operator.{Operator}
use Rattle.sql_reader.specs.declared.tree.expr.Operator.TheVariants.{Or, And, Concat, Add, Subtract, Multiply}
use Rattle.expr_resolver.specs.declared.known.Known.{Known}
use Rattle.expr_resolver.specs.declared.known.KnownArm.{KnownArm}
use Rattle.expr_resolver.specs.declared.scope.Names.{Names}
use Rattle.expr_resolver.specs.declared.scope.Over.{Over}
use Rattle.expr_resolver.specs.declared.scope.Over.TheVariants.{Rows}
use Rattle.expr_resolver.specs.Walking.{next, Walk, given, in_turn, one, two, three, all}
use Rattle.expr_resolver.specs.Scope.{column_seen, first_place}
use Rattle.expr_resolver.specs.Operators as op

-- the walk of a part, over the rows or over the groups
abbrev pub Part : Type 0
Part = Over → Walk Known

-- the operator of a chain with the walk of the operand after it
pub record LinkPart : Type 0 where
  pub operator : Operator
  pub operand : Part
  pub at : ℕ

pub record ArmPart : Type 0 where
  pub condition : Part
  pub value : Part

abbrev pub walks : Over → List Part → List (Walk Known)
walks over [] = []
walks over (part ∷ parts) = part over ∷ walks over parts

-- operands of a chain of OR, of AND or of `||`: each is of the type, which the word or the sign before it needs
abbrev pub operands : Operator → Over → List LinkPart → List (Walk Known)
operands o over [] = []
operands o over (link ∷ links) = one (link.operand over) (op.needs (op.chain_type o) link.at) ∷ operands o over links

-- of the first one it is that behind it
abbrev pub all_operands : Operator → Over → ℕ → List LinkPart → Known → Walk (List Known)
all_operands o over at links first = in_turn (given (op.needs (op.chain_type o) at first)) (λ k. all (operands o over links) (k ∷ []))

unfoldable pub listed : Operator → Over → ℕ → List LinkPart → Known → Walk Known
listed o over at links first = one (all_operands o over at links first) (op.chained o first.first)

-- arithmetic goes from left to right
abbrev pub computed : Over → List LinkPart → Known → Walk Known
computed over [] k = given (Ok k)
computed over (link ∷ links) k = in_turn (one (link.operand over) (op.arithmetic (op.arith_op link.operator) link.at k)) (computed over links)

abbrev pub chain_by : Operator → Over → ℕ → List LinkPart → Known → Walk Known
chain_by Or = listed Or
chain_by And = listed And
chain_by Concat = listed Concat
chain_by Add = λ over at. computed over
chain_by Subtract = λ over at. computed over
chain_by Multiply = λ over at. computed over

abbrev pub chain : Over → List LinkPart → Known → Walk Known
chain over [] first = given (Ok first)
chain over (link ∷ links) first = chain_by link.operator over link.at (link ∷ links) first

-- the items of IN, of which none has a column
abbrev pub items : Over → List Part → List (Walk Known)
items over [] = []
items over (part ∷ parts) = one (part over) op.item_of ∷ items over parts

-- a condition of CASE is tested before its value
abbrev pub arm_in : Over → ArmPart → Walk KnownArm
arm_in over arm = two (one (arm.condition over) op.condition) (arm.value over) op.arm_of

abbrev pub arms_in : Over → List ArmPart → List (Walk KnownArm)
arms_in over [] = []
arms_in over (arm ∷ arms) = arm_in over arm ∷ arms_in over arms

abbrev pub last_in : Over → ℕ → Option Part → Walk Known
last_in over at None = given (Ok (op.nothing at))
last_in over at (Some part) = part over

-- one layer of an expression, by the walks of its parts
abbrev pub walk_step : Names → Expr-F Part ArmPart LinkPart → Part
walk_step names (Expr-F.Literal literal) over = given (op.literal_of literal)
walk_step names (Expr-F.Column c) over = given (next (column_seen names over c) (op.column_at (first_place c)))
walk_step names (Expr-F.Parens inner at) over = one (inner over) (op.in_parens at)
walk_step names (Expr-F.Negate operand at) over = one (operand over) (op.negative at)
walk_step names (Expr-F.Chain first rest) over = in_turn (first over) (chain over rest)
walk_step names (Expr-F.Not operand at) over = one (operand over) (op.not_of at)
walk_step names (Expr-F.Compare c left right at) over = two (left over) (right over) (op.compared c at)
walk_step names (Expr-F.IsNull operand negated) over = one (operand over) (op.null_test negated)
walk_step names (Expr-F.In operand negated list at) over = two (operand over) (all (items over list) []) (op.in_list negated at)
walk_step names (Expr-F.Like operand negated pattern at) over = one (operand over) (op.like_test negated at pattern)
walk_step names (Expr-F.Between operand negated low high at) over = three (operand over) (low over) (high over) (op.between negated at)
walk_step names (Expr-F.CountAll at) over = op.count_all over (length names.keys) at
walk_step names (Expr-F.Aggregate a operand at) over = in_turn (operand Rows) (op.aggregate_of over (length names.keys) a at)
walk_step names (Expr-F.Coalesce list at) over = one (all (walks over list) []) (op.first_of at)
walk_step names (Expr-F.Case arms otherwise at) over = two (all (arms_in over arms) []) (last_in over at otherwise) (op.case_of at)

abbrev pub link_step : Link-F Part ArmPart LinkPart → LinkPart
link_step link = record { operator = link.operator; operand = link.operand; at = link.at }

abbrev pub arm_step : Arm-F Part ArmPart LinkPart → ArmPart
arm_step arm = record { condition = arm.condition; value = arm.value }

unfoldable pub walk : Names → Expr → Part
walk names = fold-Expr Part ArmPart LinkPart (walk_step names) arm_step link_step

-- the walks of parts of trees
abbrev pub parts_of : Names → List Expr → List Part
parts_of names [] = []
parts_of names (e ∷ es) = walk names e ∷ parts_of names es

abbrev pub link_of : Names → Link → LinkPart
link_of names link = record { operator = (out-Link link).operator; operand = walk names (out-Link link).operand; at = (out-Link link).at }

abbrev pub links_of : Names → List Link → List LinkPart
links_of names [] = []
links_of names (link ∷ links) = link_of names link ∷ links_of names links

abbrev pub arm_of : Names → Arm → ArmPart
arm_of names arm = record { condition = walk names (out-Arm arm).condition; value = walk names (out-Arm arm).value }

abbrev pub arms_of : Names → List Arm → List ArmPart
arms_of names [] = []
arms_of names (arm ∷ arms) = arm_of names arm ∷ arms_of names arms

abbrev pub part_of : Names → Option Expr → Option Part
part_of names None = None
part_of names (Some e) = Some (walk names e)
