-- Which criteria and source queries a source's capabilities allow.
use Rattle.std.specs.Prelude.{ℕ, ◌-◌, Bool, true, false, not, ◌&&◌, ◌||◌, ◌==◌, if◌then◌else◌, nat_le, nat_lt, List, [], ◌∷◌, length, sum, Option, Some, None, is_none, pos, negsuc}
use Rattle.std.specs.List.{list_any}
use Rattle.vdb_base.specs.declared.value.Value.{Value}
use Rattle.vdb_base.specs.declared.value.Value.TheVariants.{Null, Bool as Truth, Num, Str}
use Rattle.vdb_base.specs.Fits.{is_between}
use Rattle.vdb_model.specs.declared.expr.Expr.{Expr}
use Rattle.vdb_model.specs.declared.expr.CmpOp.{CmpOp}
use Rattle.vdb_model.specs.declared.expr.CmpOp.TheVariants.{Eq, Ne, Lt, Le, Gt, Ge}
use Rattle.vdb_model.specs.declared.expr.Expr.TheOpen.{Expr-F, Arm-F}
use Rattle.vdb_model.specs.declared.expr.Expr.TheFolds.{fold-Expr}
use Rattle.vdb_model.specs.declared.source.Caps.{Caps}
use Rattle.vdb_model.specs.declared.table.TableDef.{TableDef}
use Rattle.vdb_model.specs.declared.rel.Key.{Key}
use Rattle.vdb_model.specs.Defs.{def_of, is_defined, all_below}
use Rattle.vdb_model.specs.declared.source.SourceQuery.{SourceQuery}

-- what an operand or criterion is: a column, a constant, or a criterion that is allowed
pub record Form : Type 0 where
  pub column : Option ℕ
  pub constant : Option Value
  pub allowed : Bool

abbrev pub criterion : Bool → Form
criterion b = record { column = None; constant = None; allowed = b }

abbrev pub is_column : Form → Bool
is_column f = has f.column
  where
    has : Option ℕ → Bool
    has None = false
    has (Some at) = true

-- a constant is never NULL, and past 64 signed bits it needs wide
abbrev pub good_value : Caps → Option Value → Bool
good_value caps None = false
good_value caps (Some Null) = false
good_value caps (Some (Truth b)) = true
good_value caps (Some (Num n)) = caps.wide || is_between (negsuc 9223372036854775807) (pos 9223372036854775807) n
good_value caps (Some (Str s)) = true

abbrev pub good_constant : Caps → Form → Bool
good_constant caps f = good_value caps f.constant

abbrev pub compares : Caps → CmpOp → Bool
compares caps Eq = caps.equals
compares caps Ne = caps.equals && caps.not
compares caps Lt = caps.ordered
compares caps Le = caps.ordered
compares caps Gt = caps.ordered
compares caps Ge = caps.ordered

-- two columns of one table, by the widths of the tables
abbrev pub together : List ℕ → ℕ → ℕ → Bool
together [] a b = true
together (w ∷ ws) a b = if nat_lt a w then nat_lt b w else (not (nat_lt b w) && together ws (a - w) (b - w))

abbrev pub is_equality : CmpOp → Bool
is_equality Eq = true
is_equality Ne = false
is_equality Lt = false
is_equality Le = false
is_equality Gt = false
is_equality Ge = false

-- two columns of different places
abbrev pub far : List ℕ → Option ℕ → Option ℕ → Bool
far widths (Some a) (Some b) = not (together widths a b)
far widths (Some a) None = false
far widths None b = false

abbrev pub any_form : List Form → Bool
any_form fs = nat_lt 0 (length fs)

abbrev pub all_allowed : List Form → Bool
all_allowed [] = true
all_allowed (f ∷ fs) = f.allowed && all_allowed fs

abbrev pub all_constants : Caps → List Form → Bool
all_constants caps [] = true
all_constants caps (f ∷ fs) = good_constant caps f && all_constants caps fs

abbrev pub form_step : Caps → List ℕ → Expr-F Form Bool → Form
form_step caps widths (Expr-F.Col at) = record { column = Some at; constant = None; allowed = false }
form_step caps widths (Expr-F.Var at) = criterion false
form_step caps widths (Expr-F.Const v) = record { column = None; constant = Some v; allowed = false }
form_step caps widths (Expr-F.Not e) = criterion (caps.not && e.allowed)
form_step caps widths (Expr-F.And es) = criterion (any_form es && all_allowed es)
form_step caps widths (Expr-F.Or es) = criterion (caps.or && any_form es && all_allowed es)
form_step caps widths (Expr-F.Cmp op a b) = criterion ((is_column a && good_constant caps b && compares caps op) || (is_equality op && caps.joins && far widths a.column b.column))
form_step caps widths (Expr-F.IsNull e) = criterion (is_column e && caps.is_null)
form_step caps widths (Expr-F.In e es) = criterion (is_column e && any_form es && nat_le (length es) caps.in_max && all_constants caps es)
form_step caps widths (Expr-F.Like e pattern) = criterion (is_column e && caps.like)
form_step caps widths (Expr-F.Arith op a b) = criterion false
form_step caps widths (Expr-F.Neg e) = criterion false
form_step caps widths (Expr-F.Concat es) = criterion false
form_step caps widths (Expr-F.Case arms last) = criterion false
form_step caps widths (Expr-F.Coalesce es) = criterion false

abbrev pub no_arm : Arm-F Form Bool → Bool
no_arm arm = false

unfoldable pub form : Caps → List ℕ → Expr → Form
form caps widths = fold-Expr Form Bool (form_step caps widths) no_arm

-- a criterion that the capabilities allow, over columns of tables of these widths
abbrev pub allowed : Caps → List ℕ → Expr → Bool
allowed caps widths e = (form caps widths e).allowed

abbrev pub forms : Caps → List ℕ → List Expr → List Form
forms caps widths [] = []
forms caps widths (e ∷ es) = form caps widths e ∷ forms caps widths es

abbrev pub all_criteria : Caps → List ℕ → List Expr → Bool
all_criteria caps widths [] = true
all_criteria caps widths (e ∷ es) = allowed caps widths e && all_criteria caps widths es

-- how many columns each of the tables has
abbrev pub widths_of : List TableDef → List ℕ → List ℕ
widths_of defs [] = []
widths_of defs (t ∷ ts) = length (def_of defs t).columns ∷ widths_of defs ts

abbrev pub all_defined : List TableDef → List ℕ → Bool
all_defined defs [] = true
all_defined defs (t ∷ ts) = is_defined defs t && all_defined defs ts

-- all of one server
abbrev pub all_served : List TableDef → ℕ → List ℕ → Bool
all_served defs server [] = true
all_served defs server (t ∷ ts) = (def_of defs t).server == server && all_served defs server ts

abbrev pub of_one_server : List TableDef → List ℕ → Bool
of_one_server defs [] = true
of_one_server defs (t ∷ ts) = all_served defs (def_of defs t).server ts

-- each key names one of the columns
abbrev pub all_asked : List ℕ → List Key → Bool
all_asked columns [] = true
all_asked columns (key ∷ keys) = list_any (λ c. c == key.column) columns && all_asked columns keys

-- a count is of one table, with nothing else asked
abbrev pub is_count_alone : SourceQuery → Bool
is_count_alone q = length q.tables == 1 && length q.columns == 0 && not q.distinct && length q.order == 0 && is_none q.limit

abbrev pub joins_allowed : Caps → SourceQuery → Bool
joins_allowed caps q = nat_lt (length q.tables) 2 || caps.joins

abbrev pub order_allowed : Caps → SourceQuery → Bool
order_allowed caps q = length q.order == 0 || (caps.order && all_asked q.columns q.order)

abbrev pub count_allowed : Caps → SourceQuery → Bool
count_allowed caps q = not q.count || (caps.count_star && is_count_alone q)

-- joins, DISTINCT, an order, a limit and a count as far as the capabilities have them
abbrev pub shape_allowed : Caps → SourceQuery → Bool
shape_allowed caps q = joins_allowed caps q && (not q.distinct || caps.distinct) && order_allowed caps q && (is_none q.limit || caps.limit) && count_allowed caps q

-- one table or more, all of them defined and of one server, and columns that they have
abbrev pub names_known : List TableDef → SourceQuery → Bool
names_known defs q = nat_lt 0 (length q.tables) && all_defined defs q.tables && of_one_server defs q.tables && all_below (sum (widths_of defs q.tables)) q.columns

-- the query is within the capabilities, over the definitions of a source's tables
abbrev pub can : Caps → List TableDef → SourceQuery → Bool
can caps defs q = names_known defs q && all_criteria caps (widths_of defs q.tables) q.filter && shape_allowed caps q
