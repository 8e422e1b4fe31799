-- What the tokens of names and literals say.
use Rattle.std.specs.Prelude.{ℕ, Bool, true, false, List, [], ◌∷◌, ◌++◌, Option, Some, None}
use Rattle.vdb_base.specs.declared.value.Value.{Value}
use Rattle.vdb_base.specs.declared.value.Value.TheVariants.{Null, Bool as Truth, Num, Str}
use Rattle.sql_reader.specs.declared.tree.name.Name.{Name}
use Rattle.sql_reader.specs.declared.tree.name.RelationName.{RelationName}
use Rattle.sql_reader.specs.declared.tree.name.ColumnName.{ColumnName}
use Rattle.sql_reader.specs.declared.tree.name.ColumnName.TheVariants.{Plain, Of, InSchema}
use Rattle.sql_reader.specs.declared.tree.expr.Constant.{Constant}
use Rattle.sql_reader.specs.declared.tree.expr.Constant.TheVariants as constant
use Rattle.sql_reader.specs.declared.tree.expr.Literal.{Literal}
use Rattle.sql_reader.specs.Symbols as symbol
use Rattle.sql_printer.specs.Said.{Said, Word, Named, Text, Number, Fraction, word, named, one}

abbrev pub name : Name → List Said
name n = named n.text

-- a name, and what it stands in before it
abbrev pub within : Option Name → List Said
within None = []
within (Some n) = name n ++ word symbol.DOT

abbrev pub relation : RelationName → List Said
relation r = within r.schema ++ name r.name

abbrev pub column : ColumnName → List Said
column (Plain n) = name n
column (Of r n) = name r ++ word symbol.DOT ++ name n
column (InSchema s r n) = name s ++ word symbol.DOT ++ name r ++ word symbol.DOT ++ name n

-- without AS
abbrev pub alias : Option Name → List Said
alias None = []
alias (Some n) = name n

-- a word where it is written
abbrev pub optional : Bool → ℕ → List Said
optional true kind = word kind
optional false kind = []

abbrev pub value_said : Value → ℕ → Said
value_said Null whole = Word symbol.NULL
value_said (Truth true) whole = Word symbol.TRUE
value_said (Truth false) whole = Word symbol.FALSE
value_said (Num n) whole = Number whole
value_said (Str text) whole = Text text

-- without a sign
abbrev pub constant_said : Constant → ℕ → Said
constant_said (constant.Value v) whole = value_said v whole
constant_said constant.Fraction whole = Fraction
constant_said constant.TooLong whole = Number whole

abbrev pub literal : Literal → List Said
literal l = optional l.negative symbol.MINUS ++ one (constant_said l.constant l.whole)
