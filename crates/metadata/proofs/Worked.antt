-- Deployments that are worked by hand, by computing.
use Rattle.std.proofs.Common.{◌≡◌, ℕ, ◌++◌, List, [], ◌∷◌, Some, None, Ok, Err, pos, refl, true, false}
use Rattle.std.specs.Prelude.{codes, Result}
use Prim.Native.String.{String}
use Rattle.vdb_base.specs.declared.value.Value.TheVariants.{Bool as Truth, Num, Str}
use Rattle.vdb_base.specs.declared.value.Ty.TheVariants as ty
use Rattle.vdb_model.specs.declared.reply.DeployFault.{DeployFault}
use Rattle.vdb_model.specs.declared.reply.DeployFault.TheVariants.{Duplicate, Unknown, FractionalType, BadOption, NoConnection, WrongKind, Limit}
use Rattle.vdb_model.specs.declared.reply.Refusal.TheVariants.{Syntax}
use Rattle.vdb_model.specs.declared.source.Caps.{Caps}
use Rattle.vdb_model.specs.declared.table.Kind.TheVariants.{Mem, Csv}
use Rattle.vdb_model.specs.Defined.{Defined}
use Rattle.vdb_model.specs.NameText.{name_text}
use Rattle.sql_reader.specs.declared.tree.expr.Constant.TheVariants as constant
use Rattle.sql_reader.specs.declared.tree.name.Name.{Name}
use Rattle.vdb_ddl.specs.declared.tree.Item.{Item}
use Rattle.vdb_ddl.specs.declared.tree.Item.TheVariants.{CreateDatabase, UseDatabase, CreateServer, CreateSchema, CreateVirtualSchema, SetSchema, CreateTable}
use Rattle.vdb_ddl.specs.declared.tree.Setting.{Setting}
use Rattle.vdb_ddl.specs.declared.tree.TablePart.{TablePart}
use Rattle.vdb_ddl.specs.declared.tree.TablePart.TheVariants.{Column, PrimaryKey}
use Rattle.metadata.specs.declared.connection.ConnInfo.{ConnInfo}
use Rattle.metadata.specs.Deployed.{deployed}
use Rattle.metadata.specs.Views.{Walk}
use Rattle.metadata.specs.Options.{truth_of, in_size_of, without_of, lowered}

-- no view is made here
abbrev no_walk : Walk
no_walk defined query = Err (Syntax 0)

abbrev named : String → ℕ → Name
named text at = record { text = codes text; at = at }

-- a name whose place doesn't matter
abbrev name : String → Name
name text = named text 0

-- what a store in memory can do
abbrev mem_caps : Caps
mem_caps = record { equals = true; ordered = true; in_max = 1000; is_null = true; like = true; or = true; not = true; joins = true; distinct = true; order = true; limit = true; count_star = true; wide = true; writes = true }

abbrev csv_caps : Caps
csv_caps = record { equals = true; ordered = false; in_max = 1000; is_null = true; like = false; or = false; not = false; joins = false; distinct = false; order = false; limit = false; count_star = false; wide = true; writes = false }

abbrev mem : String → ConnInfo
mem text = record { name = codes text; kind = Mem; caps = mem_caps }

abbrev csv : String → ConnInfo
csv text = record { name = codes text; kind = Csv; caps = csv_caps }

abbrev string : ℕ → String → String → Setting
string at option text = record { name = name option; value = record { constant = constant.Value (Str (codes text)); negative = false; whole = 0; at = at } }

abbrev numeral : ℕ → String → ℕ → Setting
numeral at option n = record { name = name option; value = record { constant = constant.Value (Num (pos n)); negative = false; whole = n; at = at } }

abbrev column : String → String → TablePart
column text type = Column (name text) (name type) false []

abbrev required : String → String → TablePart
required text type = Column (name text) (name type) true []

-- a server s in memory, its schema a, which is set
abbrev begun : List Item
begun = CreateDatabase (name "d") [] ∷ UseDatabase (name "d") ∷ CreateServer (name "s") (name "mem") [] ∷ CreateSchema (name "a") (name "s") [] ∷ SetSchema (name "a") ∷ []

-- CREATE DATABASE d;USE DATABASE d;CREATE SERVER s FOREIGN DATA WRAPPER mem;CREATE SCHEMA a SERVER s;SET SCHEMA a;CREATE FOREIGN TABLE t (x double);
fractional : deployed no_walk (mem "s" ∷ []) (begun ++ CreateTable (name "t") (Column (name "x") (named "double" 138) false [] ∷ []) [] ∷ []) ≡ Err (FractionalType 138)
fractional = refl

-- nothing but blanks, with a connection
unserved_connection : deployed no_walk (mem "crm" ∷ []) [] ≡ Err (Unknown (codes "crm"))
unserved_connection = refl

-- a table of the shop; a key's column is NOT NULL also where that isn't written
abbrev shop : List Item
shop = CreateServer (name "crm") (name "mem") [] ∷ CreateServer (name "ref") (name "csv") (numeral 9 "maxincriteriasize" 40 ∷ []) ∷ CreateSchema (name "c") (name "crm") [] ∷ CreateSchema (name "r") (name "ref") []
    ∷ CreateVirtualSchema (name "v") [] ∷ SetSchema (name "c") ∷ CreateTable (name "cust") (column "id" "int" ∷ column "name" "string" ∷ PrimaryKey (name "id" ∷ []) ∷ []) []
    ∷ SetSchema (name "r") ∷ CreateTable (name "price") (column "item" "varchar" ∷ column "cents" "bigint" ∷ column "vip" "boolean" ∷ []) (string 5 "updatable" "False" ∷ string 6 "cardinality" "x" ∷ []) ∷ []

abbrev shop_catalog : Defined
shop_catalog = record {
  servers = record { name = codes "crm"; kind = Mem; caps = mem_caps } ∷ record { name = codes "ref"; kind = Csv; caps = record csv_caps { in_max = 40 } } ∷ [];
  schemas = record { name = codes "c"; server = Some 0 } ∷ record { name = codes "r"; server = Some 1 } ∷ record { name = codes "v"; server = None } ∷ [];
  tables = record {
    number = 0;
    server = 0;
    schema = codes "c";
    name = codes "cust";
    source = codes "cust";
    columns = record { name = codes "id"; source = codes "id"; ty = ty.Integer; not_null = true } ∷ record { name = codes "name"; source = codes "name"; ty = ty.Str; not_null = false } ∷ [];
    key = Some (0 ∷ []);
    patterns = [];
    updatable = true;
  } ∷ record {
    number = 1;
    server = 1;
    schema = codes "r";
    name = codes "price";
    source = codes "price";
    columns = record { name = codes "item"; source = codes "item"; ty = ty.Str; not_null = false } ∷ record { name = codes "cents"; source = codes "cents"; ty = ty.Long; not_null = false } ∷ record { name = codes "vip"; source = codes "vip"; ty = ty.Boolean; not_null = false } ∷ [];
    key = None;
    patterns = [];
    updatable = false;
  } ∷ [];
  views = [];
  procedures = [];
  triggers = [];
}

shop_deploys : deployed no_walk (mem "crm" ∷ csv "ref" ∷ []) shop ≡ Ok shop_catalog
shop_deploys = refl

-- one item with several faults, each time without the first
abbrev table_in : List Item → List TablePart → List Setting → Result Defined DeployFault
table_in before parts options = deployed no_walk (mem "s" ∷ []) (before ++ CreateTable (name "t") parts options ∷ [])

-- 33 before 37
order_33 : table_in (CreateServer (name "s") (name "mem") [] ∷ CreateVirtualSchema (name "v") [] ∷ SetSchema (name "v") ∷ []) (column "x" "nosuch" ∷ []) [] ≡ Err (Unknown (codes "nosuch"))
order_33 = refl

-- 37 before 34
order_37 : table_in (CreateServer (name "s") (name "mem") [] ∷ CreateVirtualSchema (name "v") [] ∷ SetSchema (name "v") ∷ []) (column "x" "real" ∷ []) [] ≡ Err (WrongKind (codes "v.t"))
order_37 = refl

-- 32 before 34: a second column of a name; of a folded source name; a second key
order_32 : (table_in begun (column "x" "real" ∷ column "x" "int" ∷ []) [] ≡ Err (Duplicate (codes "x")))
    × (table_in begun (column "x" "real" ∷ Column (name "y") (name "int") false (string 7 "nameinsource" "X" ∷ []) ∷ []) [] ≡ Err (Duplicate (codes "y")))
    × (table_in begun (column "x" "real" ∷ PrimaryKey (name "x" ∷ []) ∷ PrimaryKey (name "x" ∷ []) ∷ []) [] ≡ Err (Duplicate (codes "a.t")))
order_32 = (refl, refl, refl)

-- 34 before 35
order_34 : table_in begun (Column (name "x") (named "real" 3) false (string 7 "nameinsource" "" ∷ []) ∷ []) [] ≡ Err (FractionalType 3)
order_34 = refl

-- 35: options of columns before those of the table; an option that doesn't count is ignored; each value is tested
order_35 : (table_in begun (Column (name "x") (name "int") false (string 6 "updatable" "?" ∷ string 7 "nameinsource" "" ∷ []) ∷ []) (string 8 "updatable" "?" ∷ []) ≡ Err (BadOption 7))
    × (table_in begun (column "x" "int" ∷ []) (string 8 "updatable" "?" ∷ string 9 "updatable" "true" ∷ []) ≡ Err (BadOption 8))
order_35 = (refl, refl)

-- 39: no column; a name without a byte, and 35 before that
limits : (table_in begun [] [] ≡ Err (Limit (codes "a.t") 0))
    × (table_in begun (column "x" "int" ∷ column "" "int" ∷ []) [] ≡ Err (Limit (name_text []) 0))
    × (table_in begun (Column (name "") (name "int") false (string 7 "nameinsource" "" ∷ []) ∷ []) [] ≡ Err (BadOption 7))
limits = (refl, refl, refl)

-- a server: 33 before 37, 37 before 32, 36 where no connection has its name
servers : (deployed no_walk (mem "s" ∷ []) (CreateServer (name "s") (name "nosuch") [] ∷ []) ≡ Err (Unknown (codes "nosuch")))
    × (deployed no_walk (mem "s" ∷ []) (CreateServer (name "s") (name "csv") [] ∷ []) ≡ Err (WrongKind (codes "s")))
    × (deployed no_walk (mem "s" ∷ []) (CreateServer (name "t") (name "mem") [] ∷ []) ≡ Err (NoConnection (codes "t")))
    × (deployed no_walk (mem "s" ∷ []) (CreateServer (name "s") (name "mem") [] ∷ CreateServer (name "s") (name "mem") [] ∷ []) ≡ Err (Duplicate (codes "s")))
servers = (refl, refl, refl, refl)

-- values of options
values : (truth_of (constant.Value (Str (codes "tRUE"))) ≡ Some true) × (truth_of (constant.Value (Truth false)) ≡ Some false) × (truth_of (constant.Value (Num (pos 1))) ≡ None)
    × (in_size_of (constant.Value (Str (codes "0040"))) ≡ Some 40) × (in_size_of (constant.Value (Num (pos 1001))) ≡ None) × (in_size_of (constant.Value (Str (codes " 5"))) ≡ None)
    × (without_of (constant.Value (Str (codes "OrderBy,InCriteria"))) ≡ Some (codes "OrderBy" ∷ codes "InCriteria" ∷ []))
    × (without_of (constant.Value (Str (codes "OrderBy, InCriteria"))) ≡ None) × (without_of (constant.Value (Str (codes ""))) ≡ None) × (without_of (constant.Value (Str (codes "writes"))) ≡ None)
values = (refl, refl, refl, refl, refl, refl, refl, refl, refl, refl)

-- the last of an option counts, and both options lower
lowering : lowered (string 1 "without" "WideConstants" ∷ string 2 "without" "LikeCriteria,OrCriteria" ∷ numeral 3 "maxincriteriasize" 7 ∷ []) mem_caps
    ≡ record mem_caps { in_max = 7; like = false; or = false }
lowering = refl
