-- From a statement to its query, and to the query's rows.
use Rattle.std.specs.Prelude.{◌≡◌, ◌⊎◌, ℕ, ◌<◌, Bool, true, false, List, [], length, Result, Ok, Err, IfSome, ⊤}
use Rattle.processor.specs.Reads.{reads, mark}
use Rattle.vdb_model.specs.declared.rel.Ranked.{Ranked}
use Rattle.vdb_model.specs.declared.rel.Rel.{Rel}
use Rattle.vdb_model.specs.declared.reply.Refusal.{Refusal}
use Rattle.vdb_model.specs.declared.reply.Refusal.TheVariants as refusal
use Rattle.vdb_model.specs.declared.typed.Typed.{Typed}
use Rattle.vdb_model.specs.declared.typed.Typed.TheVariants as typed
use Rattle.vdb_model.specs.Arranged.{Arranged}
use Rattle.vdb_model.specs.Defined.{Defined}
use Rattle.vdb_model.specs.declared.catalog.ViewDef.{ViewDef}
use Rattle.vdb_model.specs.Rows.{Cells}
use Rattle.vdb_model.specs.Sizes.{nodes_of, depth_of}
use Rattle.vdb_model.specs.World.{rows_in}
use Rattle.sql_reader.specs.declared.tree.statement.Statement.{Statement}
use Rattle.sql_reader.specs.declared.tree.query.Query.{Query}
use Rattle.expr_resolver.specs.declared.fault.ResolveFault.{ResolveFault}
use Rattle.expr_resolver.specs.declared.fault.ResolveFault.TheVariants as fault
use Rattle.resolver.specs.Queries.{query_walk}
use Rattle.resolver.specs.Statements.{resolved, unless_large}
use Rattle.expr_resolver.specs.Walking.{next}
use Rattle.resource.specs.declared.lane.Lane.{Lane}
use Rattle.resource.specs.Told.{Told}
use Rattle.vdb_session.specs.declared.queries.NoQuery.{NoQuery}
use Rattle.vdb_session.specs.declared.queries.NoQuery.TheVariants as no_query
use Rattle.vdb_session.specs.Meaning.{is_later, moved, MeansQuery, IsRefusal}
use Rattle.vdb_session.specs.Script.{Piece}
use Rattle.vdb_session.specs.Shown.{world_by, sees}

-- the walk of a statement is refused, with its place counted from the script's first byte
pub record WalkRefuses (cat : Defined) (base : ℕ) (statement : Statement) (refused : Refusal) : Type 0 where
  pub answered : is_later statement (resolved cat statement) ≡ false
  pub refusal : Refusal
  pub resolves : resolved cat statement ≡ Err refusal
  pub moved_is : refused ≡ moved base refusal

pub record ComesLater (cat : Defined) (base : ℕ) (statement : Statement) (refused : Refusal) : Type 0 where
  pub later : is_later statement (resolved cat statement) ≡ true
  pub refused_is : refused ≡ refusal.Syntax base

-- what refuses a statement that isn't answered yet
abbrev pub later : ℕ → NoQuery
later base = no_query.Refused (refusal.Syntax base)

-- the statement's walk comes first, and where it gives one the statement isn't answered yet
pub record IsWalkedFirst (statement : Statement) : Type 0 where
  pub refused : (r : Refusal) → is_later statement (Err r) ≡ false
  pub given : (t : Typed) → is_later statement (Ok t) ≡ true

-- a refusal with its place moved; it may be past 64 bits
abbrev pub IsMoved : ℕ → Refusal → NoQuery → Type 0
IsMoved base r (no_query.Refused refused) = refused ≡ moved base r
IsMoved base r no_query.Memory = ⊤

-- what the walk's fault says of a statement that begins at `base`
abbrev pub IsNoQuery : ℕ → ResolveFault → NoQuery → Type 0
IsNoQuery base (fault.Refused r) none = IsMoved base r none
IsNoQuery base fault.Memory none = none ≡ no_query.Memory

-- a query, unless it is too large with every view expanded
abbrev pub sized : List ViewDef → Ranked → Result Ranked Refusal
sized views q = unless_large (nodes_of views q.rel) (depth_of views q.rel) q

-- the walk of a query, its size counted last
abbrev pub sized_walk : Defined → Query → Result Ranked Refusal
sized_walk cat q = next (query_walk cat q) (sized cat.views)

-- the query of a statement, or why it has none
abbrev pub HasQuery : Defined → ℕ → Statement → Result Ranked NoQuery → Type 0
HasQuery cat base statement (Ok q) = resolved cat statement ≡ Ok (typed.Query q)
HasQuery cat base statement (Err (no_query.Refused refused)) = ComesLater cat base statement refused ⊎ WalkRefuses cat base statement refused
HasQuery cat base statement (Err no_query.Memory) = ⊤

-- the query of a text, or why it has none
abbrev pub ReadsQuery : Defined → Piece → Result Ranked NoQuery → Type 0
ReadsQuery cat piece (Ok q) = MeansQuery cat piece q
ReadsQuery cat piece (Err (no_query.Refused refused)) = IsRefusal cat piece refused
ReadsQuery cat piece (Err no_query.Memory) = ⊤

-- where the lanes tell theirs, the rows of the query in its order
abbrev pub AreRowsOf : {S : Type 0} → (S → Told) → Defined → List (Lane S) → Ranked → List Cells → Type 0
AreRowsOf told cat lanes q rows = IfSome (world_by (sees told) cat lanes) (λ world. Arranged q.keys q.offset q.limit (rows_in cat world [] q.rel) rows)

-- so many marks, set at each table that the relation reads
pub record AreMarked (rel : Rel) (tables : ℕ) (marks : List Bool) : Type 0 where
  pub count : length marks ≡ tables
  pub each : (n : ℕ) → n < tables → reads n rel ≡ true → mark marks n ≡ true
