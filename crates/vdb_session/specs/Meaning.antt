-- The meaning of a statement, and its replies in a world.
use Rattle.std.specs.Prelude.{◌≡◌, ◌⊎◌, ℕ, ◌+◌, Bool, true, false, List, [], Option, Result, Ok, Err, IfSome, ⊤, is_ok}
use Rattle.vdb_model.specs.declared.rel.Ranked.{Ranked}
use Rattle.vdb_model.specs.declared.reply.Refusal.{Refusal}
use Rattle.vdb_model.specs.declared.reply.Refusal.TheVariants as refusal
use Rattle.vdb_model.specs.declared.reply.Reply.{Reply}
use Rattle.vdb_model.specs.declared.reply.Reply.TheVariants as reply
use Rattle.vdb_model.specs.declared.typed.Typed.{Typed}
use Rattle.vdb_model.specs.declared.typed.Typed.TheVariants as typed
use Rattle.vdb_model.specs.Arranged.{Arranged}
use Rattle.vdb_model.specs.Defined.{Defined}
use Rattle.vdb_model.specs.Rows.{Cells}
use Rattle.vdb_model.specs.World.{rows_in}
use Rattle.sql_reader.specs.declared.tree.statement.Statement.{Statement}
use Rattle.sql_reader.specs.declared.tree.statement.Statement.TheVariants as statement
use Rattle.sql_reader.specs.Symbols.{STATEMENT_RULE}
use Rattle.sql_reader.specs.Trees.{IsStatement, IsFaultAt, source_of}
use Rattle.resolver.specs.Statements.{resolved}
use Rattle.vdb_session.specs.Script.{Piece}

-- a refusal with its place counted from the script's first byte
abbrev pub moved : ℕ → Refusal → Refusal
moved base (refusal.Syntax at) = refusal.Syntax (base + at)
moved base (refusal.Unknown name) = refusal.Unknown name
moved base (refusal.Ambiguous name) = refusal.Ambiguous name
moved base (refusal.Mismatch at) = refusal.Mismatch (base + at)
moved base (refusal.Fractional at) = refusal.Fractional (base + at)
moved base (refusal.TooWide at) = refusal.TooWide (base + at)
moved base (refusal.Unbound table) = refusal.Unbound table
moved base (refusal.NotUpdatable name) = refusal.NotUpdatable name
moved base (refusal.ReadOnly server) = refusal.ReadOnly server
moved base (refusal.NullInto column) = refusal.NullInto column
moved base (refusal.DuplicateKey table) = refusal.DuplicateKey table
moved base (refusal.OutOfRange column) = refusal.OutOfRange column
moved base (refusal.TooLong column) = refusal.TooLong column
moved base (refusal.Raised text) = refusal.Raised text
moved base refusal.BudgetSpent = refusal.BudgetSpent
moved base (refusal.Transaction opened) = refusal.Transaction opened
moved base (refusal.Doomed number) = refusal.Doomed number
moved base (refusal.TooLarge nodes depth) = refusal.TooLarge nodes depth
moved base (refusal.LogFull server needed left) = refusal.LogFull server needed left

-- Which statements aren't answered yet: EXPLAIN, updates and transactions, and EXEC where its procedure is there.
abbrev pub is_later : Statement → Result Typed Refusal → Bool
is_later (statement.Query q) resolved = false
is_later (statement.Explain q) resolved = true
is_later (statement.Insert i) resolved = true
is_later (statement.Update u) resolved = true
is_later (statement.Delete d) resolved = true
is_later (statement.Exec e) resolved = is_ok resolved
is_later statement.Start resolved = true
is_later statement.Commit resolved = true
is_later statement.Rollback resolved = true

-- the statement means this query
pub record MeansQuery (cat : Defined) (piece : Piece) (q : Ranked) : Type 0 where
  pub statement : Statement
  pub reads : IsStatement piece.text statement
  pub resolves : resolved cat statement ≡ Ok (typed.Query q)

-- the statement's walk is refused
pub record IsRefusedByWalk (cat : Defined) (piece : Piece) (refused : Refusal) : Type 0 where
  pub statement : Statement
  pub reads : IsStatement piece.text statement
  pub answered : is_later statement (resolved cat statement) ≡ false
  pub refusal : Refusal
  pub resolves : resolved cat statement ≡ Err refusal
  pub moved_is : refused ≡ moved piece.at refusal

-- the text is no statement: refused at the first token with which none begins
pub record IsNoStatement (piece : Piece) (refused : Refusal) : Type 0 where
  pub at : ℕ
  pub fault : IsFaultAt (source_of piece.text) STATEMENT_RULE at
  pub refused_is : refused ≡ refusal.Syntax (piece.at + at)

-- a statement that isn't answered yet, refused where it begins
pub record IsUnanswered (cat : Defined) (piece : Piece) (refused : Refusal) : Type 0 where
  pub statement : Statement
  pub reads : IsStatement piece.text statement
  pub later : is_later statement (resolved cat statement) ≡ true
  pub refused_is : refused ≡ refusal.Syntax piece.at

abbrev pub IsRefusal : Defined → Piece → Refusal → Type 0
IsRefusal cat piece refused = IsNoStatement piece refused ⊎ (IsUnanswered cat piece refused ⊎ IsRefusedByWalk cat piece refused)

-- the rows are the query's in the world, where that is told, in its order
pub record IsRows (cat : Defined) (world : Option (List (List Cells))) (piece : Piece) (names : List (List ℕ)) (rows : List Cells) : Type 0 where
  pub query : Ranked
  pub means : MeansQuery cat piece query
  pub names_are : names ≡ query.names
  pub rows_are : IfSome world (λ w. Arranged query.keys query.offset query.limit (rows_in cat w [] query.rel) rows)

-- the replies that a statement may have; want of memory is free
abbrev pub Done : Defined → Option (List (List Cells)) → Piece → Reply → Type 0
Done cat world piece (reply.Rows names rows) = IsRows cat world piece names rows
Done cat world piece (reply.Refused refused) = IsRefusal cat piece refused
Done cat world piece reply.Memory = ⊤
Done cat world piece (reply.Updated count) = ⊥
Done cat world piece reply.Done = ⊥
Done cat world piece reply.Started = ⊥
Done cat world piece reply.Committed = ⊥
Done cat world piece reply.RolledBack = ⊥
Done cat world piece (reply.Asked asks count) = ⊥
