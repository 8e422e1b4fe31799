-- What the walk of a view's query answers: the typed query, or its first refusal where memory wasn't wanting.
use Rattle.std.specs.Prelude.{◌≡◌, Result, Ok, Err}
use Rattle.vdb_model.specs.declared.rel.Ranked.{Ranked}
use Rattle.vdb_model.specs.declared.reply.Refusal.{Refusal}
use Rattle.vdb_model.specs.Defined.{Defined}
use Rattle.metadata.specs.declared.walk.WalkFault.{WalkFault}
use Rattle.metadata.specs.declared.walk.WalkFault.TheVariants.{Refused, Memory}
use Rattle.walk_laws.specs.Closed.{IsClosedOver}
use Rattle.walk_laws.specs.Typed.{IsTypedOver}

abbrev pub Walks : Result Ranked Refusal → Result Ranked WalkFault → Type 0
Walks walk (Ok query) = walk ≡ Ok query
Walks walk (Err (Refused refusal)) = walk ≡ Err refusal
Walks walk (Err Memory) = Unit {0}

-- Over a catalog: the query names only views that are there and reads no variable, and its columns have its types and as many names.
pub record IsTypedQuery (cat : Defined) (query : Ranked) : Type 0 where
  pub closed : IsClosedOver cat query.rel
  pub typed : IsTypedOver cat query
