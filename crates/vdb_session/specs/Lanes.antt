-- What calls on lanes leave of them.
use Rattle.std.specs.Prelude.{◌≡◌, ◌⊎◌, ℕ, Bool, true, not, ◌&&◌, List, [], ◌∷◌, ◌++◌, length, map, Option, Some, None, is_some, IfSome, ⊤}
use Rattle.std.specs.List.{list_any}
use Rattle.vdb_base.specs.Counts.{Rose}
use Rattle.vdb_model.specs.declared.source.Caps.{Caps}
use Rattle.vdb_model.specs.declared.table.TableDef.{TableDef}
use Rattle.vdb_model.specs.Defs.{same_name}
use Rattle.resource.specs.declared.lane.Lane.{Lane}
use Rattle.resource.specs.Lanes.{told_of, labels_of, counts_of}
use Rattle.resource.specs.Images.{Image}
use Rattle.resource.specs.Reading.{Reading, Sound, CellFault, StoreFault}
use Rattle.resource.specs.Told.{Told, is_lost}
use Rattle.vdb_session.specs.declared.parts.Parts.{Parts}

abbrev pub names_of : {S : Type 0} → List (Lane S) → List (List ℕ)
names_of [] = []
names_of (lane ∷ lanes) = lane.name ∷ names_of lanes

-- no two of these are one name
abbrev pub are_apart : List (List ℕ) → Bool
are_apart [] = true
are_apart (name ∷ names) = not (list_any (same_name name) names) && are_apart names

-- none of the lanes is lost
abbrev pub are_here : {S : Type 0} → (S → Told) → List (Lane S) → Bool
are_here told [] = true
are_here told (lane ∷ lanes) = not (is_lost (told lane.res).state) && are_here told lanes

-- the count at this place rose, and no other moved
pub record RoseAt (lane : ℕ) (old new : List ℕ) : Type 0 where
  pub first : List ℕ
  pub before : ℕ
  pub after : ℕ
  pub rest : List ℕ
  pub place : length first ≡ lane
  pub was : old ≡ first ++ before ∷ rest
  pub now : new ≡ first ++ after ∷ rest
  pub rose : Rose before after

-- the counts of the lanes, after a fault of one or of none
abbrev pub LaneCounts : Option ℕ → List ℕ → List ℕ → Type 0
LaneCounts None old new = new ≡ old
LaneCounts (Some lane) old new = RoseAt lane old new

-- what a store can do, and what it reads as where it tells that
abbrev pub store : Told → Caps × Option (List TableDef → Reading)
store t = (t.caps, t.reads)

-- a store that had prepared a branch reads as the same committed rows without it
abbrev pub DropsBranch : Reading → Reading → Type 0
DropsBranch (Sound rows None) now = ⊥
DropsBranch (Sound rows (Some branch)) now = now ≡ Sound rows None
DropsBranch (CellFault table row col) now = ⊥
DropsBranch (StoreFault table) now = ⊥

-- its prepared branch was rolled back, under the definitions that it is attached to
pub record LostBranch (old new : Told) : Type 0 where
  pub defs : List TableDef
  pub attached : new.defs ≡ Some defs
  pub reads : IfSome old.reads (λ was. IfSome new.reads (λ now. DropsBranch (was defs) (now defs)))

-- What a start keeps of a store: it reads as before, but for a prepared branch, which is rolled back.
pub record KeepsStore (old new : Told) : Type 0 where
  pub caps : new.caps ≡ old.caps
  pub tells : is_some new.reads ≡ is_some old.reads
  pub reads : (new.reads ≡ old.reads) ⊎ LostBranch old new

-- Its attach or its rollback failed: the count rose. It reads as one of the images that it had, or its branch is gone.
pub record FailedStore (before : Image → Type 0) (old new : Told) : Type 0 where
  pub caps : new.caps ≡ old.caps
  pub tells : is_some new.reads ≡ is_some old.reads
  pub rose : Rose old.faults new.faults
  pub reads : IfSome new.reads before ⊎ LostBranch old new

-- each of these lanes' stores in turn is kept
abbrev pub AllKeep : {S : Type 0} → (S → Told) → List (Lane S) → List (Lane S) → Type 0
AllKeep told [] [] = ⊤
AllKeep told [] (new ∷ news) = ⊥
AllKeep told (old ∷ olds) [] = ⊥
AllKeep told (old ∷ olds) (new ∷ news) = KeepsStore (told old.res) (told new.res) × AllKeep told olds news

-- each of these lanes' stores in turn is kept, or failed
abbrev pub KeepStores : {S : Type 0} → (S → Told) → (S → Image → Type 0) → List (Lane S) → List (Lane S) → Type 0
KeepStores told images [] [] = ⊤
KeepStores told images [] (new ∷ news) = ⊥
KeepStores told images (old ∷ olds) [] = ⊥
KeepStores told images (old ∷ olds) (new ∷ news) =
    (KeepsStore (told old.res) (told new.res) ⊎ FailedStore (images old.res) (told old.res) (told new.res)) × KeepStores told images olds news

-- what an attached resource keeps when queries are asked
abbrev pub attached : Told → Told
attached t = record t { asked = None; faults = 0 }

-- lanes were asked: they stay attached as they were, and no count moved but that of the lane that failed
pub record AreAsked {S : Type 0} (told : S → Told) (failed : Option ℕ) (old new : List (Lane S)) : Type 0 where
  pub labels : labels_of new ≡ labels_of old
  pub kept : map attached (told_of told new) ≡ map attached (told_of told old)
  pub counts : LaneCounts failed (counts_of (told_of told old)) (counts_of (told_of told new))

abbrev pub lanes_of : {S : Type 0} → (S → Told) → Parts S → List Told
lanes_of told parts = told_of told parts.lanes

abbrev pub counts : {S : Type 0} → (S → Told) → Parts S → List ℕ
counts told parts = counts_of (lanes_of told parts)

-- the DDL, the lanes' names and kinds, and what a start keeps of their stores
pub record Stays {S : Type 0} (told : S → Told) (old new : Parts S) : Type 0 where
  pub ddl : new.ddl ≡ old.ddl
  pub labels : labels_of new.lanes ≡ labels_of old.lanes
  pub stores : AllKeep told old.lanes new.lanes

-- the parts as they are handed back: the DDL, the lanes' names and kinds, and their stores, which were kept or failed
pub record HandedBack {S : Type 0} (told : S → Told) (images : S → Image → Type 0) (old new : Parts S) : Type 0 where
  pub ddl : new.ddl ≡ old.ddl
  pub labels : labels_of new.lanes ≡ labels_of old.lanes
  pub stores : KeepStores told images old.lanes new.lanes
