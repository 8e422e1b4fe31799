-- Lanes that were asked, one after another.
use Rattle.std.proofs.Common.{◌≡◌, ℕ, zero, suc, ◌<◌, List, [], ◌∷◌, Option, Some, None, length, map, slice_set, slice_index_or, refl, sym, ap, ◌∙◌, subst, arith}
use Rattle.vdb_base.specs.Counts.{Rose}
use Rattle.vdb_model.specs.declared.table.Kind.{Kind}
use Rattle.resource.specs.declared.lane.Lane.{Lane}
use Rattle.resource.specs.Lanes.{told_of, labels_of, counts_of}
use Rattle.resource.specs.Told.{Told}
use Rattle.vdb_session.specs.Lanes.{RoseAt, LaneCounts, AreAsked, attached}

-- what f gives stays where one element is replaced by one that f can't tell from it
map_set : {X Y : Type 0} (f : X → Y) (xs : List X) (at : ℕ) (o a : X) → at < length xs → f a ≡ f (slice_index_or xs at o) → map f (slice_set xs at a) ≡ map f xs
map_set f [] at o a h e = absurd (omega arith)
map_set f (x ∷ xs) zero o a h e = ap (λ y. y ∷ map f xs) e
map_set f (x ∷ xs) (suc at) o a h e = let h2 : at < length xs = omega arith in ap (λ ys. f x ∷ ys) (map_set f xs at o a h2 e)

map_map : {X Y Z : Type 0} (g : Y → Z) (f : X → Y) (xs : List X) → map g (map f xs) ≡ map (λ x. g (f x)) xs
map_map g f [] = refl
map_map g f (x ∷ xs) = ap (λ ys. g (f x) ∷ ys) (map_map g f xs)

pub both_set : {X Y Z : Type 0} (g : Y → Z) (f : X → Y) (xs : List X) (at : ℕ) (o a : X) → at < length xs → g (f a) ≡ g (f (slice_index_or xs at o)) → map g (map f (slice_set xs at a)) ≡ map g (map f xs)
both_set g f xs at o a h e = map_map g f (slice_set xs at a) ∙ map_set (λ x. g (f x)) xs at o a h e ∙ sym (map_map g f xs)

pub rose_at : {S : Type 0} (told : S → Told) (xs : List (Lane S)) (at : ℕ) (o a : Lane S) → at < length xs → Rose (told (slice_index_or xs at o).res).faults (told a.res).faults
    → RoseAt at (counts_of (told_of told xs)) (counts_of (told_of told (slice_set xs at a)))
rose_at told [] at o a h r = absurd (omega arith)
rose_at told (x ∷ xs) zero o a h r = record {
  first = [];
  before = (told x.res).faults;
  after = (told a.res).faults;
  rest = counts_of (told_of told xs);
  place = refl;
  was = refl;
  now = refl;
  rose = r;
}
rose_at told (x ∷ xs) (suc at) o a h r =
    let h2 : at < length xs = omega arith in
    let more = rose_at told xs at o a h2 r in
    record {
      first = (told x.res).faults ∷ more.first;
      before = more.before;
      after = more.after;
      rest = more.rest;
      place = ap suc more.place;
      was = ap (λ ns. (told x.res).faults ∷ ns) more.was;
      now = ap (λ ns. (told x.res).faults ∷ ns) more.now;
      rose = more.rose;
    }

abbrev label : {S : Type 0} → Lane S → List ℕ × Kind
label lane = (lane.name, lane.kind)

pub labels_set : {S : Type 0} (xs : List (Lane S)) (at : ℕ) (o a : Lane S) → at < length xs → a.name ≡ (slice_index_or xs at o).name → a.kind ≡ (slice_index_or xs at o).kind
    → labels_of (slice_set xs at a) ≡ labels_of xs
labels_set xs at o a h n k =
    let e : label a ≡ label (slice_index_or xs at o) = ap (λ (x : List ℕ). (x, a.kind)) n ∙ ap (λ (x : Kind). ((slice_index_or xs at o).name, x)) k in
    map_set (λ (lane : Lane _). (lane.name, lane.kind)) xs at o a h e

-- one lane was asked, and its count stayed
pub asked_at : {S : Type 0} (told : S → Told) (xs : List (Lane S)) (at : ℕ) (o a : Lane S) → at < length xs → a.name ≡ (slice_index_or xs at o).name → a.kind ≡ (slice_index_or xs at o).kind
    → attached (told a.res) ≡ attached (told (slice_index_or xs at o).res) → (told a.res).faults ≡ (told (slice_index_or xs at o).res).faults → AreAsked told None xs (slice_set xs at a)
asked_at told xs at o a h n k s c = record {
  labels = labels_set xs at o a h n k;
  kept = both_set attached (λ (lane : Lane _). told lane.res) xs at o a h s;
  counts = both_set (λ (t : Told). t.faults) (λ (lane : Lane _). told lane.res) xs at o a h c;
}

-- or rose
pub failed_at : {S : Type 0} (told : S → Told) (xs : List (Lane S)) (at : ℕ) (o a : Lane S) → at < length xs → a.name ≡ (slice_index_or xs at o).name → a.kind ≡ (slice_index_or xs at o).kind
    → attached (told a.res) ≡ attached (told (slice_index_or xs at o).res) → Rose (told (slice_index_or xs at o).res).faults (told a.res).faults → AreAsked told (Some at) xs (slice_set xs at a)
failed_at told xs at o a h n k s r = record {
  labels = labels_set xs at o a h n k;
  kept = both_set attached (λ (lane : Lane _). told lane.res) xs at o a h s;
  counts = rose_at told xs at o a h r;
}

pub asked_none : {S : Type 0} (told : S → Told) (xs : List (Lane S)) → AreAsked told None xs xs
asked_none told xs = record { labels = refl; kept = refl; counts = refl }

pub counts_after : (failed : Option ℕ) (old mid new : List ℕ) → mid ≡ old → LaneCounts failed mid new → LaneCounts failed old new
counts_after failed old mid new e h = subst (λ (ns : List ℕ). LaneCounts failed ns new) e h

pub asked_on : {S : Type 0} (told : S → Told) (failed : Option ℕ) (old mid new : List (Lane S)) → AreAsked told None old mid → AreAsked told failed mid new → AreAsked told failed old new
asked_on told failed old mid new a b = record {
  labels = b.labels ∙ a.labels;
  kept = b.kept ∙ a.kept;
  counts = counts_after failed (counts_of (told_of told old)) (counts_of (told_of told mid)) (counts_of (told_of told new)) a.counts b.counts;
}
