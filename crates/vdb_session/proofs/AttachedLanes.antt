-- A loop that attaches each lane in turn.
use Rattle.std.proofs.Common.{◌≡◌, ◌⊎◌, ℕ, zero, suc, ◌+◌, ◌<◌, ◌≤◌, inl, inr, List, [], ◌∷◌, ◌++◌, Some, None, Err, length, map, take, drop, slice_set, slice_index_or, refl, sym, ap, ◌∙◌, subst, arith}
use Rattle.std.specs.Prelude.{All, is_some}
use Rattle.std.proofs.lemmas.List.{take_more, take_more_set, drop_more, take_all, take-append-drop}
use Rattle.std.proofs.lemmas.List.Elements.{All-nil, All-cons}
use Rattle.vdb_model.specs.Defined.{Defined}
use Rattle.resource.specs.declared.lane.Lane.{Lane}
use Rattle.resource.specs.Images.{Image}
use Rattle.resource.specs.Lanes.{told_of, counts_of}
use Rattle.resource.specs.Told.{Told}
use Rattle.vdb_session.specs.declared.parts.StartFault.{StartFault}
use Rattle.vdb_session.specs.declared.parts.StartFault.TheVariants as fault
use Rattle.vdb_session.specs.Attaching.{AttachedTo, AttachesOne, AreAttachedNow, BreaksFirst, StaysStored, StayStored, WasAttached, WereAttached}
use Rattle.vdb_session.specs.Fetching.{IsAttached, AreAttached}
use Rattle.vdb_session.specs.Lanes.{KeepsStore, FailedStore, AllKeep, KeepStores}
use Rattle.vdb_session.specs.Shown.{tables_for, sees, holds}
use Rattle.vdb_session.specs.Starting.{failed_lane, ReadsAs}
use Rattle.vdb_session.proofs.AskedLanes.{both_set, labels_set, rose_at, counts_after}
use Rattle.vdb_session.proofs.Standing.{standing_length, standing_here, standing_more, standing_all}

-- stores that stay, and stores of which one changed

keeps_stored : (old new : Told) → StaysStored old new → KeepsStore old new
keeps_stored old new s = record {
  caps = ap (λ p. p.0) s.kept;
  tells = ap (λ p. is_some p.1) s.kept;
  reads = inl (ap (λ p. p.1) s.kept);
}

keeps_same : (t : Told) → KeepsStore t t
keeps_same t = record { caps = refl; tells = refl; reads = inl refl }

module _ {S : Type 0} (told : S → Told) (images : S → Image → Type 0) where
  keep_same : (lanes : List (Lane S)) → KeepStores told images lanes lanes
  keep_same [] = tt
  keep_same (lane ∷ lanes) = (inl (keeps_same (told lane.res)), keep_same lanes)

  -- one lane's store was kept, or failed
  abbrev pub Kept : Lane S → Lane S → Type 0
  Kept o a = KeepsStore (told o.res) (told a.res) ⊎ FailedStore (images o.res) (told o.res) (told a.res)

  keep_set : (olds news : List (Lane S)) (at : ℕ) (o a : Lane S) → at < length news → KeepStores told images olds news
      → Kept (slice_index_or olds at o) a → KeepStores told images olds (slice_set news at a)
  keep_set [] [] at o a h k s = absurd (omega arith)
  keep_set [] (new ∷ news) at o a h k s = absurd k
  keep_set (old ∷ olds) [] at o a h k s = absurd k
  keep_set (old ∷ olds) (new ∷ news) zero o a h k s = (s, k.1)
  keep_set (old ∷ olds) (new ∷ news) (suc at) o a h k s = (k.0, keep_set olds news at o a (omega arith) k.1 s)

-- lanes that were attached, and one more

were_push : {S : Type 0} (told : S → Told) (cat : Defined) (olds news : List (Lane S)) (old new : Lane S) → WereAttached told cat olds news → WasAttached told cat old new
    → WereAttached told cat (olds ++ old ∷ []) (news ++ new ∷ [])
were_push told cat [] [] old new w a = (a, tt)
were_push told cat [] (n ∷ ns) old new w a = absurd w
were_push told cat (o ∷ os) [] old new w a = absurd w
were_push told cat (o ∷ os) (n ∷ ns) old new w a = (w.0, were_push told cat os ns old new w.1 a)

pub all_read : {S : Type 0} (told : S → Told) (cat : Defined) (olds news : List (Lane S)) → WereAttached told cat olds news → All (ReadsAs told cat None) olds
all_read told cat [] news w = All-nil (ReadsAs told cat None)
all_read told cat (o ∷ os) [] w = absurd w
all_read told cat (o ∷ os) (n ∷ ns) w = All-cons (ReadsAs told cat None) o os w.0.attached.reads (all_read told cat os ns w.1)

-- the lanes before a place are attached
pub record AttachedUpTo {S : Type 0} (told : S → Told) (images : S → Image → Type 0) (cat : Defined) (at : ℕ) (old new : List (Lane S)) : Type 0 where
  pub stays : StayStored told images None old new
  pub rest : drop at new ≡ drop at old
  pub front : WereAttached told cat (take at old) (take at new)

pub stored_none : {S : Type 0} (told : S → Told) (images : S → Image → Type 0) (xs : List (Lane S)) → StayStored told images None xs xs
stored_none told images xs = record { labels = refl; keep = keep_same told images xs; counts = refl }

pub attached_none : {S : Type 0} (told : S → Told) (images : S → Image → Type 0) (cat : Defined) (xs : List (Lane S)) → AttachedUpTo told images cat 0 xs xs
attached_none told images cat xs = record { stays = stored_none told images xs; rest = refl; front = tt }

-- what a lane whose attach was refused leaves, and says of the lanes
pub record Refused {S : Type 0} (told : S → Told) (images : S → Image → Type 0) (cat : Defined) (old new : List (Lane S)) (f : StartFault) : Type 0 where
  pub stays : StayStored told images (failed_lane f) old new
  pub why : BreaksFirst told cat old f

module _ {S : Type 0} (told : S → Told) (images : S → Image → Type 0) (cat : Defined) (at : ℕ) (old now : List (Lane S)) (o a : Lane S) (h : at < length now) (s : AttachedUpTo told images cat at old now)
    (n : a.name ≡ (slice_index_or now at o).name) (k : a.kind ≡ (slice_index_or now at o).kind) where
  there : at < length old
  there = standing_length at now old h s.rest

  same : slice_index_or now at o ≡ slice_index_or old at o
  same = standing_here at now old o h s.rest

  -- the store at the place is kept, and its count stays
  stored : KeepsStore (told (slice_index_or now at o).res) (told a.res) → (told a.res).faults ≡ (told (slice_index_or now at o).res).faults → StayStored told images None old (slice_set now at a)
  stored e count = record {
    labels = labels_set now at o a h n k ∙ s.stays.labels;
    keep = keep_set told images old now at o a h s.stays.keep (subst (λ (x : Lane S). Kept told images x a) same (inl e));
    counts = both_set (λ (t : Told). t.faults) (λ (lane : Lane S). told lane.res) now at o a h count ∙ s.stays.counts;
  }

  -- or it failed
  failed : FailedStore (images (slice_index_or now at o).res) (told (slice_index_or now at o).res) (told a.res) → StayStored told images (Some at) old (slice_set now at a)
  failed e = record {
    labels = labels_set now at o a h n k ∙ s.stays.labels;
    keep = keep_set told images old now at o a h s.stays.keep (subst (λ (x : Lane S). Kept told images x a) same (inr e));
    counts = counts_after (Some at) (counts_of (told_of told old)) (counts_of (told_of told now)) (counts_of (told_of told (slice_set now at a))) s.stays.counts (rose_at told now at o a h e.rose);
  }

  pub attached_more : AttachedTo told cat (slice_index_or now at o) (told a.res) → AttachedUpTo told images cat (at + 1) old (slice_set now at a)
  attached_more e =
      let was : WasAttached told cat (slice_index_or old at o) a = subst (λ (x : Lane S). WasAttached told cat x a) same (record { name = n; attached = e }) in
      record {
        stays = stored e.keeps e.count;
        rest = standing_more at now old a h s.rest;
        front = subst (λ (xs : List (Lane S)). WereAttached told cat xs (take (at + 1) (slice_set now at a))) (sym (take_more old at o there))
            (subst (λ (ys : List (Lane S)). WereAttached told cat (take at old ++ slice_index_or old at o ∷ []) ys) (sym (take_more_set now at a h))
            (were_push told cat (take at old) (take at now) (slice_index_or old at o) a s.front was));
      }

  pub attached_refused : (f : StartFault) → AttachesOne told images cat at (Err f) (slice_index_or now at o) (told a.res) → Refused told images cat old (slice_set now at a) f
  attached_refused (fault.Refused f) e = record {
    stays = stored (keeps_stored (told (slice_index_or now at o).res) (told a.res) e.0) e.0.count;
    why = record {
      before = take at old;
      lane = slice_index_or old at o;
      after = drop (at + 1) old;
      split = sym (take-append-drop at old) ∙ ap (λ xs. take at old ++ xs) (drop_more old at o there);
      sound = all_read told cat (take at old) (take at now) s.front;
      has = subst (ReadsAs told cat (Some f)) same e.1;
    };
  }
  attached_refused (fault.Failed lane) e = record {
    stays = subst (λ (x : ℕ). StayStored told images (Some x) old (slice_set now at a)) (sym e.0) (failed e.1);
    why = tt;
  }
  attached_refused fault.Memory e = record { stays = stored (keeps_stored (told (slice_index_or now at o).res) (told a.res) e) e.count; why = tt }

-- ---- all of them

module _ {S : Type 0} (told : S → Told) (cat : Defined) where
  all_keep : (olds news : List (Lane S)) → WereAttached told cat olds news → AllKeep told olds news
  all_keep [] [] w = tt
  all_keep [] (n ∷ ns) w = absurd w
  all_keep (o ∷ os) [] w = absurd w
  all_keep (o ∷ os) (n ∷ ns) w = (w.0.attached.keeps, all_keep os ns w.1)

  all_attached : (olds news : List (Lane S)) → WereAttached told cat olds news → AreAttached told cat news
  all_attached olds [] w = All-nil (IsAttached told cat)
  all_attached [] (n ∷ ns) w = absurd w
  all_attached (o ∷ os) (n ∷ ns) w =
      All-cons (IsAttached told cat) n ns
      (record { defs = w.0.attached.defs ∙ ap (λ (name : List ℕ). Some (tables_for cat name)) (sym w.0.name); idle = w.0.attached.idle })
      (all_attached os ns w.1)

  all_shown : (olds news : List (Lane S)) → WereAttached told cat olds news → map (sees told) news ≡ map (holds told cat) olds
  all_shown [] [] w = refl
  all_shown [] (n ∷ ns) w = absurd w
  all_shown (o ∷ os) [] w = absurd w
  all_shown (o ∷ os) (n ∷ ns) w = ap (λ x. x ∷ map (sees told) ns) w.0.attached.shown ∙ ap (λ xs. holds told cat o ∷ xs) (all_shown os ns w.1)

pub attached_whole : {S : Type 0} (told : S → Told) (images : S → Image → Type 0) (cat : Defined) (at : ℕ) (old new : List (Lane S)) → length new ≤ at → AttachedUpTo told images cat at old new
    → AreAttachedNow told cat old new
attached_whole told images cat at old new h s =
    let w =
    subst (λ (xs : List (Lane _)). WereAttached told cat xs new) (take_all at old (standing_all at new old h s.rest))
    (subst (λ (ys : List (Lane _)). WereAttached told cat (take at old) ys) (take_all at new h) s.front) in
    record {
      stores = all_keep told cat old new w;
      attached = all_attached told cat old new w;
      reads = all_read told cat old new w;
      shown = all_shown told cat old new w;
    }
