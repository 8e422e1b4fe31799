-- The first lane that serves a server, and what it shows.
use Rattle.std.proofs.Common.{◌≡◌, ℕ, suc, ◌+◌, ◌<◌, Bool, true, false, List, [], ◌∷◌, Option, Some, None, length, map, slice_index_or, refl, sym, ap, ◌∙◌, arith, if◌then◌else◌}
use Rattle.std.proofs.lemmas.List.Elements.{All-nil, All-cons, All-head, All-tail}
use Rattle.vdb_model.specs.declared.table.Kind.{Kind}
use Rattle.vdb_model.specs.Defined.{Defined}
use Rattle.vdb_model.specs.Rows.{Cells}
use Rattle.resource.specs.declared.lane.Lane.{Lane}
use Rattle.resource.specs.Lanes.{told_of, labels_of}
use Rattle.resource.specs.Told.{Told, work}
use Rattle.vdb_session.specs.Fetching.{IsAttached, AreAttached}
use Rattle.vdb_session.specs.Lanes.{AreAsked, attached}
use Rattle.vdb_session.specs.Shown.{serves, lane_from, server_shows, sees, tables_for}

-- where the first lane that serves a server stands, counted on from a number, and what it shows
pub record Found {S : Type 0} (shows : Lane S → Option (List (List Cells))) (cat : Defined) (server : ℕ) (lanes : List (Lane S)) (from at : ℕ) (o : Lane S) : Type 0 where
  pub place : ℕ
  pub is : at ≡ from + place
  pub within : place < length lanes
  pub serves_it : serves cat server (slice_index_or lanes place o).name ≡ true
  pub shown : server_shows shows cat lanes server ≡ shows (slice_index_or lanes place o)

pick : {X : Type 0} (b : Bool) (x y : X) → b ≡ true → (if b then x else y) ≡ x
pick true x y e = refl
pick false x y e = cc

skip : {X : Type 0} (b : Bool) (x y : X) → b ≡ false → (if b then x else y) ≡ y
skip true x y e = cc
skip false x y e = refl

found_by : {S : Type 0} (shows : Lane S → Option (List (List Cells))) (cat : Defined) (server : ℕ) (lane : Lane S) (lanes : List (Lane S)) (from at : ℕ) (o : Lane S) (b : Bool)
    → serves cat server lane.name ≡ b → lane_from from cat server (lane ∷ lanes) ≡ Some at
    → (lane_from (from + 1) cat server lanes ≡ Some at → Found shows cat server lanes (from + 1) at o) → Found shows cat server (lane ∷ lanes) from at o
found_by shows cat server lane lanes from at o true s e rest =
    let here : Some from ≡ Some at = sym (pick (serves cat server lane.name) (Some from) (lane_from (from + 1) cat server lanes) s) ∙ e in
    let same : from ≡ at = cc in
    record { place = 0; is = omega arith; within = omega arith; serves_it = s; shown = pick (serves cat server lane.name) (shows lane) (server_shows shows cat lanes server) s }
found_by shows cat server lane lanes from at o false s e rest =
    let f = rest (sym (skip (serves cat server lane.name) (Some from) (lane_from (from + 1) cat server lanes) s) ∙ e) in
    record {
      place = suc f.place;
      is = omega arith;
      within = omega arith;
      serves_it = f.serves_it;
      shown = skip (serves cat server lane.name) (shows lane) (server_shows shows cat lanes server) s ∙ f.shown;
    }

pub found_from : {S : Type 0} (shows : Lane S → Option (List (List Cells))) (cat : Defined) (server : ℕ) (lanes : List (Lane S)) (from at : ℕ) (o : Lane S)
    → lane_from from cat server lanes ≡ Some at → Found shows cat server lanes from at o
found_from shows cat server [] from at o e = cc
found_from shows cat server (lane ∷ lanes) from at o e = found_by shows cat server lane lanes from at o (serves cat server lane.name) refl e (found_from shows cat server lanes (from + 1) at o)

within_by : {S : Type 0} (cat : Defined) (server : ℕ) (lane : Lane S) (lanes : List (Lane S)) (from at : ℕ) (b : Bool) → serves cat server lane.name ≡ b
    → lane_from from cat server (lane ∷ lanes) ≡ Some at → (lane_from (from + 1) cat server lanes ≡ Some at → at < from + 1 + length lanes) → at < from + suc (length lanes)
within_by cat server lane lanes from at true s e rest =
    let here : Some from ≡ Some at = sym (pick (serves cat server lane.name) (Some from) (lane_from (from + 1) cat server lanes) s) ∙ e in
    let same : from ≡ at = cc in
    omega arith
within_by cat server lane lanes from at false s e rest =
    let more = rest (sym (skip (serves cat server lane.name) (Some from) (lane_from (from + 1) cat server lanes) s) ∙ e) in
    omega (arith, more)

pub within_from : {S : Type 0} (cat : Defined) (server : ℕ) (lanes : List (Lane S)) (from at : ℕ) → lane_from from cat server lanes ≡ Some at → at < from + length lanes
within_from cat server [] from at e = cc
within_from cat server (lane ∷ lanes) from at e = within_by cat server lane lanes from at (serves cat server lane.name) refl e (within_from cat server lanes (from + 1) at)

none_by : {S : Type 0} (shows : Lane S → Option (List (List Cells))) (cat : Defined) (server : ℕ) (lane : Lane S) (lanes : List (Lane S)) (from : ℕ) (b : Bool)
    → serves cat server lane.name ≡ b → lane_from from cat server (lane ∷ lanes) ≡ None
    → (lane_from (from + 1) cat server lanes ≡ None → server_shows shows cat lanes server ≡ Some []) → server_shows shows cat (lane ∷ lanes) server ≡ Some []
none_by shows cat server lane lanes from true s e rest =
    let here : Some from ≡ None = sym (pick (serves cat server lane.name) (Some from) (lane_from (from + 1) cat server lanes) s) ∙ e in cc
none_by shows cat server lane lanes from false s e rest =
    skip (serves cat server lane.name) (shows lane) (server_shows shows cat lanes server) s ∙ rest (sym (skip (serves cat server lane.name) (Some from) (lane_from (from + 1) cat server lanes) s) ∙ e)

-- without a lane that serves it a server shows nothing
pub shows_nothing : {S : Type 0} (shows : Lane S → Option (List (List Cells))) (cat : Defined) (server : ℕ) (lanes : List (Lane S)) (from : ℕ)
    → lane_from from cat server lanes ≡ None → server_shows shows cat lanes server ≡ Some []
shows_nothing shows cat server [] from e = refl
shows_nothing shows cat server (lane ∷ lanes) from e = none_by shows cat server lane lanes from (serves cat server lane.name) refl e (shows_nothing shows cat server lanes (from + 1))

pub head_same : {X : Type 0} (a b : X) (xs ys : List X) → a ∷ xs ≡ b ∷ ys → a ≡ b
head_same a b xs ys e = cc

pub tail_same : {X : Type 0} (a b : X) (xs ys : List X) → a ∷ xs ≡ b ∷ ys → xs ≡ ys
tail_same a b xs ys e = cc

if_same : {X : Type 0} (b c : Bool) (x x2 y y2 : X) → b ≡ c → x ≡ x2 → y ≡ y2 → (if b then x else y) ≡ (if c then x2 else y2)
if_same b c x x2 y y2 e f g = ap (λ (t : Bool). if t then x else y) e ∙ ap (λ z. if c then z else y) f ∙ ap (λ z. if c then x2 else z) g

-- what lanes show stays where they were asked
shows_on : {S : Type 0} (told : S → Told) (cat : Defined) (server : ℕ) (old new : List (Lane S)) → labels_of new ≡ labels_of old
    → map attached (told_of told new) ≡ map attached (told_of told old) → server_shows (sees told) cat new server ≡ server_shows (sees told) cat old server
shows_on told cat server [] [] l k = refl
shows_on told cat server [] (n ∷ ns) l k = cc
shows_on told cat server (o ∷ os) [] l k = cc
shows_on told cat server (o ∷ os) (n ∷ ns) l k =
    let name : n.name ≡ o.name = ap (λ (p : List ℕ × Kind). p.0) (head_same (n.name, n.kind) (o.name, o.kind) (labels_of ns) (labels_of os) l) in
    let labels : labels_of ns ≡ labels_of os = tail_same (n.name, n.kind) (o.name, o.kind) (labels_of ns) (labels_of os) l in
    let here : attached (told n.res) ≡ attached (told o.res) = head_same (attached (told n.res)) (attached (told o.res)) (map attached (told_of told ns)) (map attached (told_of told os)) k in
    let kept : map attached (told_of told ns) ≡ map attached (told_of told os) = tail_same (attached (told n.res)) (attached (told o.res)) (map attached (told_of told ns)) (map attached (told_of told os)) k in
    if_same (serves cat server n.name) (serves cat server o.name) (sees told n) (sees told o) (server_shows (sees told) cat ns server) (server_shows (sees told) cat os server)
    (ap (serves cat server) name) (ap work here) (shows_on told cat server os ns labels kept)

pub shows_stay : {S : Type 0} (told : S → Told) (failed : Option ℕ) (cat : Defined) (server : ℕ) (old new : List (Lane S)) → AreAsked told failed old new
    → server_shows (sees told) cat new server ≡ server_shows (sees told) cat old server
shows_stay told failed cat server old new a = shows_on told cat server old new a.labels a.kept

-- and so do the definitions that they are attached to
attached_on : {S : Type 0} (told : S → Told) (cat : Defined) (old new : List (Lane S)) → labels_of new ≡ labels_of old
    → map attached (told_of told new) ≡ map attached (told_of told old) → AreAttached told cat old → AreAttached told cat new
attached_on told cat old [] l k h = All-nil (IsAttached told cat)
attached_on told cat [] (n ∷ ns) l k h = cc
attached_on told cat (o ∷ os) (n ∷ ns) l k h =
    let P = IsAttached told cat in
    let was : IsAttached told cat o = All-head P o os h in
    let name : n.name ≡ o.name = ap (λ (p : List ℕ × Kind). p.0) (head_same (n.name, n.kind) (o.name, o.kind) (labels_of ns) (labels_of os) l) in
    let labels : labels_of ns ≡ labels_of os = tail_same (n.name, n.kind) (o.name, o.kind) (labels_of ns) (labels_of os) l in
    let here : attached (told n.res) ≡ attached (told o.res) = head_same (attached (told n.res)) (attached (told o.res)) (map attached (told_of told ns)) (map attached (told_of told os)) k in
    let kept : map attached (told_of told ns) ≡ map attached (told_of told os) = tail_same (attached (told n.res)) (attached (told o.res)) (map attached (told_of told ns)) (map attached (told_of told os)) k in
    All-cons P n ns (
    record {
      defs = ap (λ (t : Told). t.defs) here ∙ was.defs ∙ ap (λ (x : List ℕ). Some (tables_for cat x)) (sym name);
      idle = ap (λ (t : Told). t.state) here ∙ was.idle;
    }
    ) (attached_on told cat os ns labels kept (All-tail P o os h))

pub attached_stay : {S : Type 0} (told : S → Told) (failed : Option ℕ) (cat : Defined) (old new : List (Lane S)) → AreAsked told failed old new → AreAttached told cat old → AreAttached told cat new
attached_stay told failed cat old new a h = attached_on told cat old new a.labels a.kept h

length_same : {X Y : Type 0} (f : X → Y) (xs ys : List X) → map f xs ≡ map f ys → length xs ≡ length ys
length_same f [] [] e = refl
length_same f [] (y ∷ ys) e = cc
length_same f (x ∷ xs) [] e = cc
length_same f (x ∷ xs) (y ∷ ys) e = let more : map f xs ≡ map f ys = tail_same (f x) (f y) (map f xs) (map f ys) e in ap suc (length_same f xs ys more)

pub as_many : {S : Type 0} (told : S → Told) (failed : Option ℕ) (old new : List (Lane S)) → AreAsked told failed old new → length new ≡ length old
as_many told failed old new a = length_same (λ (lane : Lane _). (lane.name, lane.kind)) new old a.labels
