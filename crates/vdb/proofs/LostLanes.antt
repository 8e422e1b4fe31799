-- Lanes that are made or looked at in turn: their names and kinds, and whether one is lost.
use Rattle.std.proofs.Common.{◌≡◌, ℕ, ◌+◌, ◌<◌, Bool, true, false, not, ◌&&◌, List, [], ◌∷◌, ◌++◌, length, map, get_or, take, drop, refl, sym, ap, ◌∙◌}
use Rattle.std.proofs.lemmas.List.{take_more, drop_more}
use Rattle.vdb_model.specs.declared.table.Kind.{Kind}
use Rattle.resource.specs.declared.lane.Lane.{Lane}
use Rattle.resource.specs.declared.resource.ResState.{ResState}
use Rattle.resource.specs.Lanes.{labels_of}
use Rattle.resource.specs.Told.{Told, is_lost}
use Rattle.vdb_session.specs.Lanes.{are_here}
use Rattle.vdb.specs.declared.words.Conn.{Conn}
use Rattle.vdb.specs.Making.{labels}

together : (a b c : Bool) → ((a && b) && c) ≡ (a && (b && c))
together true b c = refl
together false b c = refl

-- one lane more
pub lanes_more : {S : Type 0} (told : S → Told) (lanes : List (Lane S)) (i : ℕ) (lane : Lane S) (s : ResState) (here more : Bool) → i < length lanes → lane ≡ get_or lanes i lane → s ≡ (told lane.res).state
    → more ≡ (here && not (is_lost s)) → (here && are_here told (drop i lanes)) ≡ are_here told lanes → (more && are_here told (drop (i + 1) lanes)) ≡ are_here told lanes
lanes_more told lanes i lane s here more lt is st m e =
    ap (λ (b : Bool). b && are_here told (drop (i + 1) lanes)) (m ∙ ap (λ (s : ResState). here && not (is_lost s)) st)
    ∙ together here (not (is_lost (told lane.res).state)) (are_here told (drop (i + 1) lanes))
    ∙ ap (λ (l : List (Lane _)). here && are_here told l) (ap (λ (x : Lane _). x ∷ drop (i + 1) lanes) is ∙ sym (drop_more lanes i lane lt))
    ∙ e

both_here : (a b : Bool) → a ≡ true → b ≡ true → (a && b) ≡ true
both_here true b e h = h
both_here false b e h = cc

-- lanes of which none is lost, and one more
pub here_push : {S : Type 0} (told : S → Told) (lanes : List (Lane S)) (lane : Lane S) → are_here told lanes ≡ true → is_lost (told lane.res).state ≡ false → are_here told (lanes ++ lane ∷ []) ≡ true
here_push told [] lane h n = ap (λ (b : Bool). not b && true) n
here_push told (l ∷ lanes) lane h n = split (is_lost (told l.res).state) h (here_push told lanes lane)
  where
    split : (b : Bool) → (not b && are_here told lanes) ≡ true → (are_here told lanes ≡ true → is_lost (told lane.res).state ≡ false → are_here told (lanes ++ lane ∷ []) ≡ true) → (not b && are_here told (lanes ++ lane ∷ [])) ≡ true
    split true h later = cc
    split false h later = later h n

map_push : {X Y : Type 0} (f : X → Y) (xs : List X) (x : X) → map f (xs ++ x ∷ []) ≡ map f xs ++ f x ∷ []
map_push f [] x = refl
map_push f (y ∷ xs) x = ap (λ ys. f y ∷ ys) (map_push f xs x)

-- the lanes of the connections so far, and one more
pub labels_push : {S : Type 0} (lanes : List (Lane S)) (lane : Lane S) (conns : List Conn) (i : ℕ) (conn : Conn) → i < length conns → conn ≡ get_or conns i conn → lane.name ≡ conn.name → lane.kind ≡ conn.kind
    → labels_of lanes ≡ labels (take i conns) → labels_of (lanes ++ lane ∷ []) ≡ labels (take (i + 1) conns)
labels_push lanes lane conns i conn lt is name kind e =
    map_push (λ (lane : Lane _). (lane.name, lane.kind)) lanes lane
    ∙ ap (λ l. l ++ (lane.name, lane.kind) ∷ []) e
    ∙ ap (λ (n : List ℕ). labels (take i conns) ++ (n, lane.kind) ∷ []) name
    ∙ ap (λ (k : Kind). labels (take i conns) ++ (conn.name, k) ∷ []) kind
    ∙ sym (map_push (λ (conn : Conn). (conn.name, conn.kind)) (take i conns) conn)
    ∙ ap (λ (c : Conn). labels (take i conns ++ c ∷ [])) is
    ∙ ap labels (sym (take_more conns i conn lt))
