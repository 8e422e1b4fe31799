-- Lanes of the same names that show the same show one world.
use Rattle.std.proofs.Common.{◌≡◌, ℕ, suc, ◌<◌, ◌+◌, Bool, List, [], ◌∷◌, Option, Some, length, map, refl, ap, ◌∙◌, arith, if◌then◌else◌}
use Rattle.std.specs.Option.{option_map}
use Rattle.std.proofs.lemmas.List.{length-append}
use Rattle.vdb_model.specs.declared.table.Kind.{Kind}
use Rattle.vdb_model.specs.declared.table.TableDef.{TableDef}
use Rattle.vdb_model.specs.Defined.{Defined}
use Rattle.vdb_model.specs.Rows.{Cells}
use Rattle.resource.specs.declared.lane.Lane.{Lane}
use Rattle.resource.specs.Lanes.{told_of, labels_of, counts_of}
use Rattle.resource.specs.Told.{Told, work}
use Rattle.vdb_session.specs.Lanes.{AreAsked, attached}
use Rattle.vdb_session.specs.Shown.{serves, server_shows, rows_of_table, with_rows, rows_of_tables, world_by, sees}
use Rattle.vdb_session.proofs.ServedLanes.{head_same, tail_same}

if_same : {X : Type 0} (b c : Bool) (x x2 y y2 : X) → b ≡ c → x ≡ x2 → y ≡ y2 → (if b then x else y) ≡ (if c then x2 else y2)
if_same b c x x2 y y2 e f g = ap (λ (t : Bool). if t then x else y) e ∙ ap (λ z. if c then z else y) f ∙ ap (λ z. if c then x2 else z) g

shows_same : {S : Type 0} (f g : Lane S → Option (List (List Cells))) (cat : Defined) (server : ℕ) (old new : List (Lane S)) → labels_of new ≡ labels_of old → map f new ≡ map g old
    → server_shows f cat new server ≡ server_shows g cat old server
shows_same f g cat server [] [] l e = refl
shows_same f g cat server [] (n ∷ ns) l e = cc
shows_same f g cat server (o ∷ os) [] l e = cc
shows_same f g cat server (o ∷ os) (n ∷ ns) l e =
    let name : n.name ≡ o.name = ap (λ (p : List ℕ × Kind). p.0) (head_same (n.name, n.kind) (o.name, o.kind) (labels_of ns) (labels_of os) l) in
    let labels : labels_of ns ≡ labels_of os = tail_same (n.name, n.kind) (o.name, o.kind) (labels_of ns) (labels_of os) l in
    let here : f n ≡ g o = head_same (f n) (g o) (map f ns) (map g os) e in
    let rest : map f ns ≡ map g os = tail_same (f n) (g o) (map f ns) (map g os) e in
    if_same (serves cat server n.name) (serves cat server o.name) (f n) (g o) (server_shows f cat ns server) (server_shows g cat os server)
    (ap (serves cat server) name) here (shows_same f g cat server os ns labels rest)

tables_same : {S : Type 0} (f g : Lane S → Option (List (List Cells))) (cat : Defined) (ds : List TableDef) (old new : List (Lane S)) → labels_of new ≡ labels_of old → map f new ≡ map g old
    → rows_of_tables f cat new ds ≡ rows_of_tables g cat old ds
tables_same f g cat [] old new l e = refl
tables_same f g cat (d ∷ ds) old new l e =
    ap (λ shown. with_rows (option_map (rows_of_table cat d) shown) (rows_of_tables f cat new ds)) (shows_same f g cat d.server old new l e)
    ∙ ap (λ more. with_rows (option_map (rows_of_table cat d) (server_shows g cat old d.server)) more) (tables_same f g cat ds old new l e)

pub world_same : {S : Type 0} (f g : Lane S → Option (List (List Cells))) (cat : Defined) (old new : List (Lane S)) → labels_of new ≡ labels_of old → map f new ≡ map g old
    → world_by f cat new ≡ world_by g cat old
world_same f g cat old new l e = tables_same f g cat cat.tables old new l e

sees_same : {S : Type 0} (told : S → Told) (old new : List (Lane S)) → map attached (told_of told new) ≡ map attached (told_of told old) → map (sees told) new ≡ map (sees told) old
sees_same told [] [] e = refl
sees_same told [] (n ∷ ns) e = cc
sees_same told (o ∷ os) [] e = cc
sees_same told (o ∷ os) (n ∷ ns) e =
    let here : attached (told n.res) ≡ attached (told o.res) = head_same (attached (told n.res)) (attached (told o.res)) (map attached (told_of told ns)) (map attached (told_of told os)) e in
    let rest : map attached (told_of told ns) ≡ map attached (told_of told os) = tail_same (attached (told n.res)) (attached (told o.res)) (map attached (told_of told ns)) (map attached (told_of told os)) e in
    let shown : sees told n ≡ sees told o = ap work here in
    ap (λ x. x ∷ map (sees told) ns) shown ∙ ap (λ xs. sees told o ∷ xs) (sees_same told os ns rest)

-- lanes that were asked show the world that they showed before
pub world_stays : {S : Type 0} (told : S → Told) (failed : Option ℕ) (cat : Defined) (old new : List (Lane S)) → AreAsked told failed old new → world_by (sees told) cat new ≡ world_by (sees told) cat old
world_stays told failed cat old new a = world_same (sees told) (sees told) cat old new a.labels (sees_same told old new a.kept)

length_map : {X Y : Type 0} (f : X → Y) (xs : List X) → length (map f xs) ≡ length xs
length_map f [] = refl
length_map f (x ∷ xs) = ap suc (length_map f xs)

-- a lane whose count rose is there
pub lane_is_there : {S : Type 0} (told : S → Told) (lane : ℕ) (old new : List (Lane S)) → AreAsked told (Some lane) old new → lane < length old
lane_is_there told lane old new a =
    let many : length (counts_of (told_of told old)) ≡ length old = length_map (λ (t : Told). t.faults) (told_of told old) ∙ length_map (λ (l : Lane _). told l.res) old in
    let parts : length (counts_of (told_of told old)) ≡ length a.counts.first + length (a.counts.before ∷ a.counts.rest) = ap length a.counts.was ∙ length-append a.counts.first (a.counts.before ∷ a.counts.rest) in
    omega (arith, many, parts, a.counts.place)
