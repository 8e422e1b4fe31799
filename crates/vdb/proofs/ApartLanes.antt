-- No two lanes of a run have one name, since its words give it one connection.
use Rattle.std.proofs.Common.{◌≡◌, ◌∙◌, ℕ, Bool, true, false, if◌then◌else◌, List, [], ◌∷◌, Option, Some, None, Result, Ok, Err, map, refl, sym, ap, subst}
use Rattle.std.specs.Prelude.{codes}
use Rattle.vdb_model.specs.declared.table.Kind.{Kind}
use Rattle.vdb_model.specs.Defs.{same_name}
use Rattle.resource.specs.declared.lane.Lane.{Lane}
use Rattle.resource.specs.Lanes.{labels_of}
use Rattle.resource.specs.Told.{Told}
use Rattle.vdb_session.specs.declared.parts.Parts.{Parts}
use Rattle.vdb_session.specs.Lanes.{are_apart, names_of}
use Rattle.vdb.specs.declared.words.Command.TheVariants.{Run}
use Rattle.vdb.specs.declared.words.Conn.{Conn}
use Rattle.vdb.specs.declared.words.Setup.{Setup}
use Rattle.vdb.specs.Making.{MakerTold, labels, conn_names, Made}
use Rattle.vdb.specs.Words.{is_path, conn_of, setup_with, conns_of, vdb_of, setup_of}

-- the words

if_ok : (b : Bool) (r : Result Setup ℕ) (at : ℕ) (setup : Setup) → (if b then r else Err at) ≡ Ok setup → r ≡ Ok setup
if_ok true r at setup e = e
if_ok false r at setup e = absurd (cc e)

same_setup : (r : Result Setup ℕ) (a b : Setup) → r ≡ Ok a → r ≡ Ok b → a ≡ b
same_setup r a b e f = cc (e, f)

with_apart : (vdb : List ℕ) (conn : Option Conn) (words : List (List ℕ)) (setup : Setup) → setup_with vdb conn words ≡ Ok setup → are_apart (conn_names setup.conns) ≡ true
with_apart vdb None words setup e = absurd (cc e)
with_apart vdb (Some conn) [] setup e = subst (λ (s : Setup). are_apart (conn_names s.conns) ≡ true) (same_setup (setup_with vdb (Some conn) []) (record { command = Run; vdb = vdb; conns = conn ∷ [] }) setup refl e) refl
with_apart vdb (Some conn) (word ∷ words) setup e = absurd (cc e)

conns_apart : (vdb : List ℕ) (words : List (List ℕ)) (setup : Setup) → conns_of vdb words ≡ Ok setup → are_apart (conn_names setup.conns) ≡ true
conns_apart vdb [] setup e = absurd (cc e)
conns_apart vdb (word ∷ words) setup e = with_apart vdb (conn_of word) words setup e

vdb_apart : (words : List (List ℕ)) (setup : Setup) → vdb_of words ≡ Ok setup → are_apart (conn_names setup.conns) ≡ true
vdb_apart [] setup e = absurd (cc e)
vdb_apart (word ∷ words) setup e = conns_apart word words setup (if_ok (is_path word) (conns_of word words) 2 setup e)

pub setup_apart : (words : List (List ℕ)) (setup : Setup) → setup_of words ≡ Ok setup → are_apart (conn_names setup.conns) ≡ true
setup_apart [] setup e = absurd (cc e)
setup_apart (word ∷ words) setup e = vdb_apart words setup (if_ok (same_name word (codes "run")) (vdb_of words) 1 setup e)

-- the lanes

abbrev first_each : List (List ℕ × Kind) → List (List ℕ)
first_each labels = map (λ label. label.0) labels

lane_names : {S : Type 0} (lanes : List (Lane S)) → names_of lanes ≡ first_each (labels_of lanes)
lane_names [] = refl
lane_names (lane ∷ lanes) = ap (λ (names : List (List ℕ)). lane.name ∷ names) (lane_names lanes)

label_names : (conns : List Conn) → first_each (labels conns) ≡ conn_names conns
label_names [] = refl
label_names (conn ∷ conns) = ap (λ (names : List (List ℕ)). conn.name ∷ names) (label_names conns)

pub lanes_apart : {S : Type 0} (told : S → Told) (setup : Setup) (old new : MakerTold S) (parts : Parts S) → are_apart (conn_names setup.conns) ≡ true → Made told setup old new parts
    → are_apart (names_of parts.lanes) ≡ true
lanes_apart told setup old new parts apart made = subst (λ (names : List (List ℕ)). are_apart names ≡ true) (sym (lane_names parts.lanes ∙ ap first_each made.are_for ∙ label_names setup.conns)) apart
