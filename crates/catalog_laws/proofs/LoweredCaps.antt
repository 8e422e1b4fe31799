-- Options of a server lower no capability to write.
use Rattle.std.proofs.Common.{◌≡◌, ◌∙◌, ℕ, Bool, true, false, if◌then◌else◌, List, [], ◌∷◌, Option, Some, None, refl}
use Rattle.std.specs.Prelude.{codes}
use Rattle.vdb_model.specs.declared.source.Caps.{Caps}
use Rattle.vdb_model.specs.Defs.{same_name}
use Rattle.sql_reader.specs.declared.tree.expr.Constant.{Constant}
use Rattle.vdb_ddl.specs.declared.tree.Setting.{Setting}
use Rattle.metadata.specs.Options.{in_size_of, without_of, said, without, in_size_said, sized_by, without_said, narrowed_by, sized, narrowed, lowered}

either_writes : (writes b : Bool) (one other : Caps) → one.writes ≡ writes → other.writes ≡ writes → (if b then one else other).writes ≡ writes
either_writes writes true one other h k = h
either_writes writes false one other h k = k

said_writes : (writes : Bool) (name : List ℕ) (read : Constant → Caps) → ((constant : Constant) → (read constant).writes ≡ writes) → (so_far : Caps) → so_far.writes ≡ writes → (settings : List Setting)
    → (said name read so_far settings).writes ≡ writes
said_writes writes name read each so_far h [] = h
said_writes writes name read each so_far h (setting ∷ settings) =
    said_writes writes name read each (if same_name setting.name.text name then read setting.value.constant else so_far)
    (either_writes writes (same_name setting.name.text name) (read setting.value.constant) so_far (each setting.value.constant) h) settings

in_size_writes : (caps : Caps) (size : Option ℕ) → (in_size_said caps size).writes ≡ caps.writes
in_size_writes caps None = refl
in_size_writes caps (Some n) = refl

without_writes : (caps : Caps) (names : Option (List (List ℕ))) → (without_said caps names).writes ≡ caps.writes
without_writes caps None = refl
without_writes caps (Some names) = refl

pub lowered_writes : (options : List Setting) (caps : Caps) → (lowered options caps).writes ≡ caps.writes
lowered_writes options caps =
    said_writes (sized options caps).writes (codes "without") (narrowed_by (sized options caps)) (λ constant. without_writes (sized options caps) (without_of constant)) (sized options caps) refl options
    ∙ said_writes caps.writes (codes "maxincriteriasize") (sized_by caps) (λ constant. in_size_writes caps (in_size_of constant)) caps refl options
