-- A derivation of an item leaves the parts that its symbols give.
use Rattle.std.proofs.Common.{ℕ, true, List, [], ◌∷◌, ◌++◌, ◌≡◌, refl, subst}
use Rattle.grammar.specs.Derivation.{Derives}
use Rattle.grammar.specs.declared.machine.Event.{Event}
use Rattle.grammar.proofs.Moves.{Symbols, Signature, takes, gives, all_right, run}
use Rattle.grammar.proofs.Moves as general
use Rattle.sql_reader.specs.Source.{Source}
use Rattle.vdb_ddl.specs.Build.{act_on, build}
use Rattle.vdb_ddl.specs.Table.{table}
use Rattle.vdb_ddl.specs.Waiting.{Waiting}
use Rattle.vdb_ddl.proofs.Signatures.{signatures, signature_of}
use Rattle.vdb_ddl.proofs.Waits.{Has, number_has}

-- the kinds of parts that wait after the symbols, by those before
abbrev pub Moves : Symbols → List ℕ → List ℕ → Type 0
Moves ss a b = general.Moves table signatures signature_of ss a b

-- the test, computed
table_right : all_right table signatures signature_of table signatures ≡ true
table_right = refl

module _ (s : Source) where
  abbrev on : ℕ → ℕ → Waiting → Waiting
  on pos n w = act_on s pos n w

  acts : (n pos : ℕ) (w : Waiting) (r : List ℕ) → Has w (takes (signature_of n) ++ r) → Has (on pos n w) (gives (signature_of n) ++ r)
  acts n pos w r h = number_has s pos n w r h

  built : (log : List Event) (w : Waiting) → run table signatures signature_of Has on table_right acts log w ≡ build s log w
  built [] w = refl
  built (e ∷ es) w = built es (on e.at e.action w)

  pub typed : {pos : ℕ} {ss : Symbols} {log : List Event} {ts more : List ℕ} {a b : List ℕ}
      → Derives table pos ss log ts more → (w : Waiting) → Moves ss a b → Has w a → Has (build s log w) b
  typed {log = log} {b = b} d w m h =
      subst (λ (v : Waiting). Has v b) (built log w) (general.typed table signatures signature_of Has on table_right acts d w m h)
