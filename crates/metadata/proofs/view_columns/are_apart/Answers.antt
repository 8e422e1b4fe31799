use Rattle.std.proofs.Common.{◌≡◌, ◌∙◌, ◌+◌, ◌||◌, ℕ, false, List, ◌∷◌, drop, sym, ap, subst, arith}
use Rattle.std.proofs.lemmas.Grind.{common_steps}
use Rattle.vdb_model.specs.declared.typed.VarDef.{VarDef}
use Rattle.vdb_model.specs.Defs.{same_name}
use Rattle.metadata.specs.Texts.{is_among}
use Rattle.metadata.specs.Views.{are_apart}
use Rattle.metadata.proofs.ApartNames.{go_on, at_first, one_on}
use Rattle.metadata.proofs.view_columns.are_apart.Goals as goal

pub loop-column-init : goal.loop-column-init
loop-column-init c = subst (λ (names : List (List ℕ)). go_on names c.args.columns.now ≡ are_apart c.args.columns.now) (sym c.new-names.ensures) (at_first c.args.columns.now)

pub loop-column-preserved : goal.loop-column-preserved
loop-column-preserved c =
    let columns = c.args.columns.now in
    let names = c.loop-column.names.texts.keys in
    let more = c.add.new.self.texts.keys in
    let column = c.column-item.result in
    let rest = drop (c.loop-column.column-index + 1) columns in
    let cut : drop c.loop-column.column-index columns ≡ column ∷ rest = grind (arith, common_steps) in
    let new : is_among names column.name ≡ false = sym c.has.ensures ∙ c.if-has.false in
    let added : (q : List ℕ) → is_among more q ≡ (same_name column.name q || is_among names q) = subst (λ (text : List ℕ). (q : List ℕ) → is_among more q ≡ (same_name text q || is_among names q)) c.in_ok-copy.ensures c.in_ok-add.ensures in
    one_on names more column rest (are_apart columns) new added (subst (λ (cs : List VarDef). go_on names cs ≡ are_apart columns) cut c.loop-column.invariant)
