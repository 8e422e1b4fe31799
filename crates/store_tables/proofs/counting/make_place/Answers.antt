use Rattle.std.proofs.Common.{◌≡◌, false, ap, sym, ◌∙◌, subst, refl}
use Rattle.vdb_model.specs.Rows.{Cells}
use Rattle.store_tables.specs.Counting.{has_place, Places}
use Rattle.store_tables.proofs.TallySteps.{placed}
use Rattle.store_tables.proofs.counting.make_place.Goals as goal

pub returns-clause-same : goal.returns-clause-same
returns-clause-same c =
    let none : has_place c.args.map.now c.args.row.now ≡ false = sym c.contains_key.ensures ∙ c.if-contains_key.false in
    let key = c.in_ok-copy.ensures in
    subst (λ (k : Cells). Places k c.args.map.now c.insert.new.self) key
    (placed c.in_ok-copy.field-0 (record { kept = 0; seen = 0 }) c.args.map.now c.insert.new.self refl (ap (has_place c.args.map.now) key ∙ none) c.in_ok-insert.ensures.updates)
