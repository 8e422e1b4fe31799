use Rattle.std.proofs.Common.{◌≡◌, ◌∙◌, ◌+◌, ◌||◌, false, List, ◌∷◌, arith, drop, sym, ap}
use Rattle.std.specs.List.{list_any}
use Rattle.std.proofs.lemmas.Grind.{common_steps}
use Rattle.vdb_base.specs.declared.value.Value.{Value}
use Rattle.vdb_model.specs.Rows as spec
use Rattle.resource.proofs.Apart.{apart_from, apart_none, apart_more, was_new}
use Rattle.resource.proofs.keys.are_keyed_apart.Goals as goal

pub loop-row-init : goal.loop-row-init
loop-row-init c = rw c.new.ensures.empty (apart_none c.args.columns.now c.args.rows.now)

pub loop-row-preserved : goal.loop-row-preserved
loop-row-preserved c =
    let columns = c.args.columns.now in
    let rows = c.args.rows.now in
    let row = c.row-item.result in
    let rest = drop (c.loop-row.row-index + 1) rows in
    let seen = λ (key : List Value). list_any (spec.same_row key) c.loop-row.seen.keys.keys in
    let more = λ (key : List Value). list_any (spec.same_row key) c.add.new.self.keys.keys in
    let front : drop c.loop-row.row-index rows ≡ row ∷ rest = grind (arith, common_steps) in
    let is : c.in_ok-key.key ≡ spec.cut columns row = rw (← c.as_slice.ensures) c.in_ok-key.ensures in
    let was : seen (spec.cut columns row) ≡ false = rw (← is) (was_new (list_any (spec.same_row c.in_ok-key.key) c.loop-row.seen.keys.keys) (sym c.in_ok-add.ensures.new ∙ c.if-not-branch.false)) in
    let added : (other : List Value) → more other ≡ (spec.same_row (spec.cut columns row) other || seen other) = λ other. rw (← is) (c.in_ok-add.ensures.added other) in
    apart_more seen more columns row rest added was ∙ ap (apart_from seen columns) (sym front) ∙ c.loop-row.invariant
