-- What a shelf has of one table.
use Rattle.std.proofs.Common.{◌≡◌, ℕ, zero, suc, Bool, true, false, cond, not, List, [], ◌∷◌, length, get_or, Option, Result, Ok, Err, IfOk, refl, sym, ap, subst, ◌∙◌, arith}
use Rattle.std.specs.Prelude.{◌==◌}
use Rattle.std.proofs.lemmas.Bool.{and_parts, or_parts, eq-eqb, ne_eqb}
use Rattle.vdb_model.specs.declared.expr.Expr.{Expr}
use Rattle.vdb_model.specs.declared.source.Delta.{Delta}
use Rattle.vdb_model.specs.declared.table.TableDef.{TableDef}
use Rattle.vdb_model.specs.Defs.{def_of, is_defined}
use Rattle.vdb_model.specs.Deltas.{are_there, changed, repeats_key}
use Rattle.vdb_model.specs.Rows.{Cells}
use Rattle.vdb_model.specs.World.{takes_rows, keeps_key, is_world, table_rows}
use Rattle.resource.specs.Checked.{passing_cut}
use Rattle.store_tables.specs.Counting.{SameBag}
use Rattle.store_tables.specs.Shelves.{TablesHave, IsPlace}
use Rattle.store_tables.specs.Tables.{AreKeys, TableHas}
use Rattle.store_tables.specs.declared.table.Keys.{Keys}
use Rattle.store_tables.specs.declared.table.Table.{Table}
use Rattle.store_tables.proofs.ShelfSteps.{world_one}

later : (n : ℕ) (e : TableDef) (ds : List TableDef) (at : ℕ) → IsPlace n (e ∷ ds) (suc at) → IsPlace n ds at
later n e ds at p = record {
  within = omega (arith, p.within);
  here = λ d. p.here d;
  first = λ k d lt. p.first (suc k) d (omega arith);
}

-- the definition with the number stands at its place
pub def_at : (n : ℕ) (defs : List TableDef) (at : ℕ) (d : TableDef) → IsPlace n defs at → def_of defs n ≡ get_or defs at d
def_at n [] at d p = absurd (omega (arith, p.within))
def_at n (e ∷ ds) zero d p = ap (λ b. cond b e (def_of ds n)) (eq-eqb e.number n (p.here e))
def_at n (e ∷ ds) (suc at) d p = ap (λ b. cond b e (def_of ds n)) (ne_eqb e.number n (p.first 0 e (omega arith))) ∙ def_at n ds at d (later n e ds at p)

-- and the rows of its table
pub rows_at : (n : ℕ) (defs : List TableDef) (tables : List (List Cells)) (at : ℕ) → length tables ≡ length defs → IsPlace n defs at → table_rows defs tables n ≡ get_or tables at []
rows_at n [] tables at len p = absurd (omega (arith, p.within))
rows_at n (e ∷ ds) [] at len p = absurd (omega arith)
rows_at n (e ∷ ds) (rows ∷ tables) zero len p = ap (λ b. cond b rows (table_rows ds tables n)) (eq-eqb e.number n (p.here e))
rows_at n (e ∷ ds) (rows ∷ tables) (suc at) len p =
    ap (λ b. cond b rows (table_rows ds tables n)) (ne_eqb e.number n (p.first 0 e (omega arith)))
    ∙ rows_at n ds tables at (omega arith) (later n e ds at p)

pub rows_none : (n : ℕ) (defs : List TableDef) (tables : List (List Cells)) → is_defined defs n ≡ false → table_rows defs tables n ≡ []
rows_none n [] tables none = refl
rows_none n (e ∷ ds) [] none = refl
rows_none n (e ∷ ds) (rows ∷ tables) none =
    let p = or_parts (e.number == n) (is_defined ds n) none in
    ap (λ b. cond b rows (table_rows ds tables n)) p.0 ∙ rows_none n ds tables p.1

-- the table of a definition has its rows, as kept and as seen
pub has_table : (n : ℕ) (defs : List TableDef) (kept seen : List (List Cells)) (tables : List Table) (at : ℕ) (t : Table) → IsPlace n defs at → TablesHave defs kept seen tables
    → TableHas (def_of defs n).key (table_rows defs kept n) (table_rows defs seen n) (get_or tables at t)
has_table n defs kept seen tables at t p has =
    let d = def_of defs n in
    subst (λ (e : TableDef). TableHas e.key (table_rows defs kept n) (table_rows defs seen n) (get_or tables at t)) (sym (def_at n defs at d p))
    (subst (λ (rows : List Cells). TableHas (get_or defs at d).key rows (table_rows defs seen n) (get_or tables at t)) (sym (rows_at n defs kept at has.kept_len p))
    (subst (λ (rows : List Cells). TableHas (get_or defs at d).key (get_or kept at []) rows (get_or tables at t)) (sym (rows_at n defs seen at has.seen_len p)) (has.each at d t p.within)))

-- a table of a world keeps its key
pub keyed_at : (n : ℕ) (defs : List TableDef) (tables : List (List Cells)) (at : ℕ) → length tables ≡ length defs → IsPlace n defs at → is_world defs tables ≡ true → keeps_key (def_of defs n).key (table_rows defs tables n) ≡ true
keyed_at n defs tables at len p world =
    let d = def_of defs n in
    let rows = get_or tables at [] in
    let here = (and_parts (takes_rows (get_or defs at d).columns rows) (keeps_key (get_or defs at d).key rows) (world_one defs tables at d world p.within)).1 in
    ap (λ (e : TableDef). keeps_key e.key (table_rows defs tables n)) (def_at n defs at d p) ∙ ap (keeps_key (get_or defs at d).key) (rows_at n defs tables at len p) ∙ here

-- ---- what calls of the table say of the shelf

-- an answer for the table's rows
pub answers_one : {E : Type 0} (result : Result (List Cells) E) (es : List Expr) (columns : List ℕ) (n : ℕ) (defs : List TableDef) (tables : List Table) (at : ℕ) (t : Table) → IsPlace n defs at → t ≡ get_or tables at t
    → ((ats : Option (List ℕ)) (kept seen : List Cells) → TableHas ats kept seen t → IfOk result (λ made. SameBag made (passing_cut es columns seen)))
    → IfOk result (λ made. (kept : List (List Cells)) → (seen : List (List Cells)) → TablesHave defs kept seen tables → SameBag made (passing_cut es columns (table_rows defs seen n)))
answers_one (Ok made) es columns n defs tables at t p is says = λ kept seen has.
    says (def_of defs n).key (table_rows defs kept n) (table_rows defs seen n)
    (subst (λ (x : Table). TableHas (def_of defs n).key (table_rows defs kept n) (table_rows defs seen n) x) (sym is) (has_table n defs kept seen tables at t p has))
answers_one (Err e) es columns n defs tables at t p is says = tt

if_same : {E : Type 0} (r : Result Bool E) (a b : Bool) → a ≡ b → IfOk r (λ x. x ≡ a) → IfOk r (λ x. x ≡ b)
if_same (Ok x) a b e h = h ∙ e
if_same (Err e) a b f h = tt

not_not : (b : Bool) → b ≡ not (not b)
not_not true = refl
not_not false = refl

-- the test of the table's key
pub key_at_place : {E : Type 0} (r : Result Bool E) (defs : List TableDef) (kept seen : List (List Cells)) (tables : List Table) (delta : Delta) (keys : Keys) (at : ℕ) (t : Table) → IsPlace delta.table defs at → t ≡ get_or tables at t
    → ((d : TableDef) → AreKeys (get_or defs at d).key delta keys) → TablesHave defs kept seen tables → is_world defs seen ≡ true → are_there delta.removed (table_rows defs seen delta.table) ≡ true
    → ((ats : Option (List ℕ)) (k s : List Cells) (change : Delta) → AreKeys ats change keys → TableHas ats k s t → keeps_key ats s ≡ true → are_there change.removed s ≡ true → IfOk r (λ apart. apart ≡ keeps_key ats (changed change s)))
    → IfOk r (λ apart. apart ≡ not (repeats_key defs seen delta))
key_at_place r defs kept seen tables delta keys at t p is are has world there says =
    let n = delta.table in
    let d = def_of defs n in
    let key_is : AreKeys d.key delta keys = subst (λ (e : TableDef). AreKeys e.key delta keys) (sym (def_at n defs at d p)) (are d) in
    let rows = subst (λ (x : Table). TableHas d.key (table_rows defs kept n) (table_rows defs seen n) x) (sym is) (has_table n defs kept seen tables at t p has) in
    let apart = keyed_at n defs seen at has.seen_len p world in
    if_same r (keeps_key d.key (changed delta (table_rows defs seen n))) (not (repeats_key defs seen delta)) (not_not (keeps_key d.key (changed delta (table_rows defs seen n))))
    (says d.key (table_rows defs kept n) (table_rows defs seen n) delta key_is rows apart there)
