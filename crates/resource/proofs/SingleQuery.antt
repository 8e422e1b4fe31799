-- A query that is asked of one table.
use Rattle.std.proofs.Common.{◌≡◌, ◌∙◌, Bool, true, false, not, ◌&&◌, ◌||◌, ◌==◌, ℕ, List, [], ◌∷◌, Option, Some, None, length, refl, sym, arith}
use Rattle.std.specs.Prelude.{nat_lt, is_none, sum}
use Rattle.std.proofs.lemmas.Bool.{and_parts}
use Rattle.std.proofs.lemmas.Bool.Decides.{nat_tests}
use Rattle.vdb_model.specs.declared.rel.Key.{Key}
use Rattle.vdb_model.specs.declared.source.Caps.{Caps}
use Rattle.vdb_model.specs.declared.source.SourceQuery.{SourceQuery}
use Rattle.vdb_model.specs.declared.table.TableDef.{TableDef}
use Rattle.vdb_model.specs.Defs.{all_below}
use Rattle.vdb_model.specs.Can.{can, all_defined, of_one_server, widths_of, all_criteria, all_asked, is_count_alone, joins_allowed, order_allowed, count_allowed, shape_allowed, names_known}
use Rattle.resource.specs.Single.{asks_one_table}

pub record SingleQuery (q : SourceQuery) : Type 0 where
  pub table : ℕ
  pub tables : q.tables ≡ table ∷ []
  pub distinct : q.distinct ≡ false
  pub order : q.order ≡ []
  pub limit : q.limit ≡ None
  pub count : q.count ≡ false

record Without (caps : Caps) : Type 0 where
  joins : caps.joins ≡ false
  distinct : caps.distinct ≡ false
  order : caps.order ≡ false
  limit : caps.limit ≡ false
  count_star : caps.count_star ≡ false

not_true : (b : Bool) → not b ≡ true → b ≡ false
not_true true h = cc
not_true false h = refl

without : (caps : Caps) → asks_one_table caps ≡ true → Without caps
without caps h =
    let h4 = and_parts _ (not caps.count_star) h in
    let h3 = and_parts _ (not caps.limit) h4.0 in
    let h2 = and_parts _ (not caps.order) h3.0 in
    let h1 = and_parts _ (not caps.distinct) h2.0 in
    record {
      joins = not_true caps.joins h1.0;
      distinct = not_true caps.distinct h1.1;
      order = not_true caps.order h2.1;
      limit = not_true caps.limit h3.1;
      count_star = not_true caps.count_star h4.1;
    }

one_table : (ts : List ℕ) → nat_lt 0 (length ts) ≡ true → nat_lt (length ts) 2 ≡ true → (t : ℕ) × (ts ≡ t ∷ [])
one_table [] h k = absurd (grind (arith, nat_tests))
one_table (t ∷ []) h k = (t, refl)
one_table (t ∷ (u ∷ us)) h k = absurd (grind (arith, nat_tests))

no_keys : (keys : List Key) → (length keys == 0) ≡ true → keys ≡ []
no_keys [] h = refl
no_keys (key ∷ keys) h = absurd (grind (arith, nat_tests))

no_limit : (limit : Option ℕ) → is_none limit ≡ true → limit ≡ None
no_limit None h = refl
no_limit (Some n) h = cc

first_one : (a b : Bool) → b ≡ false → (a || b) ≡ true → a ≡ true
first_one true b n h = refl
first_one false b n h = sym n ∙ h

not_both : (a b : Bool) → b ≡ false → (not a || b) ≡ true → a ≡ false
not_both true b n h = cc
not_both false b n h = refl

falls : (a b : Bool) → a ≡ false → (a && b) ≡ false
falls true b n = cc
falls false b n = refl

pub single_query : (caps : Caps) (defs : List TableDef) (q : SourceQuery) → asks_one_table caps ≡ true → can caps defs q ≡ true → SingleQuery q
single_query caps defs q one h =
    let w = without caps one in
    let whole = and_parts _ (shape_allowed caps q) h in
    let known = and_parts (names_known defs q) (all_criteria caps (widths_of defs q.tables) q.filter) whole.0 in
    let counts = and_parts _ (count_allowed caps q) whole.1 in
    let limits = and_parts _ (is_none q.limit || caps.limit) counts.0 in
    let orders = and_parts _ (order_allowed caps q) limits.0 in
    let joins = and_parts (joins_allowed caps q) (not q.distinct || caps.distinct) orders.0 in
    let below = and_parts _ (all_below (sum (widths_of defs q.tables)) q.columns) known.0 in
    let served = and_parts _ (of_one_server defs q.tables) below.0 in
    let some = and_parts _ (all_defined defs q.tables) served.0 in
    let one = one_table q.tables some.0 (first_one (nat_lt (length q.tables) 2) caps.joins w.joins joins.0) in
    record {
      table = one.0;
      tables = one.1;
      distinct = not_both q.distinct caps.distinct w.distinct joins.1;
      order = no_keys q.order (first_one (length q.order == 0) (caps.order && all_asked q.columns q.order) (falls caps.order (all_asked q.columns q.order) w.order) orders.1);
      limit = no_limit q.limit (first_one (is_none q.limit) caps.limit w.limit limits.1);
      count = not_both q.count (caps.count_star && is_count_alone q) (falls caps.count_star (is_count_alone q) w.count_star) counts.1;
    }
