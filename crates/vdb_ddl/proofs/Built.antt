-- The actions of an item's derivation leave one tree.
use Rattle.std.proofs.Common.{ℕ, List, [], ◌∷◌, ◌++◌, ◌≡◌, length, refl, sym, ap, ◌∙◌, arith}
use Rattle.std.specs.Prelude.{reverse}
use Rattle.std.proofs.lemmas.List.{reverse-append}
use Rattle.grammar.specs.Reading.{IsSentence}
use Rattle.grammar.specs.declared.machine.Event.{Event}
use Rattle.grammar.proofs.Moves.{end, next}
use Rattle.sql_reader.specs.Source.{Source}
use Rattle.sql_reader.specs.Waiting as sql
use Rattle.sql_reader.proofs.Waits as statements
use Rattle.vdb_ddl.specs.declared.tree.Item.{Item}
use Rattle.vdb_ddl.specs.Build.{build}
use Rattle.vdb_ddl.specs.Laws.{OneItemBuilt}
use Rattle.vdb_ddl.specs.Symbols.{DDL_ITEM_RULE}
use Rattle.vdb_ddl.specs.Table.{table}
use Rattle.vdb_ddl.specs.Waiting.{Waiting, none}
use Rattle.vdb_ddl.proofs.Moves.{typed}
use Rattle.vdb_ddl.proofs.Waits.{Has}

one : {A : Type 0} (xs : List A) → length xs ≡ 1 → (x : A) × (xs ≡ x ∷ [])
one [] h = absurd (omega arith)
one (x ∷ []) h = (x, refl)
one (x ∷ y ∷ xs) h = absurd (omega arith)

empty : {A : Type 0} (xs : List A) → length xs ≡ 0 → xs ≡ []
empty [] h = refl
empty (x ∷ xs) h = absurd (omega arith)

nothing_waits : Has none []
nothing_waits = record { sql = record { places = refl; names = refl; literals = refl; columns = refl; relations = refl; exprs = refl; lists = refl; links = refl; arms = refl; selects = refl; sets = refl; tables = refl; queries = refl; name_lists = refl; assignments = refl; statements = refl }; settings = refl; table_parts = refl; view_columns = refl; items = refl }

-- no part of statements waits
no_parts : (w : sql.Waiting) → statements.Has w (19 ∷ []) → w ≡ sql.none
no_parts w h =
    let e : record { places = w.places; names = w.names; literals = w.literals; columns = w.columns; relations = w.relations; exprs = w.exprs; lists = w.lists; links = w.links; arms = w.arms; selects = w.selects; sets = w.sets; tables = w.tables; queries = w.queries; name_lists = w.name_lists; assignments = w.assignments; statements = w.statements } ≡ sql.none = rw (empty w.places h.places, empty w.names h.names, empty w.literals h.literals, empty w.columns h.columns, empty w.relations h.relations, empty w.exprs h.exprs, empty w.lists h.lists, empty w.links h.links, empty w.arms h.arms, empty w.selects h.selects, empty w.sets h.sets, empty w.tables h.tables, empty w.queries h.queries, empty w.name_lists h.name_lists, empty w.assignments h.assignments, empty w.statements h.statements) refl in
    e

-- one item waits
alone : (w : Waiting) (tree : Item) → w.items ≡ tree ∷ [] → Has w (19 ∷ []) → w ≡ record none { items = tree ∷ [] }
alone w tree is h =
    let e : record { sql = w.sql; settings = w.settings; table_parts = w.table_parts; view_columns = w.view_columns; items = w.items } ≡ record none { items = tree ∷ [] } = rw (no_parts w.sql h.sql, empty w.settings h.settings, empty w.table_parts h.table_parts, empty w.view_columns h.view_columns, is) refl in
    e

left : (w : Waiting) → Has w (19 ∷ []) → (tree : Item) × (w ≡ record none { items = tree ∷ [] })
left w h = let s = one w.items h.items in (s.0, alone w s.0 s.1 h)

pub one_item_built : OneItemBuilt
one_item_built s kinds log d = left (build s log none) (typed s d none (next [] refl end) nothing_waits)

last_is : {A : Type 0} (xs ys : List A) (x y : A) → reverse xs ≡ x ∷ [] → xs ≡ ys ++ y ∷ [] → x ≡ y
last_is xs ys x y e f = let h : x ∷ [] ≡ y ∷ reverse ys = sym e ∙ ap reverse f ∙ reverse-append ys (y ∷ []) in cc

-- some item is left
pub not_none : (s : Source) (log : List Event) (w : Waiting) (xs : List Item) (n : ℕ) → ((kinds : List ℕ) × IsSentence table DDL_ITEM_RULE kinds log)
    → w ≡ build s log none → w.items ≡ reverse xs → n ≡ length xs → n ≡ 0 → ⊥
not_none s log w xs n d b r len zero =
    let t = one_item_built s d.0 log d.1 in
    let h : t.0 ∷ [] ≡ [] = sym (ap (λ (v : Waiting). v.items) (b ∙ t.1)) ∙ r ∙ ap reverse (empty xs (sym len ∙ zero)) in
    cc

-- and it is the derivation's
pub is_item : (s : Source) (log : List Event) (w : Waiting) (xs ys : List Item) (y : Item) → ((kinds : List ℕ) × IsSentence table DDL_ITEM_RULE kinds log)
    → w ≡ build s log none → w.items ≡ reverse xs → xs ≡ ys ++ y ∷ [] → build s log none ≡ record none { items = y ∷ [] }
is_item s log w xs ys y d b r i =
    let t = one_item_built s d.0 log d.1 in
    let l = last_is xs ys t.0 y (sym r ∙ ap (λ (v : Waiting). v.items) (b ∙ t.1)) i in
    t.1 ∙ ap (λ (x : Item). let v : Waiting = record none { items = x ∷ [] } in v) l
