-- How many parts wait after an action, by those before.
use Rattle.std.proofs.Common.{ℕ, zero, suc, Bool, true, false, List, [], ◌∷◌, ◌++◌, ◌-◌, ◌≡◌, ◌≤◌, ◌&&◌, length, refl, sym, ◌∙◌, arith, if◌then◌else◌}
use Rattle.std.proofs.lemmas.Bool.{eqb-true, ltb-true, and_parts}
use Rattle.std.specs.List.{list_all}
use Rattle.std.specs.Prelude.{◌==◌, nat_lt, slice_index_or}
use Rattle.grammar.proofs.Moves.{Signature, takes, gives}
use Rattle.sql_reader.specs.Source.{Source}
use Rattle.sql_reader.specs.Build as sql
use Rattle.sql_reader.specs.Waiting.{rest}
use Rattle.sql_reader.specs.Actions.{actions}
use Rattle.sql_reader.specs.Symbols.{FIRST_ACTION}
use Rattle.sql_reader.proofs.Signatures.{action_signature}
use Rattle.sql_reader.proofs.Waits as statements
use Rattle.sql_reader.proofs.Waits.{count, act_has, len_rest, len_made, len_made2, len_made3, len_made_of_two, len_put, len_put2, len_put_two}
use Rattle.vdb_ddl.specs.declared.build.Action as own
use Rattle.vdb_ddl.specs.declared.build.Action.TheVariants as action
use Rattle.vdb_ddl.specs.Build.{action_of, act_on, item_on}
use Rattle.vdb_ddl.specs.Symbols.{FIRST_DDL_ACTION}
use Rattle.vdb_ddl.specs.Waiting.{Waiting, made_with_two, made4, put_with_two}
use Rattle.vdb_ddl.proofs.Signatures.{signature_of, item_signature}

-- so many parts of each kind wait
pub record Has (w : Waiting) (held : List ℕ) : Type 0 where
  pub sql : statements.Has w.sql held
  pub settings : length w.settings ≡ count 16 held
  pub table_parts : length w.table_parts ≡ count 17 held
  pub view_columns : length w.view_columns ≡ count 18 held
  pub items : length w.items ≡ count 19 held

len_made_with_two : {A B Z : Type 0} (f : A → B → B → Z) (xs : List A) (ys : List B) (zs : List Z) (a b k : ℕ) → length xs ≡ suc a → length ys ≡ suc (suc b) → length zs ≡ k → length (made_with_two f xs ys zs) ≡ suc k
len_made_with_two f [] ys zs a b k h i l = absurd (omega arith)
len_made_with_two f (x ∷ xs) ys zs a b k h i l = len_made_of_two (f x) ys zs b k i l

len_made4 : {A B C D Z : Type 0} (f : A → B → C → D → Z) (xs : List A) (ys : List B) (us : List C) (vs : List D) (zs : List Z) (a b c d k : ℕ) → length xs ≡ suc a → length ys ≡ suc b → length us ≡ suc c → length vs ≡ suc d → length zs ≡ k → length (made4 f xs ys us vs zs) ≡ suc k
len_made4 f [] ys us vs zs a b c d k h i m n l = absurd (omega arith)
len_made4 f (x ∷ xs) ys us vs zs a b c d k h i m n l = len_made3 (f x) ys us vs zs b c d k i m n l

len_put_with_two : {A B Z : Type 0} (f : A → B → B → Z → Z) (xs : List A) (ys : List B) (zs : List Z) (a b k : ℕ) → length xs ≡ suc a → length ys ≡ suc (suc b) → length zs ≡ suc k → length (put_with_two f xs ys zs) ≡ suc k
len_put_with_two f [] ys zs a b k h i l = absurd (omega arith)
len_put_with_two f (x ∷ xs) ys zs a b k h i l = len_put_two (f x) ys zs b k i l

item_has : (a : own.Action) (w : Waiting) (r : List ℕ) → Has w (takes (item_signature a) ++ r) → Has (item_on a w) (gives (item_signature a) ++ r)
item_has action.Nothing w r h = h
item_has action.Options w r h = record { sql = record { places = h.sql.places; names = h.sql.names; literals = h.sql.literals; columns = h.sql.columns; relations = h.sql.relations; exprs = h.sql.exprs; lists = h.sql.lists; links = h.sql.links; arms = h.sql.arms; selects = h.sql.selects; sets = h.sql.sets; tables = h.sql.tables; queries = h.sql.queries; name_lists = h.sql.name_lists; assignments = h.sql.assignments; statements = h.sql.statements }; settings = (let e = h.settings in omega arith); table_parts = h.table_parts; view_columns = h.view_columns; items = h.items }
item_has action.Setting w r h = record { sql = record { places = h.sql.places; names = len_rest w.sql.names _ h.sql.names; literals = len_rest w.sql.literals _ h.sql.literals; columns = h.sql.columns; relations = h.sql.relations; exprs = h.sql.exprs; lists = h.sql.lists; links = h.sql.links; arms = h.sql.arms; selects = h.sql.selects; sets = h.sql.sets; tables = h.sql.tables; queries = h.sql.queries; name_lists = h.sql.name_lists; assignments = h.sql.assignments; statements = h.sql.statements }; settings = len_put2 _ w.sql.names w.sql.literals w.settings _ _ _ h.sql.names h.sql.literals h.settings; table_parts = h.table_parts; view_columns = h.view_columns; items = h.items }
item_has action.CreateDatabase w r h = record { sql = record { places = h.sql.places; names = len_rest w.sql.names _ h.sql.names; literals = h.sql.literals; columns = h.sql.columns; relations = h.sql.relations; exprs = h.sql.exprs; lists = h.sql.lists; links = h.sql.links; arms = h.sql.arms; selects = h.sql.selects; sets = h.sql.sets; tables = h.sql.tables; queries = h.sql.queries; name_lists = h.sql.name_lists; assignments = h.sql.assignments; statements = h.sql.statements }; settings = len_rest w.settings _ h.settings; table_parts = h.table_parts; view_columns = h.view_columns; items = len_made2 _ w.sql.names w.settings w.items _ _ _ h.sql.names h.settings h.items }
item_has action.UseDatabase w r h = record { sql = record { places = h.sql.places; names = len_rest w.sql.names _ h.sql.names; literals = h.sql.literals; columns = h.sql.columns; relations = h.sql.relations; exprs = h.sql.exprs; lists = h.sql.lists; links = h.sql.links; arms = h.sql.arms; selects = h.sql.selects; sets = h.sql.sets; tables = h.sql.tables; queries = h.sql.queries; name_lists = h.sql.name_lists; assignments = h.sql.assignments; statements = h.sql.statements }; settings = h.settings; table_parts = h.table_parts; view_columns = h.view_columns; items = len_made _ w.sql.names w.items _ _ h.sql.names h.items }
item_has action.CreateServer w r h = record { sql = record { places = h.sql.places; names = len_rest (rest w.sql.names) _ (len_rest w.sql.names _ h.sql.names); literals = h.sql.literals; columns = h.sql.columns; relations = h.sql.relations; exprs = h.sql.exprs; lists = h.sql.lists; links = h.sql.links; arms = h.sql.arms; selects = h.sql.selects; sets = h.sql.sets; tables = h.sql.tables; queries = h.sql.queries; name_lists = h.sql.name_lists; assignments = h.sql.assignments; statements = h.sql.statements }; settings = len_rest w.settings _ h.settings; table_parts = h.table_parts; view_columns = h.view_columns; items = len_made_with_two _ w.settings w.sql.names w.items _ _ _ h.settings h.sql.names h.items }
item_has action.CreateSchema w r h = record { sql = record { places = h.sql.places; names = len_rest (rest w.sql.names) _ (len_rest w.sql.names _ h.sql.names); literals = h.sql.literals; columns = h.sql.columns; relations = h.sql.relations; exprs = h.sql.exprs; lists = h.sql.lists; links = h.sql.links; arms = h.sql.arms; selects = h.sql.selects; sets = h.sql.sets; tables = h.sql.tables; queries = h.sql.queries; name_lists = h.sql.name_lists; assignments = h.sql.assignments; statements = h.sql.statements }; settings = len_rest w.settings _ h.settings; table_parts = h.table_parts; view_columns = h.view_columns; items = len_made_with_two _ w.settings w.sql.names w.items _ _ _ h.settings h.sql.names h.items }
item_has action.CreateVirtualSchema w r h = record { sql = record { places = h.sql.places; names = len_rest w.sql.names _ h.sql.names; literals = h.sql.literals; columns = h.sql.columns; relations = h.sql.relations; exprs = h.sql.exprs; lists = h.sql.lists; links = h.sql.links; arms = h.sql.arms; selects = h.sql.selects; sets = h.sql.sets; tables = h.sql.tables; queries = h.sql.queries; name_lists = h.sql.name_lists; assignments = h.sql.assignments; statements = h.sql.statements }; settings = len_rest w.settings _ h.settings; table_parts = h.table_parts; view_columns = h.view_columns; items = len_made2 _ w.sql.names w.settings w.items _ _ _ h.sql.names h.settings h.items }
item_has action.SetSchema w r h = record { sql = record { places = h.sql.places; names = len_rest w.sql.names _ h.sql.names; literals = h.sql.literals; columns = h.sql.columns; relations = h.sql.relations; exprs = h.sql.exprs; lists = h.sql.lists; links = h.sql.links; arms = h.sql.arms; selects = h.sql.selects; sets = h.sql.sets; tables = h.sql.tables; queries = h.sql.queries; name_lists = h.sql.name_lists; assignments = h.sql.assignments; statements = h.sql.statements }; settings = h.settings; table_parts = h.table_parts; view_columns = h.view_columns; items = len_made _ w.sql.names w.items _ _ h.sql.names h.items }
item_has action.TableParts w r h = record { sql = record { places = h.sql.places; names = h.sql.names; literals = h.sql.literals; columns = h.sql.columns; relations = h.sql.relations; exprs = h.sql.exprs; lists = h.sql.lists; links = h.sql.links; arms = h.sql.arms; selects = h.sql.selects; sets = h.sql.sets; tables = h.sql.tables; queries = h.sql.queries; name_lists = h.sql.name_lists; assignments = h.sql.assignments; statements = h.sql.statements }; settings = h.settings; table_parts = (let e = h.table_parts in omega arith); view_columns = h.view_columns; items = h.items }
item_has action.Column w r h = record { sql = record { places = h.sql.places; names = len_rest (rest w.sql.names) _ (len_rest w.sql.names _ h.sql.names); literals = h.sql.literals; columns = h.sql.columns; relations = h.sql.relations; exprs = h.sql.exprs; lists = h.sql.lists; links = h.sql.links; arms = h.sql.arms; selects = h.sql.selects; sets = h.sql.sets; tables = h.sql.tables; queries = h.sql.queries; name_lists = h.sql.name_lists; assignments = h.sql.assignments; statements = h.sql.statements }; settings = len_rest w.settings _ h.settings; table_parts = len_put_with_two _ w.settings w.sql.names w.table_parts _ _ _ h.settings h.sql.names h.table_parts; view_columns = h.view_columns; items = h.items }
item_has action.RequiredColumn w r h = record { sql = record { places = h.sql.places; names = len_rest (rest w.sql.names) _ (len_rest w.sql.names _ h.sql.names); literals = h.sql.literals; columns = h.sql.columns; relations = h.sql.relations; exprs = h.sql.exprs; lists = h.sql.lists; links = h.sql.links; arms = h.sql.arms; selects = h.sql.selects; sets = h.sql.sets; tables = h.sql.tables; queries = h.sql.queries; name_lists = h.sql.name_lists; assignments = h.sql.assignments; statements = h.sql.statements }; settings = len_rest w.settings _ h.settings; table_parts = len_put_with_two _ w.settings w.sql.names w.table_parts _ _ _ h.settings h.sql.names h.table_parts; view_columns = h.view_columns; items = h.items }
item_has action.PrimaryKey w r h = record { sql = record { places = h.sql.places; names = h.sql.names; literals = h.sql.literals; columns = h.sql.columns; relations = h.sql.relations; exprs = h.sql.exprs; lists = h.sql.lists; links = h.sql.links; arms = h.sql.arms; selects = h.sql.selects; sets = h.sql.sets; tables = h.sql.tables; queries = h.sql.queries; name_lists = len_rest w.sql.name_lists _ h.sql.name_lists; assignments = h.sql.assignments; statements = h.sql.statements }; settings = h.settings; table_parts = len_put _ w.sql.name_lists w.table_parts _ _ h.sql.name_lists h.table_parts; view_columns = h.view_columns; items = h.items }
item_has action.CreateTable w r h = record { sql = record { places = h.sql.places; names = len_rest w.sql.names _ h.sql.names; literals = h.sql.literals; columns = h.sql.columns; relations = h.sql.relations; exprs = h.sql.exprs; lists = h.sql.lists; links = h.sql.links; arms = h.sql.arms; selects = h.sql.selects; sets = h.sql.sets; tables = h.sql.tables; queries = h.sql.queries; name_lists = h.sql.name_lists; assignments = h.sql.assignments; statements = h.sql.statements }; settings = len_rest w.settings _ h.settings; table_parts = len_rest w.table_parts _ h.table_parts; view_columns = h.view_columns; items = len_made3 _ w.sql.names w.table_parts w.settings w.items _ _ _ _ h.sql.names h.table_parts h.settings h.items }
item_has action.ViewColumns w r h = record { sql = record { places = h.sql.places; names = h.sql.names; literals = h.sql.literals; columns = h.sql.columns; relations = h.sql.relations; exprs = h.sql.exprs; lists = h.sql.lists; links = h.sql.links; arms = h.sql.arms; selects = h.sql.selects; sets = h.sql.sets; tables = h.sql.tables; queries = h.sql.queries; name_lists = h.sql.name_lists; assignments = h.sql.assignments; statements = h.sql.statements }; settings = h.settings; table_parts = h.table_parts; view_columns = (let e = h.view_columns in omega arith); items = h.items }
item_has action.TypedColumn w r h = record { sql = record { places = h.sql.places; names = len_rest (rest w.sql.names) _ (len_rest w.sql.names _ h.sql.names); literals = h.sql.literals; columns = h.sql.columns; relations = h.sql.relations; exprs = h.sql.exprs; lists = h.sql.lists; links = h.sql.links; arms = h.sql.arms; selects = h.sql.selects; sets = h.sql.sets; tables = h.sql.tables; queries = h.sql.queries; name_lists = h.sql.name_lists; assignments = h.sql.assignments; statements = h.sql.statements }; settings = len_rest w.settings _ h.settings; table_parts = h.table_parts; view_columns = len_put_with_two _ w.settings w.sql.names w.view_columns _ _ _ h.settings h.sql.names h.view_columns; items = h.items }
item_has action.UntypedColumn w r h = record { sql = record { places = h.sql.places; names = len_rest w.sql.names _ h.sql.names; literals = h.sql.literals; columns = h.sql.columns; relations = h.sql.relations; exprs = h.sql.exprs; lists = h.sql.lists; links = h.sql.links; arms = h.sql.arms; selects = h.sql.selects; sets = h.sql.sets; tables = h.sql.tables; queries = h.sql.queries; name_lists = h.sql.name_lists; assignments = h.sql.assignments; statements = h.sql.statements }; settings = len_rest w.settings _ h.settings; table_parts = h.table_parts; view_columns = len_put2 _ w.sql.names w.settings w.view_columns _ _ _ h.sql.names h.settings h.view_columns; items = h.items }
item_has action.CreateView w r h = record { sql = record { places = h.sql.places; names = len_rest w.sql.names _ h.sql.names; literals = h.sql.literals; columns = h.sql.columns; relations = h.sql.relations; exprs = h.sql.exprs; lists = h.sql.lists; links = h.sql.links; arms = h.sql.arms; selects = h.sql.selects; sets = h.sql.sets; tables = h.sql.tables; queries = len_rest w.sql.queries _ h.sql.queries; name_lists = h.sql.name_lists; assignments = h.sql.assignments; statements = h.sql.statements }; settings = len_rest w.settings _ h.settings; table_parts = h.table_parts; view_columns = h.view_columns; items = len_made3 _ w.sql.names w.settings w.sql.queries w.items _ _ _ _ h.sql.names h.settings h.sql.queries h.items }
item_has action.CreateViewColumns w r h = record { sql = record { places = h.sql.places; names = len_rest w.sql.names _ h.sql.names; literals = h.sql.literals; columns = h.sql.columns; relations = h.sql.relations; exprs = h.sql.exprs; lists = h.sql.lists; links = h.sql.links; arms = h.sql.arms; selects = h.sql.selects; sets = h.sql.sets; tables = h.sql.tables; queries = len_rest w.sql.queries _ h.sql.queries; name_lists = h.sql.name_lists; assignments = h.sql.assignments; statements = h.sql.statements }; settings = len_rest w.settings _ h.settings; table_parts = h.table_parts; view_columns = len_rest w.view_columns _ h.view_columns; items = len_made4 _ w.view_columns w.sql.names w.settings w.sql.queries w.items _ _ _ _ _ h.view_columns h.sql.names h.settings h.sql.queries h.items }

-- kinds of parts of statements
abbrev all_below : List ℕ → Bool
all_below [] = true
all_below (k ∷ ks) = nat_lt k 16 && all_below ks

abbrev is_own : Signature → Bool
is_own f = all_below (takes f) && all_below (gives f)

all_own : {A : Type 0} (f : A → Signature) (xs : List A) (d : A) (n : ℕ) → is_own (f d) ≡ true → list_all (λ x. is_own (f x)) xs ≡ true → is_own (f (slice_index_or xs n d)) ≡ true
all_own f [] d n e h = e
all_own f (x ∷ xs) d zero e h = (and_parts (is_own (f x)) (list_all (λ y. is_own (f y)) xs) h).0
all_own f (x ∷ xs) d (suc n) e h = all_own f xs d n e (and_parts (is_own (f x)) (list_all (λ y. is_own (f y)) xs) h).1

-- the actions of statements take and give those alone: a test, computed
own_kinds : (n : ℕ) → is_own (action_signature (sql.action_of n)) ≡ true
own_kinds n = all_own action_signature actions _ (n - FIRST_ACTION) refl refl

-- another kind isn't among them
not_among : (ks r : List ℕ) (p : ℕ) → 16 ≤ p → all_below ks ≡ true → count p (ks ++ r) ≡ count p r
not_among [] r p h b = refl
not_among (k ∷ ks) r p h b = other (k == p) refl (not_among ks r p h (and_parts (nat_lt k 16) (all_below ks) b).1)
  where
    other : (c : Bool) → k == p ≡ c → count p (ks ++ r) ≡ count p r → (if c then suc (count p (ks ++ r)) else count p (ks ++ r)) ≡ count p r
    other true e i = let a = eqb-true k p e in let l = ltb-true k 16 (and_parts (nat_lt k 16) (all_below ks) b).0 in absurd (omega arith)
    other false e i = i

-- what waits of another kind stays
kept : (a p n : ℕ) (r : List ℕ) → 16 ≤ p → n ≡ count p (takes (action_signature (sql.action_of a)) ++ r) → n ≡ count p (gives (action_signature (sql.action_of a)) ++ r)
kept a p n r h e =
    let f : Signature = action_signature (sql.action_of a) in
    let own = and_parts (all_below (takes f)) (all_below (gives f)) (own_kinds a) in
    e ∙ not_among (takes f) r p h own.0 ∙ sym (not_among (gives f) r p h own.1)

sql_has : (s : Source) (n a : ℕ) (w : Waiting) (r : List ℕ) → Has w (takes (action_signature (sql.action_of a)) ++ r)
    → Has (record w { sql = sql.act_on s n (sql.action_of a) w.sql }) (gives (action_signature (sql.action_of a)) ++ r)
sql_has s n a w r h =
    record { sql = act_has s n (sql.action_of a) w.sql r h.sql; settings = kept a 16 _ r (omega arith) h.settings; table_parts = kept a 17 _ r (omega arith) h.table_parts; view_columns = kept a 18 _ r (omega arith) h.view_columns; items = kept a 19 _ r (omega arith) h.items }

pub number_has : (s : Source) (at n : ℕ) (w : Waiting) (r : List ℕ) → Has w (takes (signature_of n) ++ r) → Has (act_on s at n w) (gives (signature_of n) ++ r)
number_has s at n w r h = either (nat_lt n FIRST_DDL_ACTION) h
  where
    either : (b : Bool) → Has w (takes (if b then action_signature (sql.action_of n) else item_signature (action_of n)) ++ r)
        → Has (if b then record w { sql = sql.act_on s at (sql.action_of n) w.sql } else item_on (action_of n) w) (gives (if b then action_signature (sql.action_of n) else item_signature (action_of n)) ++ r)
    either true k = sql_has s at n w r k
    either false k = item_has (action_of n) w r k
