-- The column that a name means stands among the columns of the entries, with its type.
use Rattle.std.proofs.Common.{◌≡◌, ◌∙◌, ℕ, zero, suc, ◌+◌, ◌<◌, ◌==◌, Bool, true, false, if◌then◌else◌, List, [], ◌∷◌, ◌++◌, length, slice_get, Option, Some, None, Result, refl, ap, sym, subst, arith, append_assoc, length-append}
use Rattle.std.specs.Prelude.{nat_lt, slice_index_or}
use Rattle.std.specs.List.{AllByRecursion}
use Rattle.std.proofs.lemmas.Bool.Decides.{nat_tests}
use Rattle.std.proofs.lemmas.Option.{slice_get_within}
use Rattle.vdb_base.specs.declared.value.Ty.{Ty}
use Rattle.vdb_base.specs.declared.value.Ty.TheVariants.{Boolean}
use Rattle.vdb_model.specs.declared.reply.Refusal.{Refusal}
use Rattle.vdb_model.specs.declared.reply.Refusal.TheVariants.{Mismatch}
use Rattle.vdb_model.specs.declared.typed.VarDef.{VarDef}
use Rattle.vdb_model.specs.Columns.{key_types}
use Rattle.vdb_model.specs.Defs.{same_name}
use Rattle.vdb_model.specs.WellFormed.{variable_types}
use Rattle.sql_reader.specs.declared.tree.name.ColumnName.{ColumnName}
use Rattle.expr_resolver.specs.declared.scope.Entry.{Entry}
use Rattle.expr_resolver.specs.declared.scope.Names.{Names}
use Rattle.expr_resolver.specs.declared.scope.Over.{Over}
use Rattle.expr_resolver.specs.declared.scope.Over.TheVariants.{Rows, Groups}
use Rattle.resolver.specs.Items.{all_columns}
use Rattle.expr_resolver.specs.Scope.{written, last_name, may_be_of, named, found_in, found, column_of, key_at, as_key, column_over, column_seen, first_place}
use Rattle.walk_laws.proofs.Gives.{Gives, gives, refuses, gives_next, gives_only, all_append, all_become}
use Rattle.walk_laws.proofs.WalkTyped.{Stays, Later, later_still, later_behind}

-- the types of the joined row's columns
abbrev pub entry_types : List Entry → List Ty
entry_types entries = variable_types (all_columns entries)

pub types_append : (xs ys : List VarDef) → variable_types (xs ++ ys) ≡ variable_types xs ++ variable_types ys
types_append [] ys = refl
types_append (x ∷ xs) ys = ap (λ ts. x.ty ∷ ts) (types_append xs ys)

pub types_length : (xs : List VarDef) → length (variable_types xs) ≡ length xs
types_length [] = refl
types_length (x ∷ xs) = ap suc (types_length xs)

pub columns_append : (xs ys : List Entry) → all_columns (xs ++ ys) ≡ all_columns xs ++ all_columns ys
columns_append [] ys = refl
columns_append (x ∷ xs) ys = ap (λ cs. x.columns ++ cs) (columns_append xs ys) ∙ sym (append_assoc x.columns (all_columns xs) (all_columns ys))

pub entries_append : (xs ys : List Entry) → entry_types (xs ++ ys) ≡ entry_types xs ++ entry_types ys
entries_append xs ys = ap variable_types (columns_append xs ys) ∙ types_append (all_columns xs) (all_columns ys)

pub get_middle : {A : Type 0} (front : List A) (x : A) (back : List A) → slice_get (front ++ x ∷ back) (length front) ≡ Some x
get_middle [] x back = refl
get_middle (y ∷ front) x back = get_middle front x back

pub get_front : {A : Type 0} (front back : List A) (at : ℕ) (x : A) → slice_get front at ≡ Some x → slice_get (front ++ back) at ≡ Some x
get_front [] back at x h = absurd (cc h)
get_front (y ∷ front) back zero x h = h
get_front (y ∷ front) back (suc at) x h = get_front front back at x h

pub index_of_get : {A : Type 0} (xs : List A) (at : ℕ) (x d : A) → slice_get xs at ≡ Some x → slice_index_or xs at d ≡ x
index_of_get [] at x d h = absurd (cc h)
index_of_get (y ∷ xs) zero x d h = cc h
index_of_get (y ∷ xs) (suc at) x d h = index_of_get xs at x d h

-- a column by its place and type
abbrev pub IsAt : List Ty → ℕ × Ty → Type 0
IsAt cols column = slice_get cols column.0 ≡ Some column.1

-- so many columns before those of the list
pub record Behind (cols : List Ty) (at : ℕ) (own : List Ty) : Type 0 where
  pub front : List Ty
  pub back : List Ty
  pub count : length front ≡ at
  pub is : cols ≡ front ++ (own ++ back)

pub behind_none : (cols : List Ty) → Behind cols 0 cols
behind_none cols = record { front = []; back = []; count = refl; is = sym (append_nil cols) }
  where
    append_nil : (xs : List Ty) → xs ++ [] ≡ xs
    append_nil [] = refl
    append_nil (x ∷ xs) = ap (λ l. x ∷ l) (append_nil xs)

pub behind_first : (cols : List Ty) (at : ℕ) (own more : List Ty) → Behind cols at (own ++ more) → Behind cols at own
behind_first cols at own more b = record { front = b.front; back = more ++ b.back; count = b.count; is = b.is ∙ ap (λ l. b.front ++ l) (append_assoc own more b.back) }

pub behind_rest : (cols : List Ty) (at : ℕ) (own more : List Ty) → Behind cols at (own ++ more) → Behind cols (at + length own) more
behind_rest cols at own more b = record {
  front = b.front ++ own;
  back = b.back;
  count = length-append b.front own ∙ ap (λ n. n + length own) b.count;
  is = b.is ∙ ap (λ l. b.front ++ l) (append_assoc own more b.back) ∙ sym (append_assoc b.front own (more ++ b.back));
}

pub behind_next : (cols : List Ty) (at : ℕ) (t : Ty) (more : List Ty) → Behind cols at (t ∷ more) → Behind cols (at + 1) more
behind_next cols at t more b = behind_rest cols at (t ∷ []) more b

pub behind_here : (cols : List Ty) (at : ℕ) (t : Ty) (more : List Ty) → Behind cols at (t ∷ more) → IsAt cols (at, t)
behind_here cols at t more b = subst (λ n. slice_get cols n ≡ Some t) b.count (subst (λ l. slice_get l (length b.front) ≡ Some t) (sym b.is) (get_middle b.front t (more ++ b.back)))

module _ (cols : List Ty) where
  all_if : (b : Bool) (x : ℕ × Ty) (xs : List (ℕ × Ty)) → IsAt cols x → AllByRecursion (IsAt cols) xs → AllByRecursion (IsAt cols) (if b then x ∷ xs else xs)
  all_if true x xs h all = (h, all)
  all_if false x xs h all = all

  some_if : (b : Bool) (xs : List (ℕ × Ty)) → AllByRecursion (IsAt cols) xs → AllByRecursion (IsAt cols) (if b then xs else [])
  some_if true xs all = all
  some_if false xs all = tt

  pub named_at : (at : ℕ) (name : List ℕ) (columns : List VarDef) → Behind cols at (variable_types columns) → AllByRecursion (IsAt cols) (named at name columns)
  named_at at name [] b = tt
  named_at at name (c ∷ cs) b =
      all_if (same_name c.name name) (at, c.ty) (named (at + 1) name cs) (behind_here cols at c.ty (variable_types cs) b)
      (named_at (at + 1) name cs (behind_next cols at c.ty (variable_types cs) b))

  found_at : (at : ℕ) (c : ColumnName) (entries : List Entry) → Behind cols at (entry_types entries) → AllByRecursion (IsAt cols) (found at c entries)
  found_at at c [] b = tt
  found_at at c (entry ∷ entries) b =
      let own = variable_types entry.columns in
      let split = subst (Behind cols at) (types_append entry.columns (all_columns entries)) b in
      let rest = subst (λ n. Behind cols (at + n) (entry_types entries)) (types_length entry.columns) (behind_rest cols at own (entry_types entries) split) in
      all_append (IsAt cols) (found_in at c entry) (found (at + length entry.columns) c entries)
      (some_if (may_be_of c entry) (named at (last_name c) entry.columns) (named_at at (last_name c) entry.columns (behind_first cols at own (entry_types entries) split)))
      (found_at (at + length entry.columns) c entries rest)

pub column_found : (entries : List Entry) (c : ColumnName) → Gives (column_of entries c) (IsAt (entry_types entries))
column_found entries c = gives_only (IsAt (entry_types entries)) (written c) (found 0 c entries) (found_at (entry_types entries) 0 c entries (behind_none (entry_types entries)))

pub place_below : (cols : List Ty) (column : ℕ × Ty) → IsAt cols column → nat_lt column.0 (length cols) ≡ true
place_below cols column h = let b : column.0 < length cols = slice_get_within cols column.0 column.1 h in grind (arith, nat_tests)

-- What an expression is over: the joined row's columns; or the keys' and those of the aggregates that are met so far, and of any that are met later.
module _ (rows : List Ty) (keys : List ℕ) where
  abbrev pub Sees : Over → List Ty → List Ty → Type 0
  Sees Rows ts cols = cols ≡ rows
  Sees Groups ts cols = Later (key_types rows keys ++ ts) cols

  pub sees_before : (over : Over) (ts us cols : List Ty) → Later ts us → Sees over us cols → Sees over ts cols
  sees_before Rows ts us cols later s = s
  sees_before Groups ts us cols later s = later_still (key_types rows keys ++ ts) (key_types rows keys ++ us) cols (later_behind (key_types rows keys) ts us later) s

  -- it holds over all that is seen
  abbrev pub Seen : {A : Type 0} → Over → (List Ty → A → Type 0) → List Ty → A → Type 0
  Seen over P ts x = (cols : List Ty) → Sees over ts cols → P cols x

  pub stays_seen : {A : Type 0} (over : Over) (P : List Ty → A → Type 0) → Stays rows (Seen over P)
  stays_seen over P = record { each = λ ts us x later h cols s. h cols (sees_before over ts us cols later s) }

  pub gives_seen : {A : Type 0} (over : Over) (P : List Ty → A → Type 0) (ts : List Ty) {r : Result A Refusal} → ((cols : List Ty) → Sees over ts cols → Gives r (P cols)) → Gives r (Seen over P ts)
  gives_seen over P ts h = record { each = λ x e cols s. (h cols s).each x e }

  pub each_seen : {A : Type 0} (over : Over) (P : List Ty → A → Type 0) (ts : List Ty) (xs : List A) → AllByRecursion (Seen over P ts) xs → (cols : List Ty) → Sees over ts cols → AllByRecursion (P cols) xs
  each_seen over P ts xs all cols s = all_become (Seen over P ts) (P cols) xs (λ x h. h cols s) all

  key_if : (b : Bool) (at k key : ℕ) (others : Option ℕ) (column : ℕ × Ty) (cols : List Ty) → (k == column.0) ≡ b → (if b then Some at else others) ≡ Some key
      → IsAt rows column → IsAt cols (at, slice_index_or rows k Boolean) → (others ≡ Some key → IsAt cols (key, column.1)) → IsAt cols (key, column.1)
  key_if true at k key others column cols test e h here later =
      let same : k ≡ column.0 = grind (arith, nat_tests) in
      let place : at ≡ key = cc e in
      let ty : slice_index_or rows k Boolean ≡ column.1 = ap (λ n. slice_index_or rows n Boolean) same ∙ index_of_get rows column.0 column.1 Boolean h in
      subst (λ n. IsAt cols (n, column.1)) place (subst (λ t. IsAt cols (at, t)) ty here)
  key_if false at k key others column cols test e h here later = later e

  key_place : (at : ℕ) (ks : List ℕ) (column : ℕ × Ty) (cols : List Ty) (key : ℕ) → IsAt rows column → Behind cols at (key_types rows ks) → key_at at ks column.0 ≡ Some key → IsAt cols (key, column.1)
  key_place at [] column cols key h b e = absurd (cc e)
  key_place at (k ∷ ks) column cols key h b e =
      key_if (k == column.0) at k key (key_at (at + 1) ks column.0) column cols refl e h (behind_here cols at (slice_index_or rows k Boolean) (key_types rows ks) b)
      (λ e. key_place (at + 1) ks column cols key h (behind_next cols at (slice_index_or rows k Boolean) (key_types rows ks) b) e)

  keys_first : (ts cols : List Ty) → Sees Groups ts cols → Behind cols 0 (key_types rows keys)
  keys_first ts cols s = record { front = []; back = ts ++ s.more; count = refl; is = s.is ∙ append_assoc (key_types rows keys) ts s.more }

  as_key_seen : (at : ℕ) (column : ℕ × Ty) (ts : List Ty) (found : Option ℕ) → IsAt rows column → key_at 0 keys column.0 ≡ found → Gives (as_key at column.1 found) (Seen Groups IsAt ts)
  as_key_seen at column ts None h e = refuses (Seen Groups IsAt ts) (Mismatch at)
  as_key_seen at column ts (Some key) h e = gives (Seen Groups IsAt ts) (key, column.1) (λ cols s. key_place 0 keys column cols key h (keys_first ts cols s) e)

  -- a column of the joined row, or the key that it is
  pub column_over_seen : (over : Over) (at : ℕ) (column : ℕ × Ty) (ts : List Ty) → IsAt rows column → Gives (column_over over keys at column) (Seen over IsAt ts)
  column_over_seen Rows at column ts h = gives (Seen Rows IsAt ts) column (λ cols s. subst (λ c. IsAt c column) (sym s) h)
  column_over_seen Groups at column ts h = as_key_seen at column ts (key_at 0 keys column.0) h refl

pub name_seen : (names : Names) (over : Over) (c : ColumnName) (ts : List Ty) → Gives (column_seen names over c) (Seen (entry_types names.entries) names.keys over IsAt ts)
name_seen names over c ts =
    gives_next (column_found names.entries c)
    (λ column h. column_over_seen (entry_types names.entries) names.keys over (first_place c) column ts h)
