-- Asking a lane for the whole of a table.
use Rattle.std.proofs.Common.{◌≡◌, ℕ, zero, suc, ◌+◌, ◌<◌, ◌≤◌, Bool, true, false, ◌&&◌, List, [], ◌∷◌, ◌++◌, Option, Some, None, Result, Ok, Err, length, slice_index_or, slice_set, filter, IsPermutation, append_assoc, refl, sym, ap, ◌∙◌, subst, arith, if◌then◌else◌}
use Rattle.std.proofs.lemmas.Bool.Decides.{nat_tests}
use Rattle.std.proofs.Math.Seq.{get_or-append_seam}
use Rattle.std.proofs.lemmas.List.{append-nil, length-append}
use Rattle.std.proofs.lemmas.List.Sorted.{IsPermutation-refl}
use Rattle.std.specs.Prelude.{◌==◌, nat_lt, sum, IfSome, IfOk, OnOk}
use Rattle.std.specs.Option.{unwrap_or}
use Rattle.vdb_base.specs.declared.value.Value.{Value}
use Rattle.vdb_base.specs.declared.value.Value.TheVariants.{Null}
use Rattle.vdb_model.specs.declared.source.Caps.{Caps}
use Rattle.vdb_model.specs.declared.source.SourceQuery.{SourceQuery}
use Rattle.vdb_model.specs.declared.table.ColumnDef.{ColumnDef}
use Rattle.vdb_model.specs.declared.table.TableDef.{TableDef}
use Rattle.vdb_model.specs.Answers.{Answered, combos, crossed, passes_all}
use Rattle.vdb_model.specs.Asking.{is_met}
use Rattle.vdb_model.specs.Can.{can}
use Rattle.vdb_model.specs.Defined.{Defined}
use Rattle.vdb_model.specs.Defs.{def_of, is_defined, all_below}
use Rattle.vdb_model.specs.Rows.{Cells, cut, cut_rows}
use Rattle.vdb_model.specs.WellFormed.{IsWellFormed, tables_on, are_placed}
use Rattle.vdb_model.specs.World.{table_rows, is_world, is_table, takes_cell, takes_row, takes_rows, keeps_key}
use Rattle.catalog_laws.specs.Over.{HasNoPatterns}
use Rattle.resource.specs.declared.lane.Lane.{Lane}
use Rattle.resource.specs.declared.resource.ResFault.{ResFault}
use Rattle.resource.specs.declared.resource.ResFault.TheVariants as res
use Rattle.resource.specs.declared.resource.ResState.TheVariants as state
use Rattle.resource.specs.Asks.{AnswersQuery}
use Rattle.resource.specs.Leaves.{Queries}
use Rattle.resource.specs.Told.{Told, IsWorld, work, is_open}
use Rattle.vdb_session.specs.Fetching.{numbers, whole, at_lane, failed_lane, AnswersWhole, AskedHere, MayAsk, MayAskEach, MayAskHere, AreAttached, AreRows, IsServing}
use Rattle.vdb_session.specs.Lanes.{AreAsked, attached}
use Rattle.vdb_session.specs.Shown.{rows_of_table, lane_from, is_number, server_from, server_shows, sees, tables_of_server}
use Rattle.vdb_session.proofs.AskedLanes.{asked_at, failed_at}
use Rattle.vdb_session.proofs.ServedLanes.{found_from, within_from, shows_nothing}

-- a table's rows are all combinations of them, and all pass no filter
one_combo : (rows : List Cells) → combos (rows ∷ []) ≡ rows
one_combo [] = refl
one_combo (row ∷ rows) = ap (λ r. r ∷ crossed rows ([] ∷ [])) (append-nil row) ∙ ap (λ rs. row ∷ rs) (one_combo rows)

all_pass : (rows : List Cells) → filter (passes_all []) rows ≡ rows
all_pass [] = refl
all_pass (row ∷ rows) = ap (λ rs. row ∷ rs) (all_pass rows)

answer_rows : (ds : List TableDef) (w : List (List Cells)) (d : TableDef) (rows : List Cells) → Answered ds w (whole d) rows
    → IsPermutation (cut_rows (numbers 0 (length d.columns)) (table_rows ds w d.number)) rows
answer_rows ds w d rows a =
    subst (λ out. IsPermutation (cut_rows (numbers 0 (length d.columns)) (table_rows ds w d.number)) out) (sym a.cut)
    (subst (λ bag. IsPermutation bag a.sorted) (ap (cut_rows (numbers 0 (length d.columns))) (all_pass (combos (table_rows ds w d.number ∷ [])) ∙ one_combo (table_rows ds w d.number))) a.same)

whole_answer : (d : TableDef) (old : Told) (q : SourceQuery) (rows : List Cells) → q ≡ whole d → AnswersQuery old q rows → IsWorld old → AnswersWhole d old rows
whole_answer d old q rows e a w = record { answers = subst (λ (q : SourceQuery). AnswersQuery old q rows) e a; world = w }

-- what the query of a whole table answers and leaves
pub asked_here : (d : TableDef) (old new : Told) (q : SourceQuery) (r : Result (List Cells) ResFault) → q ≡ whole d → IfOk r (λ rows. AnswersQuery old q rows) → OnOk r (IsWorld old) → Queries q old new r
    → AskedHere d r old new
asked_here d old new q (Ok rows) e a w l = (record { kept = ap attached l; count = ap (λ (t : Told). t.faults) l }, whole_answer d old q rows e a w)
asked_here d old new q (Err res.Memory) e a w l = record { kept = ap attached l; count = ap (λ (t : Told). t.faults) l }
asked_here d old new q (Err res.Failed) e a w l = (ap attached l.same, l.rose)

-- Where a lane may be asked.
same_number : (m n : ℕ) → (m == n) ≡ true → m ≡ n
same_number m n e = grind (arith, nat_tests)

is_same : (n : ℕ) → (n == n) ≡ true
is_same n = grind (arith, nat_tests)

other_number : (m n : ℕ) → m < n → (m == n) ≡ false
other_number m n h = grind (arith, nat_tests)

both : (a b : Bool) → (a && b) ≡ true → (a ≡ true) × (b ≡ true)
both true b e = (refl, e)
both false b e = cc

-- the definition of a table of a server, found by its number
pub record Defines (ds : List TableDef) (d : TableDef) : Type 0 where
  pub defined : is_defined ds d.number ≡ true
  pub is : def_of ds d.number ≡ d

or_right : (a b : Bool) → b ≡ true → (if a then true else b) ≡ true
or_right true b e = refl
or_right false b e = e

defines_first : (ds : List TableDef) (d : TableDef) → Defines (d ∷ ds) d
defines_first ds d = let e = is_same d.number in record { defined = rw e refl; is = rw e refl }

defines_later : (x : TableDef) (ds : List TableDef) (d : TableDef) → (x.number == d.number) ≡ false → Defines ds d → Defines (x ∷ ds) d
defines_later x ds d e h = record { defined = rw e h.defined; is = rw e h.is }

defines_kept : (b : Bool) (x : TableDef) (ds : List TableDef) (d : TableDef) → (x.number == d.number) ≡ false → Defines ds d → Defines (if b then x ∷ ds else ds) d
defines_kept true x ds d e h = defines_later x ds d e h
defines_kept false x ds d e h = h

here_by : (b : Bool) (d : TableDef) (ds : List TableDef) → b ≡ true → Defines (if b then d ∷ ds else ds) d
here_by true d ds e = defines_first ds d
here_by false d ds e = cc

number_at : (n : ℕ) (ds : List TableDef) (k : ℕ) (o : TableDef) → are_placed n ds ≡ true → k < length ds → (slice_index_or ds k o).number ≡ n + k
number_at n [] k o p h = absurd (omega arith)
number_at n (d ∷ ds) zero o p h = let e = same_number d.number n (both _ _ p).0 in omega arith
number_at n (d ∷ ds) (suc k) o p h =
    let h2 : k < length ds = omega arith in
    let e = number_at (n + 1) ds k o (both _ _ p).1 h2 in omega arith

defines_at : (n : ℕ) (ds : List TableDef) (k : ℕ) (o : TableDef) → are_placed n ds ≡ true → k < length ds
    → Defines (tables_on (slice_index_or ds k o).server ds) (slice_index_or ds k o)
defines_at n [] k o p h = absurd (omega arith)
defines_at n (d ∷ ds) zero o p h = here_by (d.server == d.server) d (tables_on d.server ds) (is_same d.server)
defines_at n (d ∷ ds) (suc k) o p h =
    let h2 : k < length ds = omega arith in
    let found = slice_index_or ds k o in
    let first = same_number d.number n (both _ _ p).0 in
    let there = number_at (n + 1) ds k o (both _ _ p).1 h2 in
    let less : d.number < found.number = omega arith in
    defines_kept (d.server == found.server) d (tables_on found.server ds) found (other_number d.number found.number less) (defines_at (n + 1) ds k o (both _ _ p).1 h2)

below_more : (n m count : ℕ) → n + count ≤ m → all_below m (numbers n count) ≡ true
below_more n m zero h = refl
below_more n m (suc count) h =
    let here : nat_lt n m ≡ true = grind (arith, nat_tests) in
    let rest : n + 1 + count ≤ m = omega arith in
    rw here (below_more (n + 1) m count rest)

known : (a b : Bool) → a ≡ true → b ≡ true → (true && (a && true) && true && b && true && true) ≡ true
known a b e f = ap (λ x. true && (x && true) && true && b && true && true) e ∙ ap (λ x. x && true && true) f

within : (caps : Caps) (ds : List TableDef) (d : TableDef) → Defines ds d → can caps ds (whole d) ≡ true
within caps ds d h =
    let w = length (def_of ds d.number).columns in
    let same : w ≡ length d.columns = ap (λ (t : TableDef). length t.columns) h.is in
    let wide : 0 + length d.columns ≤ sum (w ∷ []) = omega arith in
    known (is_defined ds d.number) (all_below (sum (w ∷ [])) (numbers 0 (length d.columns))) h.defined (below_more 0 (sum (w ∷ [])) (length d.columns) wide)

and_true : (b : Bool) → b ≡ true → (b && true) ≡ true
and_true b e = ap (λ x. x && true) e

may_ask_here : (cat : Defined) (d : TableDef) (t : Told) → t.defs ≡ Some (tables_on d.server cat.tables) → t.state ≡ state.Idle → Defines (tables_on d.server cat.tables) d → d.patterns ≡ []
    → MayAskHere cat d t
may_ask_here cat d t e idle h free = record {
  defs = e;
  one_of = h.is;
  allows = record {
    may_ask = ap is_open idle;
    defs = tables_on d.server cat.tables;
    attached = e;
    typed = refl;
    within = within t.caps (tables_on d.server cat.tables) d h;
    bound = and_true (is_met 0 [] (def_of (tables_on d.server cat.tables) d.number).patterns) (ap (is_met 0 []) (ap (λ (t : TableDef). t.patterns) h.is ∙ free));
  };
}

for_number : (cat : Defined) (n : ℕ) (server : Option ℕ) → is_number n server ≡ true → tables_of_server cat.tables server ≡ tables_on n cat.tables
for_number cat n None e = cc
for_number cat n (Some m) e = ap (λ k. tables_on k cat.tables) (same_number m n e)

-- each lane that serves a server may be asked for each of its tables
pub may_ask_each : {S : Type 0} (told : S → Told) (cat : Defined) (lanes : List (Lane S)) → IsWellFormed cat → HasNoPatterns cat → AreAttached told cat lanes → MayAskEach told cat lanes
may_ask_each told cat lanes well free a = λ k d h i lane l serving.
    let table = slice_index_or cat.tables k d in
    let name = (slice_index_or lanes i lane).name in
    may_ask_here cat table (told (slice_index_or lanes i lane).res)
    ((a i lane l).defs ∙ ap Some (for_number cat table.server (server_from 0 cat.servers name) serving)) (a i lane l).idle
    (defines_at 0 cat.tables k d well.placed h) (free k d h)

-- The rows of one table: those of tables that are a world are as wide as its columns.
by_number : (b : Bool) (d e : TableDef) (rows others : List Cells) → takes_rows d.columns rows ≡ true → takes_rows e.columns others ≡ true
    → takes_rows (if b then d else e).columns (if b then rows else others) ≡ true
by_number true d e rows others h k = h
by_number false d e rows others h k = k

taken : (n : ℕ) (ds : List TableDef) (w : List (List Cells)) → is_world ds w ≡ true → takes_rows (def_of ds n).columns (table_rows ds w n) ≡ true
taken n [] w k = refl
taken n (d ∷ ds) [] k = refl
taken n (d ∷ ds) (rows ∷ w) k =
    let c = both (is_table d rows) (is_world ds w) k in
    by_number (d.number == n) d (def_of ds n) rows (table_rows ds w n) (both (takes_rows d.columns rows) (keeps_key d.key rows) c.0).0 (taken n ds w c.1)

as_long : (cs : List ColumnDef) (row : Cells) → takes_row cs row ≡ true → length cs ≡ length row
as_long [] [] k = refl
as_long [] (v ∷ vs) k = cc
as_long (c ∷ cs) [] k = cc
as_long (c ∷ cs) (v ∷ vs) k = ap suc (as_long cs vs (both (takes_cell c v) (takes_row cs vs) k).1)

uncut_from : (front row : Cells) (n : ℕ) → n ≡ length front → cut (numbers n (length row)) (front ++ row) ≡ row
uncut_from front [] n e = refl
uncut_from front (v ∷ vs) n e =
    let long = length-append front (v ∷ []) in
    let next : n + 1 ≡ length (front ++ v ∷ []) = omega (arith, e, long) in
    let here : slice_index_or (front ++ v ∷ vs) n Null ≡ v = ap (λ (k : ℕ). slice_index_or (front ++ v ∷ vs) k Null) e ∙ get_or-append_seam front v vs Null in
    let rest : cut (numbers (n + 1) (length vs)) (front ++ v ∷ vs) ≡ vs = ap (cut (numbers (n + 1) (length vs))) (sym (append_assoc front (v ∷ []) vs)) ∙ uncut_from (front ++ v ∷ []) vs (n + 1) next in
    ap (λ (x : Value). x ∷ cut (numbers (n + 1) (length vs)) (front ++ v ∷ vs)) here ∙ ap (λ (xs : Cells). v ∷ xs) rest

uncut : (cs : List ColumnDef) (rows : List Cells) → takes_rows cs rows ≡ true → cut_rows (numbers 0 (length cs)) rows ≡ rows
uncut cs [] k = refl
uncut cs (row ∷ rows) k =
    let c = both (takes_row cs row) (takes_rows cs rows) k in
    let here : cut (numbers 0 (length cs)) row ≡ row = ap (λ (n : ℕ). cut (numbers 0 n) row) (as_long cs row c.0) ∙ uncut_from [] row 0 refl in
    ap (λ (x : Cells). x ∷ cut_rows (numbers 0 (length cs)) rows) here ∙ ap (λ (xs : List Cells). row ∷ xs) (uncut cs rows c.1)

whole_rows : (d : TableDef) (ds : List TableDef) (w : List (List Cells)) → def_of ds d.number ≡ d → is_world ds w ≡ true → cut_rows (numbers 0 (length d.columns)) (table_rows ds w d.number) ≡ table_rows ds w d.number
whole_rows d ds w s k = uncut d.columns (table_rows ds w d.number) (subst (λ (x : TableDef). takes_rows x.columns (table_rows ds w d.number) ≡ true) s (taken d.number ds w k))

rows_by : (d : TableDef) (ds : List TableDef) (rows : List Cells) (defs : Option (List TableDef)) (seen : Option (List (List Cells))) → defs ≡ Some ds → def_of ds d.number ≡ d
    → IfSome defs (λ defs. IfSome seen (λ w. Answered defs w (whole d) rows)) → IfSome seen (λ w. is_world (unwrap_or defs []) w ≡ true) → IfSome seen (λ w. IsPermutation (table_rows ds w d.number) rows)
rows_by d ds rows None seen e s a k = cc
rows_by d ds rows (Some xs) None e s a k = tt
rows_by d ds rows (Some xs) (Some w) e s a k =
    let same : xs ≡ ds = cc in
    let answered : Answered ds w (whole d) rows = subst (λ (ds : List TableDef). Answered ds w (whole d) rows) same a in
    let world : is_world ds w ≡ true = subst (λ (ds : List TableDef). is_world ds w ≡ true) same k in
    subst (λ (rs : List Cells). IsPermutation rs rows) (whole_rows d ds w s world) (answer_rows ds w d rows answered)

told_rows : (d : TableDef) (ds : List TableDef) (rows : List Cells) (t : Told) → t.defs ≡ Some ds → def_of ds d.number ≡ d → AnswersWhole d t rows → IfSome (work t) (λ w. IsPermutation (table_rows ds w d.number) rows)
told_rows d ds rows t e s a = rows_by d ds rows t.defs (work t) e s a.answers a.world

-- what a lane that serves the table's server was asked
pub record AskedAt {S : Type 0} (told : S → Told) (cat : Defined) (d : TableDef) (xs : List (Lane S)) (new : List (Lane S)) (r : Result (List Cells) ResFault) (at : ℕ) : Type 0 where
  pub asked : AreAsked told (failed_lane (at_lane r at)) xs new
  pub rows : IfOk (at_lane r at) (AreRows told cat xs d)

answered_at : {S : Type 0} (told : S → Told) (cat : Defined) (d : TableDef) (xs : List (Lane S)) (at : ℕ) (o a : Lane S) (r : Result (List Cells) ResFault)
    → at < length xs → server_shows (sees told) cat xs d.server ≡ sees told (slice_index_or xs at o) → MayAskHere cat d (told (slice_index_or xs at o).res)
    → a.name ≡ (slice_index_or xs at o).name → a.kind ≡ (slice_index_or xs at o).kind → AskedHere d r (told (slice_index_or xs at o).res) (told a.res)
    → AskedAt told cat d xs (slice_set xs at a) r at
answered_at told cat d xs at o a (Ok rows) h shown may n k s = record {
  asked = asked_at told xs at o a h n k s.0.kept s.0.count;
  rows = subst (λ shown. IfSome shown (λ shown. IsPermutation (rows_of_table cat d shown) rows)) (sym shown)
      (told_rows d (tables_on d.server cat.tables) rows (told (slice_index_or xs at o).res) may.defs may.one_of s.1);
}
answered_at told cat d xs at o a (Err res.Memory) h shown may n k s = record { asked = asked_at told xs at o a h n k s.kept s.count; rows = tt }
answered_at told cat d xs at o a (Err res.Failed) h shown may n k s = record { asked = failed_at told xs at o a h n k s.0 s.1; rows = tt }

pub at_within : {S : Type 0} (cat : Defined) (server : ℕ) (xs : List (Lane S)) (at : ℕ) → IsServing cat server xs at → at < length xs
at_within cat server xs at e = let h = within_from cat server xs 0 at e in omega (arith, h)

pub may_ask_at : {S : Type 0} (told : S → Told) (cat : Defined) (d : TableDef) (xs : List (Lane S)) (at : ℕ) (o : Lane S) → IsServing cat d.server xs at → MayAsk told cat d xs
    → MayAskHere cat d (told (slice_index_or xs at o).res)
may_ask_at told cat d xs at o e may =
    let f = found_from (sees told) cat d.server xs 0 at o e in
    let same : f.place ≡ at = omega (arith, f.is) in
    subst (λ k. MayAskHere cat d (told (slice_index_or xs k o).res)) same (may f.place o f.within f.serves_it)

pub was_asked : {S : Type 0} (told : S → Told) (cat : Defined) (d : TableDef) (xs : List (Lane S)) (at : ℕ) (o a : Lane S) (r : Result (List Cells) ResFault) → IsServing cat d.server xs at
    → MayAsk told cat d xs → a.name ≡ (slice_index_or xs at o).name → a.kind ≡ (slice_index_or xs at o).kind → AskedHere d r (told (slice_index_or xs at o).res) (told a.res)
    → AskedAt told cat d xs (slice_set xs at a) r at
was_asked told cat d xs at o a r e may n k s =
    let f = found_from (sees told) cat d.server xs 0 at o e in
    let same : f.place ≡ at = omega (arith, f.is) in
    let shown = subst (λ p. server_shows (sees told) cat xs d.server ≡ sees told (slice_index_or xs p o)) same f.shown in
    answered_at told cat d xs at o a r (at_within cat d.server xs at e) shown (may_ask_at told cat d xs at o e may) n k s

no_rows : (ds : List TableDef) (n : ℕ) → table_rows ds [] n ≡ []
no_rows [] n = refl
no_rows (d ∷ ds) n = refl

-- without a lane that serves its server a table is empty
pub no_lane : {S : Type 0} (told : S → Told) (cat : Defined) (d : TableDef) (xs : List (Lane S)) (at : Option ℕ) → at ≡ None → lane_from 0 cat d.server xs ≡ at → AreRows told cat xs d []
no_lane told cat d xs at n e =
    subst (λ shown. IfSome shown (λ shown. IsPermutation (rows_of_table cat d shown) [])) (sym (shows_nothing (sees told) cat d.server xs 0 (e ∙ n)))
    (subst (λ rs. IsPermutation rs []) (sym (no_rows (tables_on d.server cat.tables) d.number)) (IsPermutation-refl []))
