-- How many parts wait after an action, by those before.
use Rattle.std.proofs.Common.{ℕ, suc, List, [], ◌∷◌, ◌++◌, ◌≡◌, length, arith, if◌then◌else◌}
use Rattle.std.specs.Prelude.{◌==◌}
use Rattle.sql_reader.specs.Waiting.{Waiting, rest, on, made, made2, made3, made_of_two, made_of_three, put, put2, put_two, joined, joined3, with}
use Rattle.sql_reader.specs.Source.{Source}
use Rattle.sql_reader.specs.BuildTokens.{token_on}
use Rattle.sql_reader.specs.BuildExprs.{expr_on}
use Rattle.sql_reader.specs.BuildQueries.{query_on}
use Rattle.sql_reader.specs.BuildStatements.{statement_on}
use Rattle.sql_reader.specs.Build.{act_on}
use Rattle.sql_reader.specs.declared.build.TokenAction.{TokenAction}
use Rattle.sql_reader.specs.declared.build.TokenAction.TheVariants as token
use Rattle.sql_reader.specs.declared.build.ExprAction.{ExprAction}
use Rattle.sql_reader.specs.declared.build.ExprAction.TheVariants as expr
use Rattle.sql_reader.specs.declared.build.QueryAction.{QueryAction}
use Rattle.sql_reader.specs.declared.build.QueryAction.TheVariants as query
use Rattle.sql_reader.specs.declared.build.StatementAction.{StatementAction}
use Rattle.sql_reader.specs.declared.build.StatementAction.TheVariants as statement
use Rattle.sql_reader.specs.declared.build.Action.{Action}
use Rattle.sql_reader.specs.declared.build.Action.TheVariants as action
use Rattle.grammar.proofs.Moves.{takes, gives}
use Rattle.sql_reader.proofs.Signatures.{token_signature, expr_signature, query_signature, statement_signature, action_signature}

-- how often a kind is among some
abbrev pub count : ℕ → List ℕ → ℕ
count p [] = 0
count p (q ∷ qs) = if q == p then suc (count p qs) else count p qs

-- so many parts of each kind wait
pub record Has (w : Waiting) (held : List ℕ) : Type 0 where
  pub places : length w.places ≡ count 0 held
  pub names : length w.names ≡ count 1 held
  pub literals : length w.literals ≡ count 2 held
  pub columns : length w.columns ≡ count 3 held
  pub relations : length w.relations ≡ count 4 held
  pub exprs : length w.exprs ≡ count 5 held
  pub lists : length w.lists ≡ count 6 held
  pub links : length w.links ≡ count 7 held
  pub arms : length w.arms ≡ count 8 held
  pub selects : length w.selects ≡ count 9 held
  pub sets : length w.sets ≡ count 10 held
  pub tables : length w.tables ≡ count 11 held
  pub queries : length w.queries ≡ count 12 held
  pub name_lists : length w.name_lists ≡ count 13 held
  pub assignments : length w.assignments ≡ count 14 held
  pub statements : length w.statements ≡ count 15 held

pub len_rest : {A : Type 0} (xs : List A) (k : ℕ) → length xs ≡ suc k → length (rest xs) ≡ k
len_rest [] k h = absurd (omega arith)
len_rest (x ∷ xs) k h = omega arith

pub len_on : {A : Type 0} (f : A → A) (xs : List A) (k : ℕ) → length xs ≡ suc k → length (on f xs) ≡ suc k
len_on f [] k h = absurd (omega arith)
len_on f (x ∷ xs) k h = omega arith

pub len_made : {A Z : Type 0} (f : A → Z) (xs : List A) (zs : List Z) (j k : ℕ) → length xs ≡ suc j → length zs ≡ k → length (made f xs zs) ≡ suc k
len_made f [] zs j k h i = absurd (omega arith)
len_made f (x ∷ xs) zs j k h i = omega arith

pub len_made2 : {A B Z : Type 0} (f : A → B → Z) (xs : List A) (ys : List B) (zs : List Z) (a b k : ℕ) → length xs ≡ suc a → length ys ≡ suc b → length zs ≡ k → length (made2 f xs ys zs) ≡ suc k
len_made2 f [] ys zs a b k h i l = absurd (omega arith)
len_made2 f (x ∷ xs) ys zs a b k h i l = len_made (f x) ys zs b k i l

pub len_made3 : {A B C Z : Type 0} (f : A → B → C → Z) (xs : List A) (ys : List B) (us : List C) (zs : List Z) (a b c k : ℕ) → length xs ≡ suc a → length ys ≡ suc b → length us ≡ suc c → length zs ≡ k → length (made3 f xs ys us zs) ≡ suc k
len_made3 f [] ys us zs a b c k h i m l = absurd (omega arith)
len_made3 f (x ∷ xs) ys us zs a b c k h i m l = len_made2 (f x) ys us zs b c k i m l

pub len_made_of_two : {A Z : Type 0} (f : A → A → Z) (xs : List A) (zs : List Z) (j k : ℕ) → length xs ≡ suc (suc j) → length zs ≡ k → length (made_of_two f xs zs) ≡ suc k
len_made_of_two f [] zs j k h i = absurd (omega arith)
len_made_of_two f (x ∷ xs) zs j k h i = len_made (λ y. f y x) xs zs j k (omega arith) i

pub len_made_of_three : {A Z : Type 0} (f : A → A → A → Z) (xs : List A) (zs : List Z) (j k : ℕ) → length xs ≡ suc (suc (suc j)) → length zs ≡ k → length (made_of_three f xs zs) ≡ suc k
len_made_of_three f [] zs j k h i = absurd (omega arith)
len_made_of_three f (x ∷ xs) zs j k h i = len_made_of_two (λ y z. f y z x) xs zs j k (omega arith) i

pub len_put : {A Z : Type 0} (f : A → Z → Z) (xs : List A) (zs : List Z) (j k : ℕ) → length xs ≡ suc j → length zs ≡ suc k → length (put f xs zs) ≡ suc k
len_put f [] zs j k h i = absurd (omega arith)
len_put f (x ∷ xs) zs j k h i = len_on (f x) zs k i

pub len_put2 : {A B Z : Type 0} (f : A → B → Z → Z) (xs : List A) (ys : List B) (zs : List Z) (a b k : ℕ) → length xs ≡ suc a → length ys ≡ suc b → length zs ≡ suc k → length (put2 f xs ys zs) ≡ suc k
len_put2 f [] ys zs a b k h i l = absurd (omega arith)
len_put2 f (x ∷ xs) ys zs a b k h i l = len_put (f x) ys zs b k i l

pub len_put_two : {A Z : Type 0} (f : A → A → Z → Z) (xs : List A) (zs : List Z) (j k : ℕ) → length xs ≡ suc (suc j) → length zs ≡ suc k → length (put_two f xs zs) ≡ suc k
len_put_two f [] zs j k h i = absurd (omega arith)
len_put_two f (x ∷ xs) zs j k h i = len_put (λ y. f y x) xs zs j k (omega arith) i

pub len_joined : {A : Type 0} (f : A → A → A) (xs : List A) (k : ℕ) → length xs ≡ suc (suc k) → length (joined f xs) ≡ suc k
len_joined f [] k h = absurd (omega arith)
len_joined f (x ∷ xs) k h = len_on (λ y. f y x) xs k (omega arith)

pub len_joined3 : {A : Type 0} (f : A → A → A → A) (xs : List A) (k : ℕ) → length xs ≡ suc (suc (suc k)) → length (joined3 f xs) ≡ suc k
len_joined3 f [] k h = absurd (omega arith)
len_joined3 f (x ∷ xs) k h = len_joined (λ y z. f y z x) xs k (omega arith)

pub len_with : {A Z : Type 0} (f : A → List Z → List Z) (xs : List A) (zs : List Z) (j k : ℕ) → length xs ≡ suc j → ((x : A) → length (f x zs) ≡ k) → length (with f xs zs) ≡ k
len_with f [] zs j k h i = absurd (omega arith)
len_with f (x ∷ xs) zs j k h i = i x

token_has : (s : Source) (n : ℕ) (a : TokenAction) (w : Waiting) (r : List ℕ) → Has w (takes (token_signature a) ++ r) → Has (token_on s n a w) (gives (token_signature a) ++ r)
token_has s n token.Place w r h = record { places = (let e = h.places in omega arith); names = h.names; literals = h.literals; columns = h.columns; relations = h.relations; exprs = h.exprs; lists = h.lists; links = h.links; arms = h.arms; selects = h.selects; sets = h.sets; tables = h.tables; queries = h.queries; name_lists = h.name_lists; assignments = h.assignments; statements = h.statements }
token_has s n token.Name w r h = record { places = h.places; names = (let e = h.names in omega arith); literals = h.literals; columns = h.columns; relations = h.relations; exprs = h.exprs; lists = h.lists; links = h.links; arms = h.arms; selects = h.selects; sets = h.sets; tables = h.tables; queries = h.queries; name_lists = h.name_lists; assignments = h.assignments; statements = h.statements }
token_has s n token.Literal w r h = record { places = h.places; names = h.names; literals = (let e = h.literals in omega arith); columns = h.columns; relations = h.relations; exprs = h.exprs; lists = h.lists; links = h.links; arms = h.arms; selects = h.selects; sets = h.sets; tables = h.tables; queries = h.queries; name_lists = h.name_lists; assignments = h.assignments; statements = h.statements }
token_has s n token.Negative w r h = record { places = h.places; names = h.names; literals = (let e = h.literals in omega arith); columns = h.columns; relations = h.relations; exprs = h.exprs; lists = h.lists; links = h.links; arms = h.arms; selects = h.selects; sets = h.sets; tables = h.tables; queries = h.queries; name_lists = h.name_lists; assignments = h.assignments; statements = h.statements }
token_has s n token.Plain w r h = record { places = h.places; names = len_rest w.names _ h.names; literals = h.literals; columns = len_made _ w.names w.columns _ _ h.names h.columns; relations = h.relations; exprs = h.exprs; lists = h.lists; links = h.links; arms = h.arms; selects = h.selects; sets = h.sets; tables = h.tables; queries = h.queries; name_lists = h.name_lists; assignments = h.assignments; statements = h.statements }
token_has s n token.Of w r h = record { places = h.places; names = len_rest (rest w.names) _ (len_rest w.names _ h.names); literals = h.literals; columns = len_made_of_two _ w.names w.columns _ _ h.names h.columns; relations = h.relations; exprs = h.exprs; lists = h.lists; links = h.links; arms = h.arms; selects = h.selects; sets = h.sets; tables = h.tables; queries = h.queries; name_lists = h.name_lists; assignments = h.assignments; statements = h.statements }
token_has s n token.InSchema w r h = record { places = h.places; names = len_rest (rest (rest w.names)) _ (len_rest (rest w.names) _ (len_rest w.names _ h.names)); literals = h.literals; columns = len_made_of_three _ w.names w.columns _ _ h.names h.columns; relations = h.relations; exprs = h.exprs; lists = h.lists; links = h.links; arms = h.arms; selects = h.selects; sets = h.sets; tables = h.tables; queries = h.queries; name_lists = h.name_lists; assignments = h.assignments; statements = h.statements }
token_has s n token.Relation w r h = record { places = h.places; names = len_rest w.names _ h.names; literals = h.literals; columns = h.columns; relations = len_made _ w.names w.relations _ _ h.names h.relations; exprs = h.exprs; lists = h.lists; links = h.links; arms = h.arms; selects = h.selects; sets = h.sets; tables = h.tables; queries = h.queries; name_lists = h.name_lists; assignments = h.assignments; statements = h.statements }
token_has s n token.RelationOf w r h = record { places = h.places; names = len_rest (rest w.names) _ (len_rest w.names _ h.names); literals = h.literals; columns = h.columns; relations = len_made_of_two _ w.names w.relations _ _ h.names h.relations; exprs = h.exprs; lists = h.lists; links = h.links; arms = h.arms; selects = h.selects; sets = h.sets; tables = h.tables; queries = h.queries; name_lists = h.name_lists; assignments = h.assignments; statements = h.statements }

expr_has : (a : ExprAction) (w : Waiting) (r : List ℕ) → Has w (takes (expr_signature a) ++ r) → Has (expr_on a w) (gives (expr_signature a) ++ r)
expr_has expr.Constant w r h = record { places = h.places; names = h.names; literals = len_rest w.literals _ h.literals; columns = h.columns; relations = h.relations; exprs = len_made _ w.literals w.exprs _ _ h.literals h.exprs; lists = h.lists; links = h.links; arms = h.arms; selects = h.selects; sets = h.sets; tables = h.tables; queries = h.queries; name_lists = h.name_lists; assignments = h.assignments; statements = h.statements }
expr_has expr.Column w r h = record { places = h.places; names = h.names; literals = h.literals; columns = len_rest w.columns _ h.columns; relations = h.relations; exprs = len_made _ w.columns w.exprs _ _ h.columns h.exprs; lists = h.lists; links = h.links; arms = h.arms; selects = h.selects; sets = h.sets; tables = h.tables; queries = h.queries; name_lists = h.name_lists; assignments = h.assignments; statements = h.statements }
expr_has expr.Parens w r h = record { places = len_rest w.places _ h.places; names = h.names; literals = h.literals; columns = h.columns; relations = h.relations; exprs = len_put _ w.places w.exprs _ _ h.places h.exprs; lists = h.lists; links = h.links; arms = h.arms; selects = h.selects; sets = h.sets; tables = h.tables; queries = h.queries; name_lists = h.name_lists; assignments = h.assignments; statements = h.statements }
expr_has expr.Negate w r h = record { places = len_rest w.places _ h.places; names = h.names; literals = h.literals; columns = h.columns; relations = h.relations; exprs = len_put _ w.places w.exprs _ _ h.places h.exprs; lists = h.lists; links = h.links; arms = h.arms; selects = h.selects; sets = h.sets; tables = h.tables; queries = h.queries; name_lists = h.name_lists; assignments = h.assignments; statements = h.statements }
expr_has expr.Not w r h = record { places = len_rest w.places _ h.places; names = h.names; literals = h.literals; columns = h.columns; relations = h.relations; exprs = len_put _ w.places w.exprs _ _ h.places h.exprs; lists = h.lists; links = h.links; arms = h.arms; selects = h.selects; sets = h.sets; tables = h.tables; queries = h.queries; name_lists = h.name_lists; assignments = h.assignments; statements = h.statements }
expr_has expr.Links w r h = record { places = h.places; names = h.names; literals = h.literals; columns = h.columns; relations = h.relations; exprs = h.exprs; lists = h.lists; links = (let e = h.links in omega arith); arms = h.arms; selects = h.selects; sets = h.sets; tables = h.tables; queries = h.queries; name_lists = h.name_lists; assignments = h.assignments; statements = h.statements }
expr_has (expr.Link op) w r h = record { places = len_rest w.places _ h.places; names = h.names; literals = h.literals; columns = h.columns; relations = h.relations; exprs = len_rest w.exprs _ h.exprs; lists = h.lists; links = len_put2 _ w.places w.exprs w.links _ _ _ h.places h.exprs h.links; arms = h.arms; selects = h.selects; sets = h.sets; tables = h.tables; queries = h.queries; name_lists = h.name_lists; assignments = h.assignments; statements = h.statements }
expr_has expr.Chain w r h = record { places = h.places; names = h.names; literals = h.literals; columns = h.columns; relations = h.relations; exprs = len_put _ w.links w.exprs _ _ h.links h.exprs; lists = h.lists; links = len_rest w.links _ h.links; arms = h.arms; selects = h.selects; sets = h.sets; tables = h.tables; queries = h.queries; name_lists = h.name_lists; assignments = h.assignments; statements = h.statements }
expr_has (expr.Compare c) w r h = record { places = len_rest w.places _ h.places; names = h.names; literals = h.literals; columns = h.columns; relations = h.relations; exprs = len_with _ w.places w.exprs _ _ h.places (λ x. len_joined _ w.exprs _ h.exprs); lists = h.lists; links = h.links; arms = h.arms; selects = h.selects; sets = h.sets; tables = h.tables; queries = h.queries; name_lists = h.name_lists; assignments = h.assignments; statements = h.statements }
expr_has (expr.IsNull negated) w r h = record { places = h.places; names = h.names; literals = h.literals; columns = h.columns; relations = h.relations; exprs = len_on _ w.exprs _ h.exprs; lists = h.lists; links = h.links; arms = h.arms; selects = h.selects; sets = h.sets; tables = h.tables; queries = h.queries; name_lists = h.name_lists; assignments = h.assignments; statements = h.statements }
expr_has expr.List w r h = record { places = h.places; names = h.names; literals = h.literals; columns = h.columns; relations = h.relations; exprs = h.exprs; lists = (let e = h.lists in omega arith); links = h.links; arms = h.arms; selects = h.selects; sets = h.sets; tables = h.tables; queries = h.queries; name_lists = h.name_lists; assignments = h.assignments; statements = h.statements }
expr_has expr.Add w r h = record { places = h.places; names = h.names; literals = h.literals; columns = h.columns; relations = h.relations; exprs = len_rest w.exprs _ h.exprs; lists = len_put _ w.exprs w.lists _ _ h.exprs h.lists; links = h.links; arms = h.arms; selects = h.selects; sets = h.sets; tables = h.tables; queries = h.queries; name_lists = h.name_lists; assignments = h.assignments; statements = h.statements }
expr_has (expr.In negated) w r h = record { places = len_rest w.places _ h.places; names = h.names; literals = h.literals; columns = h.columns; relations = h.relations; exprs = len_put2 _ w.places w.lists w.exprs _ _ _ h.places h.lists h.exprs; lists = len_rest w.lists _ h.lists; links = h.links; arms = h.arms; selects = h.selects; sets = h.sets; tables = h.tables; queries = h.queries; name_lists = h.name_lists; assignments = h.assignments; statements = h.statements }
expr_has (expr.Like negated) w r h = record { places = len_rest w.places _ h.places; names = h.names; literals = len_rest w.literals _ h.literals; columns = h.columns; relations = h.relations; exprs = len_put2 _ w.places w.literals w.exprs _ _ _ h.places h.literals h.exprs; lists = h.lists; links = h.links; arms = h.arms; selects = h.selects; sets = h.sets; tables = h.tables; queries = h.queries; name_lists = h.name_lists; assignments = h.assignments; statements = h.statements }
expr_has (expr.Between negated) w r h = record { places = len_rest w.places _ h.places; names = h.names; literals = h.literals; columns = h.columns; relations = h.relations; exprs = len_with _ w.places w.exprs _ _ h.places (λ x. len_joined3 _ w.exprs _ h.exprs); lists = h.lists; links = h.links; arms = h.arms; selects = h.selects; sets = h.sets; tables = h.tables; queries = h.queries; name_lists = h.name_lists; assignments = h.assignments; statements = h.statements }
expr_has expr.CountAll w r h = record { places = len_rest w.places _ h.places; names = h.names; literals = h.literals; columns = h.columns; relations = h.relations; exprs = len_made _ w.places w.exprs _ _ h.places h.exprs; lists = h.lists; links = h.links; arms = h.arms; selects = h.selects; sets = h.sets; tables = h.tables; queries = h.queries; name_lists = h.name_lists; assignments = h.assignments; statements = h.statements }
expr_has (expr.Aggregate a) w r h = record { places = len_rest w.places _ h.places; names = h.names; literals = h.literals; columns = h.columns; relations = h.relations; exprs = len_put _ w.places w.exprs _ _ h.places h.exprs; lists = h.lists; links = h.links; arms = h.arms; selects = h.selects; sets = h.sets; tables = h.tables; queries = h.queries; name_lists = h.name_lists; assignments = h.assignments; statements = h.statements }
expr_has expr.Coalesce w r h = record { places = len_rest w.places _ h.places; names = h.names; literals = h.literals; columns = h.columns; relations = h.relations; exprs = len_made2 _ w.places w.lists w.exprs _ _ _ h.places h.lists h.exprs; lists = len_rest w.lists _ h.lists; links = h.links; arms = h.arms; selects = h.selects; sets = h.sets; tables = h.tables; queries = h.queries; name_lists = h.name_lists; assignments = h.assignments; statements = h.statements }
expr_has expr.Arms w r h = record { places = h.places; names = h.names; literals = h.literals; columns = h.columns; relations = h.relations; exprs = h.exprs; lists = h.lists; links = h.links; arms = (let e = h.arms in omega arith); selects = h.selects; sets = h.sets; tables = h.tables; queries = h.queries; name_lists = h.name_lists; assignments = h.assignments; statements = h.statements }
expr_has expr.Arm w r h = record { places = h.places; names = h.names; literals = h.literals; columns = h.columns; relations = h.relations; exprs = len_rest (rest w.exprs) _ (len_rest w.exprs _ h.exprs); lists = h.lists; links = h.links; arms = len_put_two _ w.exprs w.arms _ _ h.exprs h.arms; selects = h.selects; sets = h.sets; tables = h.tables; queries = h.queries; name_lists = h.name_lists; assignments = h.assignments; statements = h.statements }
expr_has expr.Case w r h = record { places = len_rest w.places _ h.places; names = h.names; literals = h.literals; columns = h.columns; relations = h.relations; exprs = len_made2 _ w.places w.arms w.exprs _ _ _ h.places h.arms h.exprs; lists = h.lists; links = h.links; arms = len_rest w.arms _ h.arms; selects = h.selects; sets = h.sets; tables = h.tables; queries = h.queries; name_lists = h.name_lists; assignments = h.assignments; statements = h.statements }
expr_has expr.CaseElse w r h = record { places = len_rest w.places _ h.places; names = h.names; literals = h.literals; columns = h.columns; relations = h.relations; exprs = len_put2 _ w.places w.arms w.exprs _ _ _ h.places h.arms h.exprs; lists = h.lists; links = h.links; arms = len_rest w.arms _ h.arms; selects = h.selects; sets = h.sets; tables = h.tables; queries = h.queries; name_lists = h.name_lists; assignments = h.assignments; statements = h.statements }

query_has : (s : Source) (n : ℕ) (a : QueryAction) (w : Waiting) (r : List ℕ) → Has w (takes (query_signature a) ++ r) → Has (query_on s n a w) (gives (query_signature a) ++ r)
query_has s n query.Select w r h = record { places = h.places; names = h.names; literals = h.literals; columns = h.columns; relations = h.relations; exprs = h.exprs; lists = h.lists; links = h.links; arms = h.arms; selects = (let e = h.selects in omega arith); sets = h.sets; tables = h.tables; queries = h.queries; name_lists = h.name_lists; assignments = h.assignments; statements = h.statements }
query_has s n query.Distinct w r h = record { places = h.places; names = h.names; literals = h.literals; columns = h.columns; relations = h.relations; exprs = h.exprs; lists = h.lists; links = h.links; arms = h.arms; selects = len_on _ w.selects _ h.selects; sets = h.sets; tables = h.tables; queries = h.queries; name_lists = h.name_lists; assignments = h.assignments; statements = h.statements }
query_has s n query.All w r h = record { places = h.places; names = h.names; literals = h.literals; columns = h.columns; relations = h.relations; exprs = h.exprs; lists = h.lists; links = h.links; arms = h.arms; selects = len_on _ w.selects _ h.selects; sets = h.sets; tables = h.tables; queries = h.queries; name_lists = h.name_lists; assignments = h.assignments; statements = h.statements }
query_has s n query.AllOf w r h = record { places = h.places; names = len_rest w.names _ h.names; literals = h.literals; columns = h.columns; relations = h.relations; exprs = h.exprs; lists = h.lists; links = h.links; arms = h.arms; selects = len_put _ w.names w.selects _ _ h.names h.selects; sets = h.sets; tables = h.tables; queries = h.queries; name_lists = h.name_lists; assignments = h.assignments; statements = h.statements }
query_has s n query.Item w r h = record { places = h.places; names = h.names; literals = h.literals; columns = h.columns; relations = h.relations; exprs = len_rest w.exprs _ h.exprs; lists = h.lists; links = h.links; arms = h.arms; selects = len_put _ w.exprs w.selects _ _ h.exprs h.selects; sets = h.sets; tables = h.tables; queries = h.queries; name_lists = h.name_lists; assignments = h.assignments; statements = h.statements }
query_has s n query.ItemAs w r h = record { places = h.places; names = len_rest w.names _ h.names; literals = h.literals; columns = h.columns; relations = h.relations; exprs = len_rest w.exprs _ h.exprs; lists = h.lists; links = h.links; arms = h.arms; selects = len_put2 _ w.names w.exprs w.selects _ _ _ h.names h.exprs h.selects; sets = h.sets; tables = h.tables; queries = h.queries; name_lists = h.name_lists; assignments = h.assignments; statements = h.statements }
query_has s n query.From w r h = record { places = h.places; names = h.names; literals = h.literals; columns = h.columns; relations = h.relations; exprs = h.exprs; lists = h.lists; links = h.links; arms = h.arms; selects = len_put _ w.tables w.selects _ _ h.tables h.selects; sets = h.sets; tables = len_rest w.tables _ h.tables; queries = h.queries; name_lists = h.name_lists; assignments = h.assignments; statements = h.statements }
query_has s n query.Where w r h = record { places = h.places; names = h.names; literals = h.literals; columns = h.columns; relations = h.relations; exprs = len_rest w.exprs _ h.exprs; lists = h.lists; links = h.links; arms = h.arms; selects = len_put _ w.exprs w.selects _ _ h.exprs h.selects; sets = h.sets; tables = h.tables; queries = h.queries; name_lists = h.name_lists; assignments = h.assignments; statements = h.statements }
query_has s n query.GroupKey w r h = record { places = h.places; names = h.names; literals = h.literals; columns = len_rest w.columns _ h.columns; relations = h.relations; exprs = h.exprs; lists = h.lists; links = h.links; arms = h.arms; selects = len_put _ w.columns w.selects _ _ h.columns h.selects; sets = h.sets; tables = h.tables; queries = h.queries; name_lists = h.name_lists; assignments = h.assignments; statements = h.statements }
query_has s n query.Having w r h = record { places = h.places; names = h.names; literals = h.literals; columns = h.columns; relations = h.relations; exprs = len_rest w.exprs _ h.exprs; lists = h.lists; links = h.links; arms = h.arms; selects = len_put _ w.exprs w.selects _ _ h.exprs h.selects; sets = h.sets; tables = h.tables; queries = h.queries; name_lists = h.name_lists; assignments = h.assignments; statements = h.statements }
query_has s n query.Selects w r h = record { places = h.places; names = h.names; literals = h.literals; columns = h.columns; relations = h.relations; exprs = h.exprs; lists = h.lists; links = h.links; arms = h.arms; selects = len_rest w.selects _ h.selects; sets = len_made _ w.selects w.sets _ _ h.selects h.sets; tables = h.tables; queries = h.queries; name_lists = h.name_lists; assignments = h.assignments; statements = h.statements }
query_has s n (query.Union all) w r h = record { places = h.places; names = h.names; literals = h.literals; columns = h.columns; relations = h.relations; exprs = h.exprs; lists = h.lists; links = h.links; arms = h.arms; selects = len_rest w.selects _ h.selects; sets = len_put _ w.selects w.sets _ _ h.selects h.sets; tables = h.tables; queries = h.queries; name_lists = h.name_lists; assignments = h.assignments; statements = h.statements }
query_has s n query.Table w r h = record { places = h.places; names = h.names; literals = h.literals; columns = h.columns; relations = len_rest w.relations _ h.relations; exprs = h.exprs; lists = h.lists; links = h.links; arms = h.arms; selects = h.selects; sets = h.sets; tables = len_made _ w.relations w.tables _ _ h.relations h.tables; queries = h.queries; name_lists = h.name_lists; assignments = h.assignments; statements = h.statements }
query_has s n query.TableAs w r h = record { places = h.places; names = len_rest w.names _ h.names; literals = h.literals; columns = h.columns; relations = len_rest w.relations _ h.relations; exprs = h.exprs; lists = h.lists; links = h.links; arms = h.arms; selects = h.selects; sets = h.sets; tables = len_made2 _ w.relations w.names w.tables _ _ _ h.relations h.names h.tables; queries = h.queries; name_lists = h.name_lists; assignments = h.assignments; statements = h.statements }
query_has s n query.Derived w r h = record { places = h.places; names = len_rest w.names _ h.names; literals = h.literals; columns = h.columns; relations = h.relations; exprs = h.exprs; lists = h.lists; links = h.links; arms = h.arms; selects = h.selects; sets = len_rest w.sets _ h.sets; tables = len_made2 _ w.sets w.names w.tables _ _ _ h.sets h.names h.tables; queries = h.queries; name_lists = h.name_lists; assignments = h.assignments; statements = h.statements }
query_has s n query.Inner w r h = record { places = h.places; names = h.names; literals = h.literals; columns = h.columns; relations = h.relations; exprs = len_rest w.exprs _ h.exprs; lists = h.lists; links = h.links; arms = h.arms; selects = h.selects; sets = h.sets; tables = len_with _ w.exprs w.tables _ _ h.exprs (λ x. len_joined _ w.tables _ h.tables); queries = h.queries; name_lists = h.name_lists; assignments = h.assignments; statements = h.statements }
query_has s n query.Left w r h = record { places = h.places; names = h.names; literals = h.literals; columns = h.columns; relations = h.relations; exprs = len_rest w.exprs _ h.exprs; lists = h.lists; links = h.links; arms = h.arms; selects = h.selects; sets = h.sets; tables = len_with _ w.exprs w.tables _ _ h.exprs (λ x. len_joined _ w.tables _ h.tables); queries = h.queries; name_lists = h.name_lists; assignments = h.assignments; statements = h.statements }
query_has s n query.Cross w r h = record { places = h.places; names = h.names; literals = h.literals; columns = h.columns; relations = h.relations; exprs = h.exprs; lists = h.lists; links = h.links; arms = h.arms; selects = h.selects; sets = h.sets; tables = len_joined _ w.tables _ h.tables; queries = h.queries; name_lists = h.name_lists; assignments = h.assignments; statements = h.statements }
query_has s n query.Query w r h = record { places = h.places; names = h.names; literals = h.literals; columns = h.columns; relations = h.relations; exprs = h.exprs; lists = h.lists; links = h.links; arms = h.arms; selects = h.selects; sets = len_rest w.sets _ h.sets; tables = h.tables; queries = len_made _ w.sets w.queries _ _ h.sets h.queries; name_lists = h.name_lists; assignments = h.assignments; statements = h.statements }
query_has s n (query.KeyName descending) w r h = record { places = h.places; names = len_rest w.names _ h.names; literals = h.literals; columns = h.columns; relations = h.relations; exprs = h.exprs; lists = h.lists; links = h.links; arms = h.arms; selects = h.selects; sets = h.sets; tables = h.tables; queries = len_put _ w.names w.queries _ _ h.names h.queries; name_lists = h.name_lists; assignments = h.assignments; statements = h.statements }
query_has s n (query.KeyNumber descending) w r h = record { places = h.places; names = h.names; literals = len_rest w.literals _ h.literals; columns = h.columns; relations = h.relations; exprs = h.exprs; lists = h.lists; links = h.links; arms = h.arms; selects = h.selects; sets = h.sets; tables = h.tables; queries = len_put _ w.literals w.queries _ _ h.literals h.queries; name_lists = h.name_lists; assignments = h.assignments; statements = h.statements }
query_has s n query.Limit w r h = record { places = h.places; names = h.names; literals = len_rest w.literals _ h.literals; columns = h.columns; relations = h.relations; exprs = h.exprs; lists = h.lists; links = h.links; arms = h.arms; selects = h.selects; sets = h.sets; tables = h.tables; queries = len_put _ w.literals w.queries _ _ h.literals h.queries; name_lists = h.name_lists; assignments = h.assignments; statements = h.statements }
query_has s n query.Offset w r h = record { places = h.places; names = h.names; literals = len_rest w.literals _ h.literals; columns = h.columns; relations = h.relations; exprs = h.exprs; lists = h.lists; links = h.links; arms = h.arms; selects = h.selects; sets = h.sets; tables = h.tables; queries = len_put _ w.literals w.queries _ _ h.literals h.queries; name_lists = h.name_lists; assignments = h.assignments; statements = h.statements }

statement_has : (s : Source) (n : ℕ) (a : StatementAction) (w : Waiting) (r : List ℕ) → Has w (takes (statement_signature a) ++ r) → Has (statement_on s n a w) (gives (statement_signature a) ++ r)
statement_has s n statement.Query w r h = record { places = h.places; names = h.names; literals = h.literals; columns = h.columns; relations = h.relations; exprs = h.exprs; lists = h.lists; links = h.links; arms = h.arms; selects = h.selects; sets = h.sets; tables = h.tables; queries = len_rest w.queries _ h.queries; name_lists = h.name_lists; assignments = h.assignments; statements = len_made _ w.queries w.statements _ _ h.queries h.statements }
statement_has s n statement.Explain w r h = record { places = h.places; names = h.names; literals = h.literals; columns = h.columns; relations = h.relations; exprs = h.exprs; lists = h.lists; links = h.links; arms = h.arms; selects = h.selects; sets = h.sets; tables = h.tables; queries = len_rest w.queries _ h.queries; name_lists = h.name_lists; assignments = h.assignments; statements = len_made _ w.queries w.statements _ _ h.queries h.statements }
statement_has s n statement.Names w r h = record { places = h.places; names = h.names; literals = h.literals; columns = h.columns; relations = h.relations; exprs = h.exprs; lists = h.lists; links = h.links; arms = h.arms; selects = h.selects; sets = h.sets; tables = h.tables; queries = h.queries; name_lists = (let e = h.name_lists in omega arith); assignments = h.assignments; statements = h.statements }
statement_has s n statement.AddName w r h = record { places = h.places; names = len_rest w.names _ h.names; literals = h.literals; columns = h.columns; relations = h.relations; exprs = h.exprs; lists = h.lists; links = h.links; arms = h.arms; selects = h.selects; sets = h.sets; tables = h.tables; queries = h.queries; name_lists = len_put _ w.names w.name_lists _ _ h.names h.name_lists; assignments = h.assignments; statements = h.statements }
statement_has s n statement.InsertValues w r h = record { places = h.places; names = h.names; literals = h.literals; columns = h.columns; relations = len_rest w.relations _ h.relations; exprs = h.exprs; lists = len_rest w.lists _ h.lists; links = h.links; arms = h.arms; selects = h.selects; sets = h.sets; tables = h.tables; queries = h.queries; name_lists = len_rest w.name_lists _ h.name_lists; assignments = h.assignments; statements = len_made3 _ w.relations w.name_lists w.lists w.statements _ _ _ _ h.relations h.name_lists h.lists h.statements }
statement_has s n statement.InsertQuery w r h = record { places = h.places; names = h.names; literals = h.literals; columns = h.columns; relations = len_rest w.relations _ h.relations; exprs = h.exprs; lists = h.lists; links = h.links; arms = h.arms; selects = h.selects; sets = len_rest w.sets _ h.sets; tables = h.tables; queries = h.queries; name_lists = len_rest w.name_lists _ h.name_lists; assignments = h.assignments; statements = len_made3 _ w.relations w.name_lists w.sets w.statements _ _ _ _ h.relations h.name_lists h.sets h.statements }
statement_has s n statement.Assignments w r h = record { places = h.places; names = h.names; literals = h.literals; columns = h.columns; relations = h.relations; exprs = h.exprs; lists = h.lists; links = h.links; arms = h.arms; selects = h.selects; sets = h.sets; tables = h.tables; queries = h.queries; name_lists = h.name_lists; assignments = (let e = h.assignments in omega arith); statements = h.statements }
statement_has s n statement.Assign w r h = record { places = h.places; names = len_rest w.names _ h.names; literals = h.literals; columns = h.columns; relations = h.relations; exprs = len_rest w.exprs _ h.exprs; lists = h.lists; links = h.links; arms = h.arms; selects = h.selects; sets = h.sets; tables = h.tables; queries = h.queries; name_lists = h.name_lists; assignments = len_put2 _ w.names w.exprs w.assignments _ _ _ h.names h.exprs h.assignments; statements = h.statements }
statement_has s n statement.Update w r h = record { places = h.places; names = h.names; literals = h.literals; columns = h.columns; relations = len_rest w.relations _ h.relations; exprs = h.exprs; lists = h.lists; links = h.links; arms = h.arms; selects = h.selects; sets = h.sets; tables = h.tables; queries = h.queries; name_lists = h.name_lists; assignments = len_rest w.assignments _ h.assignments; statements = len_made2 _ w.relations w.assignments w.statements _ _ _ h.relations h.assignments h.statements }
statement_has s n statement.UpdateWhere w r h = record { places = h.places; names = h.names; literals = h.literals; columns = h.columns; relations = len_rest w.relations _ h.relations; exprs = len_rest w.exprs _ h.exprs; lists = h.lists; links = h.links; arms = h.arms; selects = h.selects; sets = h.sets; tables = h.tables; queries = h.queries; name_lists = h.name_lists; assignments = len_rest w.assignments _ h.assignments; statements = len_made3 _ w.exprs w.relations w.assignments w.statements _ _ _ _ h.exprs h.relations h.assignments h.statements }
statement_has s n statement.Delete w r h = record { places = h.places; names = h.names; literals = h.literals; columns = h.columns; relations = len_rest w.relations _ h.relations; exprs = h.exprs; lists = h.lists; links = h.links; arms = h.arms; selects = h.selects; sets = h.sets; tables = h.tables; queries = h.queries; name_lists = h.name_lists; assignments = h.assignments; statements = len_made _ w.relations w.statements _ _ h.relations h.statements }
statement_has s n statement.DeleteWhere w r h = record { places = h.places; names = h.names; literals = h.literals; columns = h.columns; relations = len_rest w.relations _ h.relations; exprs = len_rest w.exprs _ h.exprs; lists = h.lists; links = h.links; arms = h.arms; selects = h.selects; sets = h.sets; tables = h.tables; queries = h.queries; name_lists = h.name_lists; assignments = h.assignments; statements = len_made2 _ w.exprs w.relations w.statements _ _ _ h.exprs h.relations h.statements }
statement_has s n statement.Exec w r h = record { places = h.places; names = h.names; literals = h.literals; columns = h.columns; relations = len_rest w.relations _ h.relations; exprs = h.exprs; lists = len_rest w.lists _ h.lists; links = h.links; arms = h.arms; selects = h.selects; sets = h.sets; tables = h.tables; queries = h.queries; name_lists = h.name_lists; assignments = h.assignments; statements = len_made2 _ w.relations w.lists w.statements _ _ _ h.relations h.lists h.statements }
statement_has s n statement.Start w r h = record { places = h.places; names = h.names; literals = h.literals; columns = h.columns; relations = h.relations; exprs = h.exprs; lists = h.lists; links = h.links; arms = h.arms; selects = h.selects; sets = h.sets; tables = h.tables; queries = h.queries; name_lists = h.name_lists; assignments = h.assignments; statements = (let e = h.statements in omega arith) }
statement_has s n statement.Commit w r h = record { places = h.places; names = h.names; literals = h.literals; columns = h.columns; relations = h.relations; exprs = h.exprs; lists = h.lists; links = h.links; arms = h.arms; selects = h.selects; sets = h.sets; tables = h.tables; queries = h.queries; name_lists = h.name_lists; assignments = h.assignments; statements = (let e = h.statements in omega arith) }
statement_has s n statement.Rollback w r h = record { places = h.places; names = h.names; literals = h.literals; columns = h.columns; relations = h.relations; exprs = h.exprs; lists = h.lists; links = h.links; arms = h.arms; selects = h.selects; sets = h.sets; tables = h.tables; queries = h.queries; name_lists = h.name_lists; assignments = h.assignments; statements = (let e = h.statements in omega arith) }

pub act_has : (s : Source) (n : ℕ) (a : Action) (w : Waiting) (r : List ℕ) → Has w (takes (action_signature a) ++ r) → Has (act_on s n a w) (gives (action_signature a) ++ r)
act_has s n action.Nothing w r h = h
act_has s n (action.Expr a) w r h = expr_has a w r h
act_has s n (action.Token a) w r h = token_has s n a w r h
act_has s n (action.Query a) w r h = query_has s n a w r h
act_has s n (action.Statement a) w r h = statement_has s n a w r h
