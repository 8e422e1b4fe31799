-- The query of a statement by its walk.
use Rattle.std.proofs.Common.{◌≡◌, ℕ, Bool, true, false, Some, None, Result, Ok, Err, inl, inr, refl, sym, ap, ◌∙◌, subst, if◌then◌else◌, List}
use Rattle.std.specs.Result.{result_err}
use Rattle.vdb_model.specs.declared.rel.Ranked.{Ranked}
use Rattle.vdb_model.specs.declared.reply.Refusal.{Refusal}
use Rattle.vdb_model.specs.declared.reply.Refusal.TheVariants.{TooLarge}
use Rattle.vdb_model.specs.declared.typed.Typed.{Typed}
use Rattle.vdb_model.specs.declared.typed.Typed.TheVariants as typed
use Rattle.vdb_model.specs.Defined.{Defined}
use Rattle.vdb_model.specs.Sizes.{nodes_of, depth_of, is_within_size}
use Rattle.sql_reader.specs.declared.tree.query.Query.{Query}
use Rattle.sql_reader.specs.declared.tree.statement.Statement.{Statement}
use Rattle.sql_reader.specs.declared.tree.statement.Statement.TheVariants as statement
use Rattle.sql_reader.specs.Trees.{IsStatement}
use Rattle.expr_resolver.specs.declared.fault.ResolveFault.{ResolveFault}
use Rattle.expr_resolver.specs.declared.fault.ResolveFault.TheVariants as fault
use Rattle.expr_resolver.specs.Answers.{Resolves}
use Rattle.resolver.specs.Queries.{query_walk}
use Rattle.resolver.specs.Statements.{resolved, sized_rel, within_size}
use Rattle.expr_resolver.specs.Walking.{next}
use Rattle.vdb_session.specs.declared.queries.NoQuery.{NoQuery}
use Rattle.vdb_session.specs.declared.queries.NoQuery.TheVariants as no_query
use Rattle.vdb_session.specs.Meaning.{is_later}
use Rattle.vdb_session.specs.Querying.{sized, sized_walk, later, IsWalkedFirst, IsNoQuery, HasQuery, ReadsQuery}

abbrev as_statement : Result Ranked Refusal → Result Typed Refusal
as_statement (Ok q) = Ok (typed.Query q)
as_statement (Err r) = Err r

by_size : (b : Bool) (nodes depth : ℕ) (q : Ranked) → (if b then Ok (typed.Query q) else Err (TooLarge nodes depth)) ≡ as_statement (if b then Ok q else Err (TooLarge nodes depth))
by_size true nodes depth q = refl
by_size false nodes depth q = refl

by_walk : (cat : Defined) (w : Result Ranked Refusal) → next (next w (λ q. Ok (typed.Query q))) (λ t. within_size cat.views (sized_rel t) t) ≡ as_statement (next w (sized cat.views))
by_walk cat (Ok q) = by_size (is_within_size (nodes_of cat.views q.rel) (depth_of cat.views q.rel)) (nodes_of cat.views q.rel) (depth_of cat.views q.rel) q
by_walk cat (Err r) = refl

-- a query's statement resolves as its walk does
walk_of : (cat : Defined) (q : Query) → resolved cat (statement.Query q) ≡ as_statement (sized_walk cat q)
walk_of cat q = by_walk cat (query_walk cat q)

pub query_given : (cat : Defined) (base : ℕ) (q : Query) (query : Ranked) → Resolves (sized_walk cat q) (Ok query) → HasQuery cat base (statement.Query q) (Ok query)
query_given cat base q query h = walk_of cat q ∙ ap as_statement h

pub query_refused : (cat : Defined) (base : ℕ) (q : Query) (f : ResolveFault) (none : NoQuery) → Resolves (sized_walk cat q) (Err f) → IsNoQuery base f none → HasQuery cat base (statement.Query q) (Err none)
query_refused cat base q (fault.Refused r) (no_query.Refused refused) h e = inr (record { answered = refl; refusal = r; resolves = walk_of cat q ∙ ap as_statement (h refl); moved_is = e })
query_refused cat base q (fault.Refused r) no_query.Memory h e = tt
query_refused cat base q fault.Memory (no_query.Refused refused) h e = cc
query_refused cat base q fault.Memory no_query.Memory h e = tt

given_later : (cat : Defined) (base : ℕ) (s : Statement) (t : Typed) → IsWalkedFirst s → resolved cat s ≡ Ok t → HasQuery cat base s (Err (later base))
given_later cat base s t w h = inl (record { later = subst (λ r. is_later s r ≡ true) (sym h) (w.given t); refused_is = refl })

refused_first : (cat : Defined) (base : ℕ) (s : Statement) (f : ResolveFault) (none : NoQuery) → IsWalkedFirst s → Resolves (resolved cat s) (Err f) → IsNoQuery base f none → HasQuery cat base s (Err none)
refused_first cat base s (fault.Refused r) (no_query.Refused refused) w h e =
    inr (record { answered = subst (λ x. is_later s x ≡ false) (sym (h refl)) (w.refused r); refusal = r; resolves = h refl; moved_is = e })
refused_first cat base s (fault.Refused r) no_query.Memory w h e = tt
refused_first cat base s fault.Memory (no_query.Refused refused) w h e = cc
refused_first cat base s fault.Memory no_query.Memory w h e = tt

-- where the walk gave a statement
pub later_given : (cat : Defined) (base : ℕ) (s : Statement) (r : Result Typed ResolveFault) → IsWalkedFirst s → Resolves (resolved cat s) r → result_err r ≡ None → HasQuery cat base s (Err (later base))
later_given cat base s (Ok t) w h e = given_later cat base s t w h
later_given cat base s (Err f) w h e = cc

-- and where it was refused
pub later_refused : (cat : Defined) (base : ℕ) (s : Statement) (r : Result Typed ResolveFault) (f : ResolveFault) (none : NoQuery) → IsWalkedFirst s → Resolves (resolved cat s) r → result_err r ≡ Some f
    → IsNoQuery base f none → HasQuery cat base s (Err none)
later_refused cat base s (Ok t) f none w h e n = cc
later_refused cat base s (Err g) f none w h e n = let same : g ≡ f = cc in refused_first cat base s g none w h (subst (λ x. IsNoQuery base x none) (sym same) n)

-- the query of a text by its statement
pub reads_query : (cat : Defined) (base : ℕ) (text : List ℕ) (s : Statement) (r : Result Ranked NoQuery) → IsStatement text s → HasQuery cat base s r → ReadsQuery cat (record { at = base; text = text }) r
reads_query cat base text s (Ok q) t h = record { statement = s; reads = t; resolves = h }
reads_query cat base text s (Err (no_query.Refused refused)) t (inl h) = inr (inl (record { statement = s; reads = t; later = h.later; refused_is = h.refused_is }))
reads_query cat base text s (Err (no_query.Refused refused)) t (inr h) =
    inr (inr (record { statement = s; reads = t; answered = h.answered; refusal = h.refusal; resolves = h.resolves; moved_is = h.moved_is }))
reads_query cat base text s (Err no_query.Memory) t h = tt
