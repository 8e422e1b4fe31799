-- A run of the reader over a text.
use Rattle.std.proofs.Common.{ℕ, zero, suc, true, List, [], ◌∷◌, ◌++◌, ◌+◌, ◌≡◌, ◌≤◌, ◌<◌, inl, inr, Some, None, length, take, drop, get_or, refl, sym, ◌∙◌, ap, subst, arith, append_assoc}
use Rattle.std.proofs.lemmas.Bool.{cases_lt}
use Rattle.std.proofs.lemmas.List.{take_more, take_all, take-append-drop, append-nil}
use Rattle.grammar.specs.declared.machine.Symbol.{Symbol}
use Rattle.grammar.specs.declared.machine.Event.{Event}
use Rattle.grammar.specs.declared.machine.Thread.{Thread}
use Rattle.grammar.specs.declared.reader.Run.{Run}
use Rattle.grammar.specs.declared.fault.ReadFault.{ReadFault}
use Rattle.grammar.specs.declared.fault.ReadFault.TheVariants.{Syntax, Memory}
use Rattle.grammar.specs.Table.{Rules}
use Rattle.grammar.specs.Derivation.{Derives, done, Among, here, there}
use Rattle.grammar.specs.Order.{is_up_to}
use Rattle.grammar.specs.Reading.{start_of, IsSentence, IsReading, IsNone, IsViable, IsFront, AtSyntax}
use Rattle.grammar.specs.Runs.{Follows, Settles, IsRun, IsLeast}
use Rattle.grammar.specs.Threads.{symbols, logs, SomeReads, Alive, Adds, KeepsEnded, AllEnded}
use Rattle.grammar.specs.WellFormed.{is_well_formed}
use Rattle.grammar.proofs.Tables.{ends}
use Rattle.grammar.proofs.Inversion.{unseen, no_actions}
use Rattle.grammar.proofs.Logs.{up_after, up_both}

pub follows_begin : (g : Rules) (n : ℕ) (base : List Event) (ths : List Thread) (th : Thread) → base ≡ [] → ths ≡ th ∷ [] → th.log.items ≡ [] → symbols th.stack.value ≡ start_of n → Follows g (start_of n) [] 0 base ths
follows_begin g n base ths th b e f h = rw (b, e) (record {
  sound = λ log ts more a. elim a.2 [ inl w ↦ subst (λ (l : List Event). Derives g 0 (start_of n) l ts more) (sym (a.1 ∙ w.1 ∙ ap (λ x. x ++ w.0) f)) (subst (λ (ss : List Symbol). Derives g 0 ss w.0 ts more) h w.2) | inr w ↦ absurd w ];
  complete = λ log ts more d. (log, refl, inl (log, sym (ap (λ x. x ++ log) f), subst (λ (ss : List Symbol). Derives g 0 ss log ts more) (sym h) d));
})

follows_more : (g : Rules) (ss : List Symbol) (seen : List ℕ) (pos : ℕ) (base : List Event) (ths new : List Thread) (t : ℕ) → Follows g ss seen pos base ths → Adds g (pos + 1) [] new (SomeReads g pos ths (Some t)) → Follows g ss (seen ++ t ∷ []) (pos + 1) base new
follows_more g ss seen pos base ths new t f a = record {
  sound = λ log ts more h. elim (a.sound h.0 ts more h.2) [ inl x ↦ absurd x | inr w ↦ rw append_assoc (f.sound log (t ∷ ts) more (h.0, h.1, w.1)) ];
  complete = λ log ts more d. let c = f.complete log (t ∷ ts) more (rw append_assoc at d) in (c.0, c.1, a.complete c.0 ts more (tt, c.2));
}

pub follows_next : (g : Rules) (ss : List Symbol) (text : List ℕ) (at : ℕ) (base : List Event) (ths new : List Thread) → at < length text → Follows g ss (take at text) at base ths → Adds g (at + 1) [] new (SomeReads g at ths (Some (get_or text at 0))) → Follows g ss (take (at + 1) text) (at + 1) base new
follows_next g ss text at base ths new h f a = rw (take_more text at 0 h) (follows_more g ss (take at text) at base ths new (get_or text at 0) f a)

pub follows_settled : (g : Rules) (ss : List Symbol) (seen : List ℕ) (pos : ℕ) (base base' : List Event) (ths new : List Thread) → Follows g ss seen pos base ths → Settles base base' ths new → Follows g ss seen pos base' new
follows_settled g ss seen pos base base' ths new f s = record {
  sound = λ log ts more a. f.sound log ts more (s.sound g pos log ts more a);
  complete = λ log ts more d. s.complete g pos log ts more (f.complete log ts more d);
}

-- where a thread is left, some sentence goes on
viable : (g : Rules) (n : ℕ) (seen : List ℕ) (pos : ℕ) (base : List Event) (ths : List Thread) → is_well_formed g ≡ true → Follows g (start_of n) seen pos base ths → 0 < length ths → IsViable g n seen
viable g n seen pos base [] ok f h = absurd (omega arith)
viable g n seen pos base (th ∷ ths) ok f h =
    let e = ends g ok (symbols th.stack.value) pos in
    (base ++ (th.log.items ++ e.0), e.1, rw append-nil at (f.sound (base ++ (th.log.items ++ e.0)) [] e.1 (th.log.items ++ e.0, refl, inl (e.0, refl, e.2))))

dead : (g : Rules) (n : ℕ) (seen : List ℕ) (pos : ℕ) (base : List Event) → Follows g (start_of n) seen pos base [] → IsViable g n seen → ⊥
dead g n seen pos base f v = (f.complete v.0 [] v.1 (rw append-nil v.2)).2

-- where no thread reads the next token, no sentence goes on with it
pub stops_at : (g : Rules) (n : ℕ) (text : List ℕ) (at : ℕ) (base : List Event) (ths new : List Thread) → at < length text
    → Follows g (start_of n) (take at text) at base ths → Adds g (at + 1) [] new (SomeReads g at ths (Some (get_or text at 0))) → new ≡ [] → IsViable g n (take (at + 1) text) → ⊥
stops_at g n text at base ths new h f a e = dead g n (take (at + 1) text) (at + 1) base (subst (λ (us : List Thread). Follows g (start_of n) (take (at + 1) text) (at + 1) base us) e (follows_next g (start_of n) text at base ths new h f a))

pub front_of : (g : Rules) (n : ℕ) (text : List ℕ) (run : Run) → is_well_formed g ≡ true → IsRun g n text run → IsFront g n text run.at
front_of g n text run ok r = record {
  within = r.within;
  begins = viable g n (take run.at text) run.at run.done.items run.threads.items ok r.follows r.some;
  longest = r.longest;
}

-- what ended threads derive is their logs
ended_among : (g : Rules) (pos : ℕ) (ths : List Thread) (log : List Event) → AllEnded ths → Alive g pos ths log [] [] → Among log (logs ths)
ended_among g pos [] log a h = absurd h
ended_among g pos (th ∷ ths) log a (inl w) =
    let nothing = no_actions (subst (λ (ss : List Symbol). Derives g pos ss w.0 [] []) a.0 w.2) in
    subst (λ (u : List Event). Among u (th.log.items ∷ logs ths)) (sym (w.1 ∙ ap (λ x. th.log.items ++ x) nothing ∙ append-nil th.log.items)) here
ended_among g pos (th ∷ ths) log a (inr h) = there (ended_among g pos ths log a.1 h)

among_ended : (g : Rules) (pos : ℕ) (ths : List Thread) (log : List Event) → AllEnded ths → Among log (logs ths) → Alive g pos ths log [] []
among_ended g pos [] log a m = elim m [ ]
among_ended g pos (th ∷ ths) log a here = inl ([], sym (append-nil th.log.items), subst (λ (ss : List Symbol). Derives g pos ss [] [] []) (sym a.0) done)
among_ended g pos (th ∷ ths) log a (there m) = inr (among_ended g pos ths log a.1 m)

-- no thread ends here, so nothing is a sentence
pub none_at : (g : Rules) (n : ℕ) (seen : List ℕ) (pos : ℕ) (base : List Event) (ths new : List Thread)
    → Follows g (start_of n) seen pos base ths → Adds g (pos + 1) [] new (SomeReads g pos ths None) → new ≡ [] → IsNone g n seen
none_at g n seen pos base ths new f a e log d =
    let c = f.complete log [] [] (rw append-nil d) in
    let left = a.complete c.0 [] [] ((refl, refl), c.2) in
    subst (λ (us : List Thread). Alive g (pos + 1) us c.0 [] []) e left

-- the least log of the threads that end here is that of the sentence
pub reading_at : (g : Rules) (n : ℕ) (seen : List ℕ) (pos : ℕ) (base last log : List Event) (ths new : List Thread)
    → Follows g (start_of n) seen pos base ths → Adds g (pos + 1) [] new (SomeReads g pos ths None) → KeepsEnded None [] new → IsLeast last (logs new) → log ≡ base ++ last → IsReading g n seen log
reading_at g n seen pos base last log ths new f a k l b = record {
  sentence = elim (a.sound last [] [] (among_ended g (pos + 1) new last (k tt) l.one)) [ inl x ↦ absurd x | inr w ↦ rw append-nil at (f.sound log [] [] (last, b, w.1)) ];
  least = λ other d.
      let c = f.complete other [] [] (rw append-nil d) in
      let m = ended_among g (pos + 1) new c.0 (k tt) (a.complete c.0 [] [] ((refl, refl), c.2)) in
      subst (λ (u : List Event). is_up_to u other ≡ true) (sym b) (subst (λ (u : List Event). is_up_to (base ++ last) u ≡ true) (sym c.1) (up_after base last c.0 (l.least c.0 m)));
}

pub settles_same : (base : List Event) (ths : List Thread) → Settles base base ths ths
settles_same base ths = record { sound = λ g pos log ts more a. a; complete = λ g pos log ts more a. a }

-- one thread gives its actions to the base
pub settles_one : (base base' : List Event) (old new : List Thread) (th th' : Thread) → old ≡ th ∷ [] → new ≡ th' ∷ [] → th'.stack ≡ th.stack → th'.log.items ≡ [] → base' ≡ base ++ th.log.items → Settles base base' old new
settles_one base base' old new th th' e f s l b = rw (e, f) (record {
  sound = λ g pos log ts more a. (
    th.log.items ++ a.0,
    a.1 ∙ ap (λ x. x ++ a.0) b ∙ append_assoc base th.log.items a.0,
    elim a.2 [ inl w ↦ inl (a.0, refl, subst (λ (ss : List Symbol). Derives g pos ss a.0 ts more) (ap (λ (k : _). symbols k.value) s) (subst (λ (x : List Event). Derives g pos (symbols th'.stack.value) x ts more) (sym (w.1 ∙ ap (λ x. x ++ w.0) l)) w.2)) | inr w ↦ absurd w ],
  );
  complete = λ g pos log ts more a. elim a.2 [
    | inl w ↦ (
      w.0,
      a.1 ∙ ap (λ x. base ++ x) w.1 ∙ sym (append_assoc base th.log.items w.0) ∙ ap (λ x. x ++ w.0) (sym b),
      inl (w.0, ap (λ x. x ++ w.0) (sym l), subst (λ (ss : List Symbol). Derives g pos ss w.0 ts more) (ap (λ (k : _). symbols k.value) (sym s)) w.2),
    )
    | inr w ↦ absurd w
  ];
})

take_take : (text : List ℕ) (i j : ℕ) → i ≤ j → take i (take j text) ≡ take i text
take_take [] zero zero h = refl
take_take [] (suc i) zero h = refl
take_take [] zero (suc j) h = refl
take_take [] (suc i) (suc j) h = refl
take_take (t ∷ text) zero j h = refl
take_take (t ∷ text) (suc i) zero h = absurd (omega arith)
take_take (t ∷ text) (suc i) (suc j) h = ap (λ ts. t ∷ ts) (take_take text i j (omega arith))

-- A sentence's fronts begin a sentence.
viable_front : (g : Rules) (n : ℕ) (text : List ℕ) (k : ℕ) → IsViable g n text → IsViable g n (take k text)
viable_front g n text k v = (v.0, drop k text ++ v.1, unseen (take k text) (drop k text) (sym (take-append-drop k text)) v.2)

pub none_past : (g : Rules) (n : ℕ) (text : List ℕ) (at : ℕ) → IsFront g n text at → at < length text → IsNone g n text
none_past g n text at f h log d = f.longest h (viable_front g n text (at + 1) (log, [], d))

pub none_whole : (g : Rules) (n : ℕ) (text : List ℕ) (at : ℕ) → IsFront g n text at → IsNone g n (take at text) → IsNone g n text
none_whole g n text at f none log d = elim (cases_lt at (length text)) [
  | inl h ↦ none_past g n text at f h log d
  | inr h ↦ none log (subst (λ (us : List ℕ). IsSentence g n us log) (sym (take_all at text h)) d)
]

-- where a front is no sentence, the text is none
pub fault_whole : (g : Rules) (n : ℕ) (text : List ℕ) (fault : ReadFault) → AtSyntax fault (IsFront g n text) → AtSyntax fault (λ at. IsNone g n (take at text)) → AtSyntax fault (λ at. IsNone g n text)
fault_whole g n text (Syntax at) f none = none_whole g n text at f none
fault_whole g n text Memory f none = tt

-- one front: what is longer isn't viable
front_up_to : (g : Rules) (n : ℕ) (text : List ℕ) (at other : ℕ) → IsFront g n text at → IsFront g n text other → other ≤ at
front_up_to g n text at other f h = elim (cases_lt at other) [
  | inl less ↦ absurd (f.longest (omega (arith, h.within)) (subst (λ (us : List ℕ). IsViable g n us) (take_take text (at + 1) other (omega arith)) (viable_front g n (take other text) (at + 1) h.begins)))
  | inr more ↦ more
]

pub one_front : (g : Rules) (n : ℕ) (text : List ℕ) (at other : ℕ) → IsFront g n text at → IsFront g n text other → at ≡ other
one_front g n text at other f h = let a = front_up_to g n text at other f h in let b = front_up_to g n text other at h f in omega (arith, a, b)

pub one_reading : (g : Rules) (n : ℕ) (text : List ℕ) (log other : List Event) → IsReading g n text log → IsReading g n text other → log ≡ other
one_reading g n text log other r s = up_both log other (r.least other s.sentence) (s.least log r.sentence)

pub none_begins : (g : Rules) (n : ℕ) (text rest : List ℕ) (at : ℕ) → IsFront g n text at → at < length text → IsNone g n (take (at + 1) text ++ rest)
none_begins g n text rest at f h log d = f.longest h (log, rest ++ [], unseen (take (at + 1) text) rest refl d)
