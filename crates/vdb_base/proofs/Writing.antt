-- One text after another.
use Rattle.std.proofs.Common.{◌≡◌, ℕ, ◌+◌, ◌≤◌, Bool, true, false, List, [], ◌++◌, Option, Some, None, length, take, drop, refl, sym, ap, ◌∙◌, append_assoc, arith}
use Rattle.std.proofs.lemmas.List.{append-nil, take-append-le, drop-append-le, drop-drop, length-append, length-drop, take-append-drop}
use Rattle.std.proofs.Math.Seq.{take-append-add, take-add, take-length, drop-length, take-append_seam, drop-append_seam}
use Rattle.vdb_base.specs.Counts.{Rose, raised}
use Rattle.vdb_base.specs.Printing.{SinkTold, appended, GrowsBySome, Prints}
use Rattle.vdb_base.specs.Buffering.{HandsOver, Buffers}

pub appended-nil : (o : Option (List ℕ)) → appended o [] ≡ o
appended-nil None = refl
appended-nil (Some xs) = ap Some (append-nil xs)

pub appended-appended : (o : Option (List ℕ)) (t u : List ℕ) → appended (appended o t) u ≡ appended o (t ++ u)
appended-appended None t u = refl
appended-appended (Some xs) t u = ap Some (append_assoc xs t u)

-- a text that is written in two parts, the second one cut short
grows-more : (a b c : Option (List ℕ)) (t u : List ℕ) → b ≡ appended a t → GrowsBySome b c u → GrowsBySome a c (t ++ u)
grows-more a b c t u p q = record {
  count = length t + q.count;
  within = omega (arith, q.within, length-append t u);
  grows = q.grows ∙ ap (λ o. appended o (take q.count u)) p ∙ appended-appended a t (take q.count u) ∙ ap (appended a) (sym (take-append-add t u q.count));
}

rose_from : (m n k : ℕ) → n ≡ m → Rose n k → Rose m k
rose_from m n k e r = record { later = omega (arith, r.later, e); risen = rw (← e) r.risen }

pub Prints-nil : (s : SinkTold) → Prints true s s []
Prints-nil s = ap (λ o. record { written = o; faults = s.faults }) (sym (appended-nil s.written))

pub Prints-append : (whole : Bool) (a b c : SinkTold) (t u : List ℕ) → Prints true a b t → Prints whole b c u → Prints whole a c (t ++ u)
Prints-append true a b c t u p q = q ∙ ap (λ s. record { written = appended s.written u; faults = s.faults }) p
    ∙ ap (λ o. record { written = o; faults = a.faults }) (appended-appended a.written t u)
Prints-append false a b c t u p q = (grows-more a.written b.written c.written t u (ap (λ s. s.written) p) q.0, rose_from a.faults b.faults c.faults (ap (λ s. s.faults) p) q.1)

-- a text that was cut short is also the beginning of a longer one
pub Prints-longer : (a b : SinkTold) (t u : List ℕ) → Prints false a b t → Prints false a b (t ++ u)
Prints-longer a b t u p = (
  record {
    count = p.0.count;
    within = omega (arith, p.0.within, length-append t u);
    grows = p.0.grows ∙ ap (appended a.written) (sym (take-append-le p.0.count t u p.0.within));
  },
  p.1,
)

-- a piece that there was room for waits
pub Buffers-kept : (a : SinkTold) (before after piece : List ℕ) → after ≡ before ++ piece → Buffers true a a before after piece
Buffers-kept a before after piece e = record { count = 0; within = omega arith; written = sym (appended-nil a.written); waits = e; faults = refl }

-- what waited was written, and then a piece waits
pub Buffers-then_kept : (a b : SinkTold) (before after piece : List ℕ) → Prints true a b before → after ≡ piece → Buffers true a b before after piece
Buffers-then_kept a b before after piece p e = record {
  count = length before;
  within = omega (arith, length-append before piece);
  written = ap (λ s. s.written) p ∙ ap (appended a.written) (sym (take-append_seam before piece));
  waits = e ∙ sym (drop-append_seam before piece);
  faults = ap (λ s. s.faults) p;
}

-- what waited was written, and then a piece went to the sink at once
pub Buffers-through : (whole : Bool) (a b c : SinkTold) (before after piece : List ℕ) → after ≡ [] → Prints true a b before → Prints whole b c piece → Buffers whole a c before after piece
Buffers-through true a b c before after piece empty p q =
    let all = Prints-append true a b c before piece p q in
    record {
      count = length (before ++ piece);
      within = omega arith;
      written = ap (λ s. s.written) all ∙ ap (appended a.written) (sym (take-length (before ++ piece)));
      waits = empty ∙ sym (drop-length (before ++ piece));
      faults = ap (λ s. s.faults) all;
    }
Buffers-through false a b c before after piece empty p q = Prints-append false a b c before piece p q

-- a buffer that is empty at first and flushed in the end prints what went through it
pub Buffers-flush : (whole : Bool) (a b c : SinkTold) (waits text : List ℕ) → Buffers true a b [] waits text → Prints whole b c waits → Prints whole a c text
Buffers-flush true a b c waits text p q =
    q ∙ ap (λ s. record { written = appended s.written waits; faults = s.faults }) (whole_of a b waits text p)
    ∙ ap (λ o. record { written = o; faults = a.faults }) (appended-appended a.written (take p.count text) waits ∙ ap (appended a.written) (ap (λ w. take p.count text ++ w) p.waits ∙ take-append-drop p.count text))
  where
    whole_of : (a b : SinkTold) (waits text : List ℕ) → (p : HandsOver a b text waits) → b ≡ record { written = appended a.written (take p.count text); faults = a.faults }
    whole_of a b waits text p = ap (λ o. record { written = o; faults = b.faults }) p.written ∙ ap (λ n. record { written = appended a.written (take p.count text); faults = n }) p.faults
Buffers-flush false a b c waits text p q = (
  record {
    count = p.count + q.0.count;
    within = omega (arith, q.0.within, p.within, ap length p.waits, length-drop p.count text);
    grows = q.0.grows ∙ ap (λ o. appended o (take q.0.count waits)) p.written ∙ appended-appended a.written (take p.count text) (take q.0.count waits)
        ∙ ap (appended a.written) (ap (λ w. take p.count text ++ take q.0.count w) p.waits ∙ sym (take-add p.count q.0.count text));
  },
  rose_from a.faults b.faults c.faults p.faults q.1,
)

-- the first of some bytes, and then some of the others and more
regroup : (c d : ℕ) (xs us : List ℕ) → c ≤ length xs → take c xs ++ take d (drop c xs ++ us) ≡ take (c + d) (xs ++ us)
regroup c d xs us h = sym (take-add c d (xs ++ us) ∙ ap (λ l. l ++ take d (drop c (xs ++ us))) (take-append-le c xs us h) ∙ ap (λ l. take c xs ++ take d l) (drop-append-le c xs us h))

-- pieces that go into a buffer one after another
pub Buffers-append : (whole : Bool) (a b c : SinkTold) (x y z t u : List ℕ) → Buffers true a b x y t → Buffers whole b c y z u → Buffers whole a c x z (t ++ u)
Buffers-append true a b c x y z t u p q = record {
  count = p.count + q.count;
  within = omega (arith, p.within, q.within, length-append x t, length-append t u, length-append x (t ++ u), length-append y u, ap length p.waits, length-drop p.count (x ++ t));
  written = q.written ∙ ap (λ o. appended o (take q.count (y ++ u))) p.written ∙ appended-appended a.written (take p.count (x ++ t)) (take q.count (y ++ u))
      ∙ ap (appended a.written) (ap (λ l. take p.count (x ++ t) ++ take q.count (l ++ u)) p.waits ∙ regroup p.count q.count (x ++ t) u p.within ∙ ap (take (p.count + q.count)) (append_assoc x t u));
  waits = q.waits ∙ ap (λ l. drop q.count (l ++ u)) p.waits ∙ ap (drop q.count) (sym (drop-append-le p.count (x ++ t) u p.within)) ∙ drop-drop q.count p.count ((x ++ t) ++ u) ∙ ap (drop (p.count + q.count)) (append_assoc x t u);
  faults = q.faults ∙ p.faults;
}
Buffers-append false a b c x y z t u p q = (
  record {
    count = p.count + q.0.count;
    within = omega (arith, p.within, q.0.within, length-append x t, length-append t u, length-append x (t ++ u), length-append y u, ap length p.waits, length-drop p.count (x ++ t));
    grows = q.0.grows ∙ ap (λ o. appended o (take q.0.count (y ++ u))) p.written ∙ appended-appended a.written (take p.count (x ++ t)) (take q.0.count (y ++ u))
        ∙ ap (appended a.written) (ap (λ l. take p.count (x ++ t) ++ take q.0.count (l ++ u)) p.waits ∙ regroup p.count q.0.count (x ++ t) u p.within ∙ ap (take (p.count + q.0.count)) (append_assoc x t u));
  },
  rose_from a.faults b.faults c.faults p.faults q.1,
)

-- a text of which the first was written is also the beginning of a longer one
pub Buffers-longer : (a b : SinkTold) (x y z t u : List ℕ) → Buffers false a b x y t → Buffers false a b x z (t ++ u)
Buffers-longer a b x y z t u p = (
  record {
    count = p.0.count;
    within = omega (arith, p.0.within, length-append x t, length-append t u, length-append x (t ++ u));
    grows = p.0.grows ∙ ap (appended a.written) (sym (take-append-le p.0.count (x ++ t) u p.0.within) ∙ ap (take p.0.count) (append_assoc x t u));
  },
  p.1,
)
