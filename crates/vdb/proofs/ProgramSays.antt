-- What the program says, from what its run says and from its last line.
use Rattle.std.proofs.Common.{◌≡◌, inl, inr, ℕ, Bool, true, false, if◌then◌else◌, List, [], ◌++◌, Ok, refl, sym, ap, ◌∙◌, subst, arith}
use Rattle.std.proofs.lemmas.List.{append-nil}
use Rattle.std.proofs.Math.Seq.{take-nil}
use Rattle.vdb_base.specs.Counts.{Rose}
use Rattle.vdb_base.specs.Feeding.{FeedTold}
use Rattle.vdb_base.specs.Printing.{SinkTold, appended, Prints}
use Rattle.vdb_base.proofs.Writing.{Prints-append, appended-nil}
use Rattle.resource.specs.Images.{Image}
use Rattle.resource.specs.Told.{Told}
use Rattle.vdb_session.specs.Replies.{replies_text}
use Rattle.vdb.specs.declared.ending.Ending.{Ending}
use Rattle.vdb.specs.declared.ending.Ending.TheVariants as ending
use Rattle.vdb.specs.declared.words.Conn.{Conn}
use Rattle.vdb.specs.declared.words.Setup.{Setup}
use Rattle.vdb.specs.declared.words.WordsFault.{WordsFault}
use Rattle.vdb.specs.declared.words.WordsFault.TheVariants as fault
use Rattle.vdb.specs.Ending.{last_line, status_of}
use Rattle.vdb.specs.Making.{MakerTold}
use Rattle.vdb.specs.Running.{IsRun, Finishes, words_ending}
use Rattle.vdb.specs.Usage.{IsUsage}
use Rattle.vdb.specs.Words.{setup_of}
use Rattle.vdb.specs.Headline.{Runs, Headline}
use Rattle.vdb.proofs.RunSays.{trace_of, Says}
use Rattle.vdb.proofs.MadeSays.{Says-run}

rose_twice : (m n k : ℕ) → Rose m n → Rose n k → Rose m k
rose_twice m n k p q = record { later = omega (arith, p.later, q.later); risen = omega (arith, p.risen, q.later) }

-- a text cut short, and then nothing
Prints-cut : (b : Bool) (x y z : SinkTold) (text : List ℕ) → Prints false x y text → Prints b y z [] → Prints false x z (text ++ [])
Prints-cut true x y z text p q =
    let e : z ≡ y = q ∙ ap (λ o. record { written = o; faults = y.faults }) (appended-nil y.written) in
    rw (append-nil text) (subst (λ (z : SinkTold). Prints false x z text) (sym e) p)
Prints-cut false x y z text p q = rw (append-nil text) (
  record {
    count = p.0.count;
    within = p.0.within;
    grows = q.0.grows ∙ ap (appended y.written) (take-nil q.0.count) ∙ appended-nil y.written ∙ p.0.grows;
  },
  rose_twice x.faults y.faults z.faults p.1 q.1,
)

module _ {S : Type 0} (told : S → Told) (images : S → Image → Type 0) (setup : Setup) (old new : MakerTold S) (feed feed' : FeedTold) (out mid out' : SinkTold) (status : ℕ) where
  runs-with : (e : Ending) (whole : Bool) (s : Says told images setup old new feed feed' out mid e) → Prints whole out out' (replies_text s.replies ++ last_line setup.conns e)
      → status ≡ (if whole then status_of e else 4) → (e ≡ ending.SinkFailed → whole ≡ false) → Runs told images setup old new feed feed' out out' status
  runs-with e whole s p q k = record {
    trace = trace_of told old s.cat s.taken s.replies;
    end = e;
    ended = s.ended;
    whole = whole;
    world_is = refl;
    took = s.took;
    each = s.each;
    printed = p;
    status_is = q;
    cut = k;
    ends = s.ends;
    kept = s.kept;
  }

  runs-last : (e : Ending) → (s : Says told images setup old new feed feed' out mid e) → Prints true out mid (replies_text s.replies) → Finishes setup.conns e mid out' status
      → (e ≡ ending.SinkFailed → ⊥) → Runs told images setup old new feed feed' out out' status
  runs-last e s p f k = runs-with e f.whole s (Prints-append f.whole out mid out' (replies_text s.replies) (last_line setup.conns e) p f.printed) f.status_is (λ q. absurd (k q))

  four : (b : Bool) (k : ℕ) → (if b then k else k) ≡ k
  four true k = refl
  four false k = refl

  runs-of : (e : Ending) → Says told images setup old new feed feed' out mid e → Finishes setup.conns e mid out' status → Runs told images setup old new feed feed' out out' status
  runs-of (ending.Usage word) s f = runs-last (ending.Usage word) s s.printed f (λ q. cc)
  runs-of (ending.Deploy d) s f = runs-last (ending.Deploy d) s s.printed f (λ q. cc)
  runs-of ending.MakerFailed s f = runs-last ending.MakerFailed s s.printed f (λ q. cc)
  runs-of (ending.LaneFailed lane) s f = runs-last (ending.LaneFailed lane) s s.printed f (λ q. cc)
  runs-of ending.FeedFailed s f = runs-last ending.FeedFailed s s.printed f (λ q. cc)
  runs-of ending.SinkFailed s f = runs-with ending.SinkFailed false s (Prints-cut f.whole out mid out' (replies_text s.replies) s.printed f.printed) (f.status_is ∙ four f.whole 4) (λ q. refl)
  runs-of ending.Memory s f = runs-last ending.Memory s s.printed f (λ q. cc)
  runs-of ending.TooLong s f = runs-last ending.TooLong s s.printed f (λ q. cc)
  runs-of (ending.Whole seen) s f = runs-last (ending.Whole seen) s s.printed f (λ q. cc)

  pub headline-of : (words : List (List ℕ)) (e : Ending) → setup_of words ≡ Ok setup → IsRun told images setup old new feed feed' out mid e → Finishes setup.conns e mid out' status
      → Headline told images words old new feed feed' out out' status
  headline-of words e w r f = inl (rw w (runs-of e (Says-run told images setup old new feed feed' out mid e r) f))

module _ {S : Type 0} (told : S → Told) (images : S → Image → Type 0) (words : List (List ℕ)) (maker : MakerTold S) (feed : FeedTold) (conns : List Conn) (out out' : SinkTold) (status : ℕ) where
  unread_says : (f : WordsFault) → IsUsage (setup_of words) f → Finishes conns (words_ending f) out out' status → Headline told images words maker maker feed feed out out' status
  unread_says (fault.Usage word) u f = inl (rw u record { whole = f.whole; printed = f.printed; status_is = f.status_is; maker = refl; unread = refl })
  unread_says fault.Memory u f = inr record { whole = f.whole; printed = f.printed; status_is = f.status_is; maker = refl; unread = refl }

  -- words that were not read
  pub headline-unread : (f : WordsFault) (e : Ending) → IsUsage (setup_of words) f → e ≡ words_ending f → Finishes conns e out out' status → Headline told images words maker maker feed feed out out' status
  headline-unread f e u q h = unread_says f u (subst (λ (e : Ending). Finishes conns e out out' status) q h)
