-- The causes of the statuses, from what the program says.
use Rattle.std.proofs.Common.{◌≡◌, ◌≢◌, inl, inr, ℕ, zero, suc, ◌<◌, ◌≤◌, Bool, true, false, if◌then◌else◌, List, [], ◌∷◌, ◌++◌, take, Option, Some, None, Result, Ok, Err, IfSome, length, refl, sym, ap, ◌∙◌, subst, arith}
use Rattle.std.proofs.lemmas.List.{append-nil, length-append}
use Rattle.vdb_base.specs.Feeding.{FeedTold, prepended, IsAtEnd}
use Rattle.vdb_base.specs.Printing.{SinkTold, Prints}
use Rattle.vdb_model.specs.declared.reply.DeployFault.{DeployFault}
use Rattle.vdb_model.specs.declared.reply.Reply.{Reply}
use Rattle.vdb_model.specs.Defined.{Defined}
use Rattle.vdb_model.specs.Rows.{Cells}
use Rattle.resource.specs.Images.{Image}
use Rattle.resource.specs.Told.{Told}
use Rattle.vdb_session.specs.declared.parts.Parts.{Parts}
use Rattle.vdb_session.specs.Lanes.{counts}
use Rattle.vdb_session.specs.Replies.{RepliesToAll, replies_text}
use Rattle.vdb_session.specs.Script.{script_limit, Piece, statements_of}
use Rattle.vdb_session.specs.Starting.{IsStartRefusal}
use Rattle.vdb.specs.declared.answering.Seen.{Seen}
use Rattle.vdb.specs.declared.ending.Ending.{Ending}
use Rattle.vdb.specs.declared.ending.Ending.TheVariants as ending
use Rattle.vdb.specs.declared.words.Setup.{Setup}
use Rattle.vdb.specs.Ending.{status_of, last_line}
use Rattle.vdb.specs.Making.{MakerTold, AreFor}
use Rattle.vdb.specs.Words.{setup_of}
use Rattle.vdb.specs.Headline.{held_world, world_held, Opens, Quiet, Trace, Ends, AnsweredAll, Misused, Runs, RunsWords, Headline}
use Rattle.vdb.specs.Causes.{SomeRose, HaveNoForm, AreRefused, IsTooLong, Causes, Given, Refused, Sound, AnswersWhole, AnswersFront, Answers, Complete}
use Rattle.vdb.proofs.HeldWorld.{world_told}
use Rattle.vdb.proofs.OneStart.{one_catalog, one_refusal, not_refused, told_refusal}
use Rattle.vdb.proofs.RunSays.{where-same}

-- the status of a script that was answered whole
abbrev whole_status : Bool → Bool → ℕ
whole_status memory refused = if memory then 5 else (if refused then 1 else 0)

-- it is one of three
module _ (P : ℕ → Type 0) (s : ℕ) (zero_is : s ≡ 0 → P s) (one_is : s ≡ 1 → P s) (five_is : s ≡ 5 → P s) where
  of_whole : (memory refused : Bool) → s ≡ whole_status memory refused → P s
  of_whole true refused q = five_is q
  of_whole false true q = one_is q
  of_whole false false q = zero_is q

not_four : (memory refused : Bool) (s : ℕ) → s ≡ whole_status memory refused → s ≡ 4 → ⊥
not_four memory refused s q f =
    of_whole (λ s. ⊥) s (λ h. omega (arith, h, f)) (λ h. omega (arith, h, f)) (λ h. omega (arith, h, f)) memory refused q

-- what holds of the held parts with one fault holds of them with some
where_some : {S F : Type 0} (Q : Parts S → Type 0) (P : Parts S → F → Type 0) (f : F) (o : Option (Option (Parts S))) → IfSome o (λ held. IfSome held (λ parts. Q parts × P parts f))
    → IfSome o (λ held. IfSome held (λ parts. Q parts × ((f : F) × P parts f)))
where_some Q P f None h = h
where_some Q P f (Some None) h = h
where_some Q P f (Some (Some parts)) h = (h.0, (f, h.1))

module _ {S : Type 0} (told : S → Told) (words : List (List ℕ)) (setup : Setup) (form : setup_of words ≡ Ok setup) (old new : MakerTold S) (feed feed' : FeedTold) (status : ℕ) (t : Trace)
    (took : feed.left ≡ prepended t.taken feed'.left) where
  -- the causes of the three statuses that have one line each
  abbrev Lines : ℕ → Type 0
  Lines s = (s ≡ 2 → HaveNoForm words) × ((s ≡ 3 → AreRefused told words old) × (s ≡ 6 → IsTooLong feed feed'))

  no_line : (s k : ℕ) → s ≡ k → k ≢ 2 → k ≢ 3 → k ≢ 6 → Lines s
  no_line s k q two three six = (λ f. absurd (two (sym q ∙ f)), (λ f. absurd (three (sym q ∙ f)), λ f. absurd (six (sym q ∙ f))))

  zero_line : (s : ℕ) → s ≡ 0 → Lines s
  zero_line s q = no_line s 0 q (λ h. omega (arith, h)) (λ h. omega (arith, h)) (λ h. omega (arith, h))

  one_line : (s : ℕ) → s ≡ 1 → Lines s
  one_line s q = no_line s 1 q (λ h. omega (arith, h)) (λ h. omega (arith, h)) (λ h. omega (arith, h))

  four_line : (s : ℕ) → s ≡ 4 → Lines s
  four_line s q = no_line s 4 q (λ h. omega (arith, h)) (λ h. omega (arith, h)) (λ h. omega (arith, h))

  five_line : (s : ℕ) → s ≡ 5 → Lines s
  five_line s q = no_line s 5 q (λ h. omega (arith, h)) (λ h. omega (arith, h)) (λ h. omega (arith, h))

  lines_at : (e : Ending) (whole : Bool) → status ≡ (if whole then status_of e else 4) → Ends told setup old new feed feed' t e → Lines status
  lines_at e false q y = four_line status q
  lines_at (ending.Usage word) true q y = absurd y
  lines_at ending.MakerFailed true q y = four_line status q
  lines_at ending.Memory true q y = five_line status q
  lines_at (ending.Deploy d) true q y = (
    λ f. absurd (omega (arith, q, f)),
    (
      λ f. (setup, (form, where_some (AreFor setup) (λ parts d. IsStartRefusal told parts.ddl parts.lanes d) d old.held y.2)),
      λ f. absurd (omega (arith, q, f)),
    ),
  )
  lines_at (ending.LaneFailed lane) true q y = four_line status q
  lines_at ending.FeedFailed true q y = four_line status q
  lines_at ending.SinkFailed true q y = four_line status q
  lines_at ending.TooLong true q y = (λ f. absurd (omega (arith, q, f)), (λ f. absurd (omega (arith, q, f)), λ f. (t.taken, (took, omega (arith, y.1)))))
  lines_at (ending.Whole seen) true q y = of_whole Lines status (zero_line status) (one_line status) (five_line status) seen.memory seen.refused q

module _ {S : Type 0} (told : S → Told) (setup : Setup) (old new : MakerTold S) (feed feed' : FeedTold) (out out' : SinkTold) (status : ℕ) (t : Trace) (text : List ℕ) where
  rose_at : (e : Ending) (whole : Bool) → Prints whole out out' text → status ≡ (if whole then status_of e else 4) → (e ≡ ending.SinkFailed → whole ≡ false)
      → Ends told setup old new feed feed' t e → status ≡ 4 → SomeRose told old new feed feed' out out'
  rose_at e false p q k y f = inr (inr (inl p.1))
  rose_at (ending.Usage word) true p q k y f = absurd y
  rose_at ending.MakerFailed true p q k y f = inl y.0
  rose_at ending.Memory true p q k y f = absurd (omega (arith, q, f))
  rose_at (ending.Deploy d) true p q k y f = absurd (omega (arith, q, f))
  rose_at (ending.LaneFailed lane) true p q k y f = inr (inr (inr (lane, y.1)))
  rose_at ending.FeedFailed true p q k y f = inr (inl y.1)
  rose_at ending.SinkFailed true p q k y f = (let h : true ≡ false = k refl in cc)
  rose_at ending.TooLong true p q k y f = absurd (omega (arith, q, f))
  rose_at (ending.Whole seen) true p q k y f = absurd (not_four seen.memory seen.refused status q f)

  quiet_at : (e : Ending) (whole : Bool) → status ≡ (if whole then status_of e else 4) → Ends told setup old new feed feed' t e → status ≢ 4 → Quiet told old new feed feed'
  quiet_at e false q y n = absurd (n q)
  quiet_at (ending.Usage word) true q y n = absurd y
  quiet_at ending.MakerFailed true q y n = absurd (n q)
  quiet_at ending.Memory true q y n = y
  quiet_at (ending.Deploy d) true q y n = y.0
  quiet_at (ending.LaneFailed lane) true q y n = absurd (n q)
  quiet_at ending.FeedFailed true q y n = absurd (n q)
  quiet_at ending.SinkFailed true q y n = absurd (n q)
  quiet_at ending.TooLong true q y n = y.0
  quiet_at (ending.Whole seen) true q y n = y.0

-- where the status isn't 4, the text was printed whole
sink_at : (out out' : SinkTold) (text : List ℕ) (status k : ℕ) (whole : Bool) → Prints whole out out' text → status ≡ (if whole then k else 4) → status ≢ 4 → out'.faults ≡ out.faults
sink_at out out' text status k true p q n = ap (λ (o : SinkTold). o.faults) p
sink_at out out' text status k false p q n = absurd (n q)

-- where the status is 4, a last line was cut short
cut_at : (out out' : SinkTold) (text : List ℕ) (status k : ℕ) (whole : Bool) → Prints whole out out' text → status ≡ (if whole then k else 4) → k ≢ 4 → status ≡ 4 → whole ≡ false
cut_at out out' text status k true p q n f = absurd (n (sym q ∙ f))
cut_at out out' text status k false p q n f = refl

-- a status is that of the line or 4
other_than : (s k n : ℕ) (whole : Bool) → k ≢ n → 4 ≢ n → s ≡ (if whole then k else 4) → s ≡ n → ⊥
other_than s k n true a b q f = a (sym q ∙ f)
other_than s k n false a b q f = b (sym q ∙ f)

module _ {S : Type 0} (told : S → Told) (images : S → Image → Type 0) (words : List (List ℕ)) (old new : MakerTold S) (feed feed' : FeedTold) (out out' : SinkTold) (status : ℕ) where
  runs_causes : (setup : Setup) → setup_of words ≡ Ok setup → Runs told images setup old new feed feed' out out' status → Causes told words old new feed feed' out out' status
  runs_causes setup form r =
      let lines = lines_at told words setup form old new feed feed' status r.trace r.took r.end r.whole r.status_is r.ends in
      record {
        usage = lines.0;
        deploy = lines.1.0;
        rose = rose_at told setup old new feed feed' out out' status r.trace (replies_text r.trace.replies ++ last_line setup.conns r.end) r.end r.whole r.printed r.status_is r.cut r.ends;
        long = lines.1.1;
        quiet = quiet_at told setup old new feed feed' out out' status r.trace [] r.end r.whole r.status_is r.ends;
        sink_stays = sink_at out out' (replies_text r.trace.replies ++ last_line setup.conns r.end) status (status_of r.end) r.whole r.printed r.status_is;
      }

  -- nobody but the sink was asked anything, and the status of the one line is 2 or 5
  line_causes : (text : List ℕ) (k : ℕ) (whole : Bool) → (status ≡ 2 → HaveNoForm words) → k ≢ 3 → k ≢ 4 → k ≢ 6 → Prints whole out out' text → status ≡ (if whole then k else 4) → new ≡ old → feed' ≡ feed
      → Causes told words old new feed feed' out out' status
  line_causes text k whole u three four six p q m n = record {
    usage = u;
    deploy = λ f. absurd (other_than status k 3 whole three (λ h. omega (arith, h)) q f);
    rose = λ f. inr (inr (inl ((subst (λ (b : Bool). Prints b out out' text) (cut_at out out' text status k whole p q four f) p).1)));
    long = λ f. absurd (other_than status k 6 whole six (λ h. omega (arith, h)) q f);
    quiet = λ f. record {
      maker = ap (λ (m : MakerTold _). m.faults) m;
      feed_stays = ap (λ (x : FeedTold). x.faults) n;
      lanes = where-same old.held new.held (λ p q. counts told q ≡ counts told p) (ap (λ (m : MakerTold _). m.held) m) (λ p. refl);
    };
    sink_stays = sink_at out out' text status k whole p q;
  }

  words_causes : (r : Result Setup ℕ) → setup_of words ≡ r → RunsWords told images r old new feed feed' out out' status → Causes told words old new feed feed' out out' status
  words_causes (Ok setup) form r = runs_causes setup form r
  words_causes (Err word) form r =
      line_causes (last_line [] (ending.Usage word)) 2 r.whole (λ f. (word, form)) (λ h. omega (arith, h)) (λ h. omega (arith, h)) (λ h. omega (arith, h)) r.printed r.status_is r.maker r.unread

  -- each status has its cause
  pub causes-of : Headline told images words old new feed feed' out out' status → Causes told words old new feed feed' out out' status
  causes-of (inl r) = words_causes (setup_of words) refl r
  causes-of (inr r) =
      line_causes (last_line [] ending.Memory) 5 r.whole (λ f. absurd (other_than status 5 2 r.whole (λ h. omega (arith, h)) (λ h. omega (arith, h)) r.status_is f))
      (λ h. omega (arith, h)) (λ h. omega (arith, h)) (λ h. omega (arith, h)) r.printed r.status_is r.maker r.unread

-- no more is taken than there is
at_most : (taken script : List ℕ) (left rest : Option (List ℕ)) → left ≡ prepended taken rest → left ≡ Some script → length taken ≤ length script
at_most taken script left None t e = (let h : None ≡ Some script = sym t ∙ e in cc)
at_most taken script left (Some xs) t e =
    let both : Some script ≡ Some (taken ++ xs) = sym e ∙ t in
    let h : script ≡ taken ++ xs = cc in
    omega (arith, ap length h, length-append taken xs)

-- all is taken where nothing is left
all_taken : (taken script : List ℕ) (left rest : Option (List ℕ)) → left ≡ prepended taken rest → left ≡ Some script → IsAtEnd rest → taken ≡ script
all_taken taken script left None t e a = (let h : None ≡ Some script = sym t ∙ e in cc)
all_taken taken script left (Some xs) t e a =
    let both : Some script ≡ Some (taken ++ xs) = sym e ∙ t in
    let h : script ≡ taken ++ xs = cc in
    sym (h ∙ ap (λ l. taken ++ l) a ∙ append-nil taken)

take_within : (n : ℕ) (xs ys : List ℕ) → n ≤ length xs → take n (xs ++ ys) ≡ take n xs
take_within zero xs ys h = refl
take_within (suc n) [] ys h = absurd (omega (arith, h))
take_within (suc n) (x ∷ xs) ys h = ap (λ l. x ∷ l) (take_within n xs ys (omega (arith, h)))

-- the front of what is taken is that of what there is
same_front : (taken script : List ℕ) (left rest : Option (List ℕ)) (n : ℕ) → left ≡ prepended taken rest → left ≡ Some script → n ≤ length taken → take n taken ≡ take n script
same_front taken script left None n t e k = (let h : None ≡ Some script = sym t ∙ e in cc)
same_front taken script left (Some xs) n t e k =
    let both : Some script ≡ Some (taken ++ xs) = sym e ∙ t in
    let h : script ≡ taken ++ xs = cc in
    sym (ap (take n) h ∙ take_within n taken xs k)

no_memory_in : (a b : Bool) (s : ℕ) → s ≡ whole_status a b → s ≢ 5 → a ≡ false
no_memory_in true b s q n = absurd (n q)
no_memory_in false b s q n = refl

status_in : (a b : Bool) (s : ℕ) → s ≡ whole_status a b → s ≢ 5 → s ≡ (if b then 1 else 0)
status_in true b s q n = absurd (n q)
status_in false b s q n = q

module _ {S : Type 0} (told : S → Told) (setup : Setup) (old new : MakerTold S) (feed feed' : FeedTold) (out out' : SinkTold) (status : ℕ) (t : Trace)
    (parts : Parts S) (held : old.held ≡ Some (Some parts)) (n4 : status ≢ 4) (n5 : status ≢ 5) where
  -- what holds where parts are held holds of these
  held_at : (P : Parts S → Type 0) → IfSome old.held (λ held. IfSome held P) → P parts
  held_at P h = subst (λ (o : Option (Option (Parts S))). IfSome o (λ held. IfSome held P)) held h

  abbrev Printed : Ending → Bool → Type 0
  Printed e whole = Prints whole out out' (replies_text t.replies ++ last_line setup.conns e)

  module _ (f : DeployFault) (refused : Refused told parts f) where
    abbrev Line : Type 0
    Line = Prints true out out' (last_line [] (ending.Deploy f)) × ((status ≡ 3) × (feed' ≡ feed))

    no_opening : (cat : Defined) → Opens told cat parts → Line
    no_opening cat o = absurd (not_refused told parts cat f o.deploys o.reads refused)

    deploy_line_at : (g : DeployFault) → f ≡ g → t.replies ≡ [] → Printed (ending.Deploy g) true → Prints true out out' (last_line [] (ending.Deploy f))
    deploy_line_at g e n p = subst (λ (g : DeployFault). Prints true out out' (last_line [] (ending.Deploy g))) (sym e) (subst (λ (rs : List Reply). Prints true out out' (replies_text rs ++ last_line setup.conns (ending.Deploy g))) n p)

    deploy_at : (e : Ending) (whole : Bool) → Printed e whole → status ≡ (if whole then status_of e else 4) → Ends told setup old new feed feed' t e → Line
    deploy_at e false p q y = absurd (n4 q)
    deploy_at (ending.Usage word) true p q y = absurd y
    deploy_at ending.MakerFailed true p q y = absurd (n4 q)
    deploy_at ending.Memory true p q y = absurd (n5 q)
    deploy_at (ending.Deploy g) true p q y =
        let e = one_refusal told parts f g refused (held_at (λ parts. AreFor setup parts × IsStartRefusal told parts.ddl parts.lanes g) y.2).1 in
        (deploy_line_at g e y.1.none p, (q, y.1.unread))
    deploy_at (ending.LaneFailed lane) true p q y = absurd (n4 q)
    deploy_at ending.FeedFailed true p q y = absurd (n4 q)
    deploy_at ending.SinkFailed true p q y = absurd (n4 q)
    deploy_at ending.TooLong true p q y = no_opening t.cat (held_at (Opens told t.cat) y.2.opens)
    deploy_at (ending.Whole seen) true p q y = no_opening t.cat (held_at (Opens told t.cat) y.4.opens)

  module _ (s : Sound told parts feed) (world_is : t.world ≡ held_world told t.cat old.held) (took : feed.left ≡ prepended t.taken feed'.left) where
    -- the world that the parts hold
    abbrev world : List (List Cells)
    world = (world_told told s.cat parts s.tells s.opens).0

    holds_it : world_held told s.cat parts ≡ Some world
    holds_it = (world_told told s.cat parts s.tells s.opens).1

    -- the replies are those over what the parts define and hold
    replies_at : (pieces : List Piece) → AnsweredAll told setup old t pieces → RepliesToAll s.cat (Some world) pieces t.replies
    replies_at pieces y =
        let c : t.cat ≡ s.cat = one_catalog told parts.ddl parts.lanes t.cat s.cat (held_at (Opens told t.cat) y.opens).deploys s.opens.deploys in
        let v : t.world ≡ Some world = world_is ∙ ap (held_world told t.cat) held ∙ ap (λ (d : Defined). world_held told d parts) c ∙ holds_it in
        subst (λ (d : Defined). RepliesToAll d (Some world) pieces t.replies) c (subst (λ (v : Option (List (List Cells))). RepliesToAll t.cat v pieces t.replies) v y.replies)

    whole_at : (seen : Seen) → Printed (ending.Whole seen) true → status ≡ whole_status seen.memory seen.refused → Ends told setup old new feed feed' t (ending.Whole seen)
        → AnswersWhole told s.cat parts s.script out out' status
    whole_at seen p q y = record {
      world = world;
      holds_it = holds_it;
      replies = t.replies;
      each = subst (λ (bs : List ℕ). RepliesToAll s.cat (Some world) (statements_of bs true) t.replies) (all_taken t.taken s.script feed.left feed'.left took s.input y.2) (replies_at (statements_of t.taken true) y.4);
      printed = subst (λ (text : List ℕ). Prints true out out' text) (append-nil (replies_text t.replies)) p;
      no_memory = ap (λ (x : Seen). x.memory) (sym y.3) ∙ no_memory_in seen.memory seen.refused status q n5;
      status_is = status_in seen.memory seen.refused status q n5 ∙ ap (λ (x : Seen). if x.refused then 1 else 0) y.3;
    }

    front_at : Printed ending.TooLong true → status ≡ 6 → Ends told setup old new feed feed' t ending.TooLong → AnswersFront told s.cat parts s.script out out' status
    front_at p q y = record {
      world = world;
      holds_it = holds_it;
      replies = t.replies;
      each = subst (λ (bs : List ℕ). RepliesToAll s.cat (Some world) (statements_of bs false) t.replies) (same_front t.taken s.script feed.left feed'.left script_limit took s.input (omega (arith, y.1))) (replies_at (statements_of (take script_limit t.taken) false) y.2);
      printed = p;
      status_is = q;
    }

    -- a script is answered whole, or up to the limit
    abbrev Answered : Type 0
    Answered = (length s.script ≤ script_limit → AnswersWhole told s.cat parts s.script out out' status) × (script_limit < length s.script → AnswersFront told s.cat parts s.script out out' status)

    answered_at : (e : Ending) (whole : Bool) → Printed e whole → status ≡ (if whole then status_of e else 4) → Ends told setup old new feed feed' t e → Answered
    answered_at e false p q y = absurd (n4 q)
    answered_at (ending.Usage word) true p q y = absurd y
    answered_at ending.MakerFailed true p q y = absurd (n4 q)
    answered_at ending.Memory true p q y = absurd (n5 q)
    answered_at (ending.Deploy f) true p q y =
        absurd (not_refused told parts s.cat f s.opens.deploys s.opens.reads
        (told_refusal told parts f s.tells (held_at (λ parts. AreFor setup parts × IsStartRefusal told parts.ddl parts.lanes f) y.2).1))
    answered_at (ending.LaneFailed lane) true p q y = absurd (n4 q)
    answered_at ending.FeedFailed true p q y = absurd (n4 q)
    answered_at ending.SinkFailed true p q y = absurd (n4 q)
    answered_at ending.TooLong true p q y = (λ k. absurd (omega (arith, y.1, k, at_most t.taken s.script feed.left feed'.left took s.input)), λ k. front_at p q y)
    answered_at (ending.Whole seen) true p q y =
        (λ k. whole_at seen p q y, λ k. absurd (omega (arith, y.1, k, ap length (all_taken t.taken s.script feed.left feed'.left took s.input y.2))))

module _ {S : Type 0} (told : S → Told) (images : S → Image → Type 0) (words : List (List ℕ)) (old new : MakerTold S) (feed feed' : FeedTold) (out out' : SinkTold) (status : ℕ)
    (n4 : status ≢ 4) (n5 : status ≢ 5) where
  unstarved : (whole : Bool) → status ≡ (if whole then 5 else 4) → ⊥
  unstarved true q = n5 q
  unstarved false q = n4 q

  -- words of the form were run
  runs_at : (setup : Setup) → setup_of words ≡ Ok setup → Headline told images words old new feed feed' out out' status → Runs told images setup old new feed feed' out out' status
  runs_at setup form (inl r) = subst (λ (x : Result Setup ℕ). RunsWords told images x old new feed feed' out out' status) form r
  runs_at setup form (inr r) = absurd (unstarved r.whole r.status_is)

  usage_line : (word : ℕ) (whole : Bool) → Prints whole out out' (last_line [] (ending.Usage word)) → status ≡ (if whole then 2 else 4) → Prints true out out' (last_line [] (ending.Usage word)) × (status ≡ 2)
  usage_line word true p q = (p, q)
  usage_line word false p q = absurd (n4 q)

  misused_at : (word : ℕ) → setup_of words ≡ Err word → Headline told images words old new feed feed' out out' status → Prints true out out' (last_line [] (ending.Usage word)) × (status ≡ 2)
  misused_at word form (inl r) = (let m : Misused word old new feed feed' out out' status = subst (λ (x : Result Setup ℕ). RunsWords told images x old new feed feed' out out' status) form r in usage_line word m.whole m.printed m.status_is)
  misused_at word form (inr r) = absurd (unstarved r.whole r.status_is)

  answered_by : (given : Given told words old) (s : Sound told given.parts feed) → Runs told images given.setup old new feed feed' out out' status
      → (length s.script ≤ script_limit → AnswersWhole told s.cat given.parts s.script out out' status) × (script_limit < length s.script → AnswersFront told s.cat given.parts s.script out out' status)
  answered_by given s r = answered_at told given.setup old new feed feed' out out' status r.trace given.parts given.held n4 n5 s r.world_is r.took r.end r.whole r.printed r.status_is r.ends

  answers_from : Headline told images words old new feed feed' out out' status → Answers told words old feed feed' out out' status
  answers_from h = record {
    usage = λ word form. misused_at word form h;
    deploy = λ given f refused. (let r = runs_at given.setup given.form h in
        deploy_at told given.setup old new feed feed' out out' status r.trace given.parts given.held n4 n5 f refused r.end r.whole r.printed r.status_is r.ends);
    whole = λ given s. (answered_by given s (runs_at given.setup given.form h)).0;
    front = λ given s. (answered_by given s (runs_at given.setup given.form h)).1;
  }

-- a run to which nothing was wanting answers all
pub complete-of : {S : Type 0} (told : S → Told) (images : S → Image → Type 0) (words : List (List ℕ)) (old new : MakerTold S) (feed feed' : FeedTold) (out out' : SinkTold) (status : ℕ)
    → Headline told images words old new feed feed' out out' status → Complete told words old feed feed' out out' status
complete-of told images words old new feed feed' out out' status h n4 n5 = answers_from told images words old new feed feed' out out' status n4 n5 h
