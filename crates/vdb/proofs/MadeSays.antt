-- What a run over parts that were made says.
use Rattle.std.proofs.Common.{◌≡◌, inl, inr, ℕ, Bool, true, false, not, List, [], ◌∷◌, ◌++◌, Option, Some, None, take, refl, sym, ap, ◌∙◌, subst}
use Rattle.std.proofs.lemmas.List.{take_all, append-nil}
use Rattle.vdb_base.specs.Feeding.{FeedTold, prepended}
use Rattle.vdb_base.specs.Printing.{SinkTold, Prints}
use Rattle.vdb_model.specs.declared.reply.Reply.{Reply}
use Rattle.vdb_model.specs.declared.reply.Reply.TheVariants as reply
use Rattle.vdb_model.specs.Defined.{Defined, nothing_defined}
use Rattle.vdb_model.specs.Rows.{Cells}
use Rattle.resource.specs.Images.{Image}
use Rattle.resource.specs.Told.{Told}
use Rattle.vdb_session.specs.declared.parts.Opened.{Opened}
use Rattle.vdb_session.specs.declared.parts.Parts.{Parts}
use Rattle.vdb_session.specs.declared.parts.StartFault.{StartFault}
use Rattle.vdb_session.specs.declared.parts.StartFault.TheVariants as fault
use Rattle.vdb_session.specs.Answer.{world_of}
use Rattle.vdb_session.specs.Lanes.{LaneCounts, RoseAt, counts}
use Rattle.vdb_session.specs.Meaning.{Done}
use Rattle.vdb_session.specs.Replies.{Replies, RepliesToAll, replies_text}
use Rattle.vdb_session.specs.Script.{Piece, statements_of}
use Rattle.vdb_session.specs.Starting.{failed_lane, IsStartRefusal, HasReason, Started}
use Rattle.vdb.specs.declared.answering.Answers.{Answers}
use Rattle.vdb.specs.declared.answering.Answers.TheVariants as answers
use Rattle.vdb.specs.declared.answering.Seen.{Seen}
use Rattle.vdb.specs.declared.ending.Ending.{Ending}
use Rattle.vdb.specs.declared.reading.ReadEnd.{ReadEnd}
use Rattle.vdb.specs.declared.reading.ReadEnd.TheVariants as end
use Rattle.vdb.specs.declared.reading.TheConstants.{SCRIPT_LIMIT}
use Rattle.vdb.specs.declared.words.Setup.{Setup}
use Rattle.vdb.specs.Answering.{RepliesAll, Answered, IsAnswered}
use Rattle.vdb.specs.Reading.{Reads}
use Rattle.vdb.specs.Ending.{start_ending, ending_of}
use Rattle.vdb.specs.Making.{MakerTold, Takes, GivesBack, AreFor}
use Rattle.vdb.specs.Session.{pieces_read}
use Rattle.vdb.specs.Running.{IsMadeRun, IsRun}
use Rattle.vdb.specs.Headline.{held_world, world_held, Opens, AnsweredAll, Quiet, Ends}
use Rattle.vdb.proofs.RunSays.{is_sink, trace_of, Says, Says-nothing, Says-not_made, handed_back, stays_on, where-held, where-both, held-again, lane-rose}

-- replies over rows that are told are replies over rows that are not
Done-untold : (cat : Defined) (w : Option (List (List Cells))) (p : Piece) (r : Reply) → Done cat w p r → Done cat None p r
Done-untold cat w p (reply.Rows names rows) d = record { query = d.query; means = d.means; names_are = d.names_are; rows_are = tt }
Done-untold cat w p (reply.Refused refusal) d = d
Done-untold cat w p reply.Memory d = d
Done-untold cat w p (reply.Updated count) d = d
Done-untold cat w p reply.Done d = d
Done-untold cat w p reply.Started d = d
Done-untold cat w p reply.Committed d = d
Done-untold cat w p reply.RolledBack d = d
Done-untold cat w p (reply.Asked asks count) d = d

RepliesAll-untold : (cat : Defined) (w : Option (List (List Cells))) (ps : List Piece) (rs : List Reply) → RepliesAll cat w ps rs → RepliesAll cat None ps rs
RepliesAll-untold cat w [] [] d = tt
RepliesAll-untold cat w [] (r ∷ rs) d = absurd d
RepliesAll-untold cat w (p ∷ ps) [] d = absurd d
RepliesAll-untold cat w (p ∷ ps) (r ∷ rs) d = (Done-untold cat w p r d.0, RepliesAll-untold cat w ps rs d.1)

-- replies over the rows of parts that were made are replies over those that are told
RepliesAll-held : {S : Type 0} (told : S → Told) (cat : Defined) (w : Option (List (List Cells))) (o mid : Option (Option (Parts S))) (parts : Parts S) (ps : List Piece) (rs : List Reply)
    → Takes o mid parts → w ≡ world_held told cat parts → RepliesAll cat w ps rs → RepliesAll cat (held_world told cat o) ps rs
RepliesAll-held told cat w None mid parts ps rs t e d = RepliesAll-untold cat w ps rs d
RepliesAll-held told cat w (Some h) mid parts ps rs t e d =
    subst (λ (h : Option (Parts _)). RepliesAll cat (held_world told cat (Some h)) ps rs) (sym t.0) (subst (λ (w : Option (List (List Cells))). RepliesAll cat w ps rs) e d)

Replies-first : (cat : Defined) (w : Option (List (List Cells))) (ps left : List Piece) (rs : List Reply) → RepliesAll cat w ps rs → Replies cat w (ps ++ left) rs
Replies-first cat w [] left [] d = tt
Replies-first cat w [] left (r ∷ rs) d = absurd d
Replies-first cat w (p ∷ ps) left [] d = tt
Replies-first cat w (p ∷ ps) left (r ∷ rs) d = (d.0, Replies-first cat w ps left rs d.1)

Replies-none : (cat : Defined) (w : Option (List (List Cells))) (ps : List Piece) (rs : List Reply) → Replies cat w [] rs → Replies cat w ps rs
Replies-none cat w ps [] d = tt
Replies-none cat w [] (r ∷ rs) d = d
Replies-none cat w (p ∷ ps) (r ∷ rs) d = absurd d

Replies-all : (cat : Defined) (w : Option (List (List Cells))) (ps : List Piece) (rs : List Reply) → RepliesAll cat w ps rs → RepliesToAll cat w ps rs
Replies-all cat w [] [] d = (tt, refl)
Replies-all cat w [] (r ∷ rs) d = absurd d
Replies-all cat w (p ∷ ps) [] d = absurd d
Replies-all cat w (p ∷ ps) (r ∷ rs) d = let more = Replies-all cat w ps rs d.1 in ((d.0, more.0), ap Prim.Native.Nat.suc more.1)

start-no_sink : (f : StartFault) → is_sink (start_ending f) ≡ false
start-no_sink (fault.Refused d) = refl
start-no_sink (fault.Failed lane) = refl
start-no_sink fault.Memory = refl

-- whether the feed came to its end within the limit
has_ended : ReadEnd → Bool
has_ended end.Whole = true
has_ended end.TooLong = false
has_ended end.Failed = false
has_ended end.Memory = false

-- replies to the statements of what was read are replies to those of what was taken
read-replies : (cat : Defined) (w : Option (List (List Cells))) (feed feed' : FeedTold) (taken bytes : List ℕ) (read : ReadEnd) (rs : List Reply)
    → Reads feed feed' taken bytes read → Replies cat w (pieces_read bytes read) rs → Replies cat w (statements_of (take SCRIPT_LIMIT taken) (has_ended read)) rs
unfolding has_ended
read-replies cat w feed feed' taken bytes end.Whole rs r d = subst (λ (bs : List ℕ). Replies cat w (statements_of bs true) rs) (r.0 ∙ sym (take_all SCRIPT_LIMIT taken r.1)) d
read-replies cat w feed feed' taken bytes end.TooLong rs r d = subst (λ (bs : List ℕ). Replies cat w (statements_of bs false) rs) r.0 d
read-replies cat w feed feed' taken bytes end.Failed rs r d = subst (λ (bs : List ℕ). Replies cat w (statements_of bs false) rs) (r.0 ∙ sym (take_all SCRIPT_LIMIT taken r.1)) d
read-replies cat w feed feed' taken bytes end.Memory rs r d = Replies-none cat w (statements_of (take SCRIPT_LIMIT taken) false) rs d

module _ {S : Type 0} (told : S → Told) (images : S → Image → Type 0) (setup : Setup) (old new mid : MakerTold S) (feed feed' : FeedTold) (out out' : SinkTold) (parts : Parts S) where
  -- the start was refused
  refused-ends : (after : Parts S) (f : StartFault) → AreFor setup parts → Takes old.held mid.held parts → GivesBack mid.held new.held after → new.faults ≡ old.faults → feed' ≡ feed
      → LaneCounts (failed_lane f) (counts told parts) (counts told after) → HasReason told parts.ddl parts.lanes f
      → Ends told setup old new feed feed' (trace_of told old nothing_defined [] []) (start_ending f)
  refused-ends after (fault.Refused d) l t g n e c r = (
    record { maker = n; feed_stays = ap (λ (x : FeedTold). x.faults) e; lanes = where-both old.held mid.held new.held parts after (λ p q. counts told q ≡ counts told p) t g c },
    record { unread = e; none = refl },
    where-held old.held mid.held parts (λ p. AreFor setup p × IsStartRefusal told p.ddl p.lanes d) t (l, r),
  )
  refused-ends after (fault.Failed lane) l t g n e c r = (n, lane-rose told lane old.held mid.held new.held parts after t g c)
  refused-ends after fault.Memory l t g n e c r =
      record { maker = n; feed_stays = ap (λ (x : FeedTold). x.faults) e; lanes = where-both old.held mid.held new.held parts after (λ p q. counts told q ≡ counts told p) t g c }

  module _ (started after : Opened S) (l : AreFor setup parts) (t : Takes old.held mid.held parts) (g : GivesBack mid.held new.held after.parts) (n : new.faults ≡ old.faults)
      (s : Started told parts started) (bytes taken : List ℕ) where
    -- the replies, over the rows that are told
    all-held : (ps : List Piece) (rs : List Reply) → RepliesAll started.catalog (world_of told started) ps rs → RepliesAll started.catalog (held_world told started.catalog old.held) ps rs
    all-held ps rs d = RepliesAll-held told started.catalog (world_of told started) old.held mid.held parts ps rs t s.world d

    quiet : feed'.faults ≡ feed.faults → counts told after.parts ≡ counts told started.parts → Quiet told old new feed feed'
    quiet e c = record { maker = n; feed_stays = e; lanes = where-both old.held mid.held new.held parts after.parts (λ p q. counts told q ≡ counts told p) t g (c ∙ s.counts_stay) }

    -- every statement was answered
    all-answered : (ps : List Piece) (seen : Seen) (a : Answered told ps [] started after out out' true None seen) → AnsweredAll told setup old (trace_of told old started.catalog taken a.replies) ps
    all-answered ps seen a =
        let cat = started.catalog in
        let w = held_world told cat old.held in
        record {
          made = where-held old.held mid.held parts (AreFor setup) t l;
          opens = where-held old.held mid.held parts (Opens told cat) t record { deploys = s.deploys; reads = s.reads };
          replies = subst (λ (ps : List Piece). RepliesToAll cat w ps a.replies) (sym (append-nil a.first) ∙ sym a.split) (Replies-all cat w a.first a.replies (all-held a.first a.replies a.each));
        }

    -- what the answers say, whatever the ending
    answered-says : (read : ReadEnd) (some : List Piece) (whole : Bool) (f : Option ℕ) (seen : Seen) (e : Ending)
        → feed.left ≡ prepended taken feed'.left → Reads feed feed' taken bytes read
        → (a : Answered told (pieces_read bytes read) some started after out out' whole f seen) → not (is_sink e) ≡ whole
        → Ends told setup old new feed feed' (trace_of told old started.catalog taken a.replies) e → Says told images setup old new feed feed' out out' e
    answered-says read some whole f seen e took r a k y =
        let cat = started.catalog in
        let w = held_world told cat old.held in
        record {
          cat = cat;
          taken = taken;
          replies = a.replies;
          ended = has_ended read;
          took = took;
          each = read-replies cat w feed feed' taken bytes read a.replies r (subst (λ (ps : List Piece). Replies cat w ps a.replies) (sym a.split) (Replies-first cat w a.first some a.replies (all-held a.first a.replies a.each)));
          printed = subst (λ (b : Bool). Prints b out out' (replies_text a.replies)) (sym k) a.printed;
          ends = y;
          kept = held-again told images old.held mid.held new.held parts after.parts t g
              (handed_back told images parts after.parts (stays_on told parts started after s.stays a.stays));
        }

    -- a started run, by its end of reading and its answers
    script-says : (read : ReadEnd) (answers : Answers) → feed.left ≡ prepended taken feed'.left → Reads feed feed' taken bytes read
        → IsAnswered told (pieces_read bytes read) started after out out' answers → Says told images setup old new feed feed' out out' (ending_of read answers)
    script-says read (answers.LaneFailed lane) took r a =
        answered-says read a.0 true (Some lane) a.1 _ took r a.2 refl
        (n, lane-rose told lane old.held mid.held new.held parts after.parts t g (subst (λ (ns : List ℕ). RoseAt lane ns (counts told after.parts)) s.counts_stay a.2.lanes))
    script-says read answers.SinkFailed took r a = answered-says read a.0 false None a.1 _ took r a.2 refl n
    script-says end.Whole (answers.Whole seen) took r a =
        answered-says end.Whole [] true None seen _ took r a refl (
          quiet r.3 a.lanes,
          r.1,
          r.2,
          a.seen_is,
          subst (λ (bs : List ℕ). AnsweredAll told setup old (trace_of told old started.catalog taken a.replies) (statements_of bs true)) r.0 (all-answered (statements_of bytes true) seen a),
        )
    script-says end.TooLong (answers.Whole seen) took r a =
        answered-says end.TooLong [] true None seen _ took r a refl (
          quiet r.2 a.lanes,
          r.1,
          subst (λ (bs : List ℕ). AnsweredAll told setup old (trace_of told old started.catalog taken a.replies) (statements_of bs false)) r.0 (all-answered (statements_of bytes false) seen a),
        )
    script-says end.Failed (answers.Whole seen) took r a =
        answered-says end.Failed [] true None seen _ took r a refl (
          n,
          r.2,
          r.1,
          subst (λ (bs : List ℕ). AnsweredAll told setup old (trace_of told old started.catalog taken a.replies) (statements_of bs false)) r.0 (all-answered (statements_of bytes false) seen a),
        )
    script-says end.Memory (answers.Whole seen) took r a = answered-says end.Memory [] true None seen _ took r a refl (quiet r a.lanes)

pub Says-made : {S : Type 0} (told : S → Told) (images : S → Image → Type 0) (setup : Setup) (old new : MakerTold S) (feed feed' : FeedTold) (out out' : SinkTold) (e : Ending)
    → IsMadeRun told images setup old new feed feed' out out' e → Says told images setup old new feed feed' out out' e
Says-made told images setup old new feed feed' out out' e r =
    let n : new.faults ≡ old.faults = r.keeps.1 ∙ r.made.count in
    elim r.session [
      | inl s ↦
          let g : GivesBack r.mid.held new.held s.refused.parts = subst (λ (p : Parts _). GivesBack r.mid.held new.held p) s.parts r.keeps.0 in
          subst (λ (e : Ending). Says told images setup old new feed feed' out out' e) (sym s.ending_is)
          (Says-nothing told images setup old new feed feed' out out' (start_ending s.refused.fault) s.unread s.silent (start-no_sink s.refused.fault)
          (refused-ends told images setup old new r.mid feed feed' out out' r.parts s.refused.parts s.refused.fault r.made.are_for r.made.takes g n s.unread s.start.lanes s.start.why)
          (held-again told images old.held r.mid.held new.held r.parts s.refused.parts r.made.takes g s.start.back))
      | inr s ↦
          let g : GivesBack r.mid.held new.held s.after.parts = subst (λ (p : Parts _). GivesBack r.mid.held new.held p) s.parts r.keeps.0 in
          subst (λ (e : Ending). Says told images setup old new feed feed' out out' e) (sym s.run.ending_is)
          (script-says told images setup old new r.mid feed feed' out out' r.parts s.started s.after r.made.are_for r.made.takes g n s.start s.run.bytes s.run.is_read.taken
          s.run.read s.run.answers s.run.is_read.took s.run.is_read.ends s.run.is_answered)
    ]

pub Says-run : {S : Type 0} (told : S → Told) (images : S → Image → Type 0) (setup : Setup) (old new : MakerTold S) (feed feed' : FeedTold) (out out' : SinkTold) (e : Ending)
    → IsRun told images setup old new feed feed' out out' e → Says told images setup old new feed feed' out out' e
Says-run told images setup old new feed feed' out out' e (inl r) = Says-not_made told images setup old new feed feed' out out' e r
Says-run told images setup old new feed feed' out out' e (inr r) = Says-made told images setup old new feed feed' out out' e r
