-- What a run says: the text that it printed, and the causes of its ending.
use Rattle.std.proofs.Common.{◌≡◌, inl, inr, ℕ, Bool, true, false, not, List, [], ◌∷◌, Option, Some, None, map, take, IfSome, is_some, refl, sym, ap, ◌∙◌, subst}
use Rattle.vdb_base.specs.Feeding.{FeedTold, prepended}
use Rattle.vdb_base.specs.Printing.{SinkTold, Prints}
use Rattle.vdb_base.proofs.Writing.{Prints-nil}
use Rattle.vdb_model.specs.declared.reply.Reply.{Reply}
use Rattle.vdb_model.specs.Defined.{Defined, nothing_defined}
use Rattle.resource.specs.declared.lane.Lane.{Lane}
use Rattle.resource.specs.Images.{Image}
use Rattle.resource.specs.Lanes.{told_of}
use Rattle.resource.specs.Told.{Told}
use Rattle.vdb_session.specs.declared.parts.Opened.{Opened}
use Rattle.vdb_session.specs.declared.parts.Parts.{Parts}
use Rattle.vdb_session.specs.Answer.{EngineStays}
use Rattle.vdb_session.specs.Lanes.{RoseAt, Stays, HandedBack, DropsBranch, KeepsStore, AllKeep, KeepStores, attached, counts}
use Rattle.vdb_session.proofs.ServedLanes.{head_same, tail_same}
use Rattle.vdb_session.specs.Replies.{Replies, replies_text}
use Rattle.vdb_session.specs.Script.{statements_of}
use Rattle.vdb.specs.declared.ending.Ending.{Ending}
use Rattle.vdb.specs.declared.ending.Ending.TheVariants as ending
use Rattle.vdb.specs.declared.reading.TheConstants.{SCRIPT_LIMIT}
use Rattle.vdb.specs.declared.words.Setup.{Setup}
use Rattle.vdb.specs.Making.{MakerTold, Takes, GivesBack}
use Rattle.vdb.specs.Running.{IsNotMade}
use Rattle.vdb.specs.Headline.{HeldAgain, LaneRose, held_world, Trace, Ends}

abbrev pub is_sink : Ending → Bool
is_sink ending.SinkFailed = true
is_sink e = false

-- what was taken and replied, over what is defined
abbrev pub trace_of : {S : Type 0} → (S → Told) → MakerTold S → Defined → List ℕ → List Reply → Trace
trace_of told old cat taken replies = record { taken = taken; cat = cat; world = held_world told cat old.held; replies = replies }

-- what a run says: what it took, replied and printed, and why it ended so
pub record Says {S : Type 0} (told : S → Told) (images : S → Image → Type 0) (setup : Setup) (old new : MakerTold S) (feed feed' : FeedTold) (out out' : SinkTold) (e : Ending) : Type 0 where
  pub cat : Defined
  pub taken : List ℕ
  pub replies : List Reply
  pub ended : Bool
  pub took : feed.left ≡ prepended taken feed'.left
  pub each : Replies cat (held_world told cat old.held) (statements_of (take SCRIPT_LIMIT taken) ended) replies
  pub printed : Prints (not (is_sink e)) out out' (replies_text replies)
  pub ends : Ends told setup old new feed feed' (trace_of told old cat taken replies) e
  pub kept : HeldAgain told images old.held new.held

-- a store that was kept stays so while it is asked
keep_on : (t u v : Told) → KeepsStore t u → attached v ≡ attached u → KeepsStore t v
keep_on t u v k e = record {
  caps = ap (λ (t : Told). t.caps) e ∙ k.caps;
  tells = ap (λ (t : Told). is_some t.reads) e ∙ k.tells;
  reads = elim k.reads [
    | inl same ↦ inl (ap (λ (t : Told). t.reads) e ∙ same)
    | inr lost ↦ inr (record {
      defs = lost.defs;
      attached = ap (λ (t : Told). t.defs) e ∙ lost.attached;
      reads = subst (λ (reads : Option Image). IfSome t.reads (λ was. IfSome reads (λ now. DropsBranch (was lost.defs) (now lost.defs)))) (sym (ap (λ (t : Told). t.reads) e)) lost.reads;
    })
  ];
}

all_keep_on : {S : Type 0} (told : S → Told) (olds mids news : List (Lane S)) → AllKeep told olds mids → map attached (told_of told news) ≡ map attached (told_of told mids) → AllKeep told olds news
all_keep_on told [] [] [] k e = tt
all_keep_on told [] [] (n ∷ ns) k e = cc
all_keep_on told [] (m ∷ ms) ns k e = absurd k
all_keep_on told (o ∷ os) [] ns k e = absurd k
all_keep_on told (o ∷ os) (m ∷ ms) [] k e = cc
all_keep_on told (o ∷ os) (m ∷ ms) (n ∷ ns) k e = (
  keep_on (told o.res) (told m.res) (told n.res) k.0 (head_same (attached (told n.res)) (attached (told m.res)) (map attached (told_of told ns)) (map attached (told_of told ms)) e),
  all_keep_on told os ms ns k.1 (tail_same (attached (told n.res)) (attached (told m.res)) (map attached (told_of told ns)) (map attached (told_of told ms)) e),
)

all_keep_same : {S : Type 0} (told : S → Told) (lanes : List (Lane S)) → AllKeep told lanes lanes
all_keep_same told [] = tt
all_keep_same told (lane ∷ lanes) = (record { caps = refl; tells = refl; reads = inl refl }, all_keep_same told lanes)

kept_stores : {S : Type 0} (told : S → Told) (images : S → Image → Type 0) (olds news : List (Lane S)) → AllKeep told olds news → KeepStores told images olds news
kept_stores told images [] [] k = tt
kept_stores told images [] (n ∷ ns) k = absurd k
kept_stores told images (o ∷ os) [] k = absurd k
kept_stores told images (o ∷ os) (n ∷ ns) k = (inl k.0, kept_stores told images os ns k.1)

-- parts that stay are handed back
pub handed_back : {S : Type 0} (told : S → Told) (images : S → Image → Type 0) (p q : Parts S) → Stays told p q → HandedBack told images p q
handed_back told images p q s = record { ddl = s.ddl; labels = s.labels; stores = kept_stores told images p.lanes q.lanes s.stores }

handed_back_same : {S : Type 0} (told : S → Told) (images : S → Image → Type 0) (p : Parts S) → HandedBack told images p p
handed_back_same told images p = handed_back told images p p (record { ddl = refl; labels = refl; stores = all_keep_same told p.lanes })

-- what a start keeps of parts, an engine keeps while it answers
pub stays_on : {S : Type 0} (told : S → Told) (p : Parts S) (a b : Opened S) → Stays told p a.parts → EngineStays told a b → Stays told p b.parts
stays_on told p a b s e = record {
  ddl = e.ddl ∙ s.ddl;
  labels = e.labels ∙ s.labels;
  stores = all_keep_on told p.lanes a.parts.lanes b.parts.lanes s.stores e.lanes;
}

-- what holds of parts that were made
pub where-held : {S : Type 0} (o mid : Option (Option (Parts S))) (parts : Parts S) (P : Parts S → Type 0) → Takes o mid parts → P parts → IfSome o (λ held. IfSome held P)
where-held None mid parts P t p = tt
where-held (Some h) mid parts P t p = subst (λ (h : Option (Parts _)). IfSome h P) (sym t.0) p

-- what holds of parts that were made and kept
pub where-both : {S : Type 0} (o mid n : Option (Option (Parts S))) (parts after : Parts S) (P : Parts S → Parts S → Type 0) → Takes o mid parts → GivesBack mid n after → P parts after
    → IfSome o (λ held. IfSome held (λ p. IfSome n (λ held. IfSome held (λ q. P p q))))
where-both None mid n parts after P t g p = tt
where-both (Some h) mid n parts after P t g p =
    let b : n ≡ Some (Some after) = subst (λ (m : Option (Option (Parts _))). GivesBack m n after) t.1 g in
    let q : IfSome n (λ held. IfSome held (λ q. P parts q)) = subst (λ (n : Option (Option (Parts _))). IfSome n (λ held. IfSome held (λ q. P parts q))) (sym b) p in
    subst (λ (h : Option (Parts _)). IfSome h (λ p. IfSome n (λ held. IfSome held (λ q. P p q)))) (sym t.0) q

-- what holds of parts that stayed
pub where-same : {S : Type 0} (o n : Option (Option (Parts S))) (P : Parts S → Parts S → Type 0) → n ≡ o → ((p : Parts S) → P p p) → IfSome o (λ held. IfSome held (λ p. IfSome n (λ held. IfSome held (λ q. P p q))))
where-same None n P e h = tt
where-same (Some None) n P e h = tt
where-same (Some (Some p)) n P e h = subst (λ (n : Option (Option (Parts _))). IfSome n (λ held. IfSome held (λ q. P p q))) (sym e) (h p)

-- parts that were made and kept
pub held-again : {S : Type 0} (told : S → Told) (images : S → Image → Type 0) (o mid n : Option (Option (Parts S))) (parts after : Parts S) → Takes o mid parts → GivesBack mid n after → HandedBack told images parts after → HeldAgain told images o n
held-again told images None mid n parts after t g s = subst (λ (m : Option (Option (Parts _))). GivesBack m n after) t g
held-again told images (Some h) mid n parts after t g s =
    let b : n ≡ Some (Some after) = subst (λ (m : Option (Option (Parts _))). GivesBack m n after) t.1 g in
    subst (λ (h : Option (Parts _)). HeldAgain told images (Some h) n) (sym t.0) (after, b, s)

-- a lane of parts that were made and kept failed
pub lane-rose : {S : Type 0} (told : S → Told) (lane : ℕ) (o mid n : Option (Option (Parts S))) (parts after : Parts S) → Takes o mid parts → GivesBack mid n after
    → RoseAt lane (counts told parts) (counts told after) → LaneRose told lane o n
lane-rose told lane None mid n parts after t g p = tt
lane-rose told lane (Some h) mid n parts after t g p =
    let b : n ≡ Some (Some after) = subst (λ (m : Option (Option (Parts _))). GivesBack m n after) t.1 g in
    subst (λ (h : Option (Parts _)). LaneRose told lane (Some h) n) (sym t.0) (after, b, p)

-- parts that stayed with the maker
held-same : {S : Type 0} (told : S → Told) (images : S → Image → Type 0) (o n : Option (Option (Parts S))) → n ≡ o → HeldAgain told images o n
held-same told images None n e = e
held-same told images (Some None) n e = e
held-same told images (Some (Some p)) n e = (p, e, handed_back_same told images p)

prepended-nil : (o : Option (List ℕ)) → o ≡ prepended [] o
prepended-nil None = refl
prepended-nil (Some xs) = refl

-- nothing was read or printed
pub Says-nothing : {S : Type 0} (told : S → Told) (images : S → Image → Type 0) (setup : Setup) (old new : MakerTold S) (feed feed' : FeedTold) (out out' : SinkTold) (e : Ending)
    → feed' ≡ feed → out' ≡ out → is_sink e ≡ false → Ends told setup old new feed feed' (trace_of told old nothing_defined [] []) e → HeldAgain told images old.held new.held
    → Says told images setup old new feed feed' out out' e
Says-nothing told images setup old new feed feed' out out' e f o k y s = record {
  cat = nothing_defined;
  taken = [];
  replies = [];
  ended = false;
  took = subst (λ (x : FeedTold). feed.left ≡ prepended [] x.left) (sym f) (prepended-nil feed.left);
  each = tt;
  printed = subst (λ (b : Bool). Prints (not b) out out' []) (sym k) (subst (λ (x : SinkTold). Prints true out x []) (sym o) (Prints-nil out));
  ends = y;
  kept = s;
}

pub Says-not_made : {S : Type 0} (told : S → Told) (images : S → Image → Type 0) (setup : Setup) (old new : MakerTold S) (feed feed' : FeedTold) (out out' : SinkTold) (e : Ending)
    → IsNotMade old new feed feed' out out' e → Says told images setup old new feed feed' out out' e
Says-not_made told images setup old new feed feed' out out' e r =
    elim r.make [
      | inl p ↦ subst (λ (e : Ending). Says told images setup old new feed feed' out out' e) (sym p.0)
          (Says-nothing told images setup old new feed feed' out out' ending.Memory r.unread r.silent refl
          record {
            maker = ap (λ (m : MakerTold _). m.faults) p.1;
            feed_stays = ap (λ (x : FeedTold). x.faults) r.unread;
            lanes = where-same old.held new.held (λ p q. counts told q ≡ counts told p) (ap (λ (m : MakerTold _). m.held) p.1) (λ p. refl);
          }
          (held-same told images old.held new.held (ap (λ (m : MakerTold _). m.held) p.1)))
      | inr p ↦ subst (λ (e : Ending). Says told images setup old new feed feed' out out' e) (sym p.0)
          (Says-nothing told images setup old new feed feed' out out' ending.MakerFailed r.unread r.silent refl
          (p.2, record { unread = r.unread; none = refl })
          (held-same told images old.held new.held p.1))
    ]
