-- A run of answers, one statement after another.
use Rattle.std.proofs.Common.{◌≡◌, ℕ, Bool, true, List, [], ◌∷◌, ◌++◌, Option, None, refl, sym, ap, subst, ◌∙◌, append_assoc}
use Rattle.std.proofs.lemmas.List.{append-nil}
use Rattle.std.proofs.lemmas.List.Sums.{fold-append}
use Rattle.vdb_base.specs.Printing.{SinkTold, Prints}
use Rattle.vdb_base.proofs.Writing.{Prints-nil, Prints-append}
use Rattle.vdb_model.specs.declared.reply.Reply.{Reply}
use Rattle.vdb_model.specs.Defined.{Defined}
use Rattle.vdb_model.specs.Rows.{Cells}
use Rattle.vdb_model.specs.ReplyText.{reply_text}
use Rattle.resource.specs.Told.{Told}
use Rattle.vdb_session.specs.declared.parts.Opened.{Opened}
use Rattle.vdb_session.specs.Answer.{world_of, EngineStays}
use Rattle.vdb_session.specs.Lanes.{counts}
use Rattle.vdb_session.specs.Meaning.{Done}
use Rattle.vdb_session.specs.Replies.{replies_text}
use Rattle.vdb_session.specs.Script.{Piece}
use Rattle.vdb_session.specs.Shown.{world_by, sees}
use Rattle.vdb_session.proofs.SameWorlds as same
use Rattle.vdb.specs.declared.answering.Seen.{Seen}
use Rattle.vdb.specs.Answering.{noted, nothing_seen, RepliesAll, AnswersAndPrints, Answered}

-- an engine that stays, with the counts of its lanes, sees the world that it saw
world_stays : {S : Type 0} (told : S → Told) (old new : Opened S) → EngineStays told old new → counts told new.parts ≡ counts told old.parts → world_of told new ≡ world_of told old
world_stays told old new s c =
    ap (λ (cat : Defined). world_by (sees told) cat new.parts.lanes) s.catalog
    ∙ same.world_stays told None old.catalog old.parts.lanes new.parts.lanes record { labels = s.labels; kept = s.lanes; counts = c }

stays_here : {S : Type 0} (told : S → Told) (e : Opened S) → EngineStays told e e
stays_here told e = record { ddl = refl; labels = refl; catalog = refl; lanes = refl }

stays_on : {S : Type 0} (told : S → Told) (old mid new : Opened S) → EngineStays told old mid → EngineStays told mid new → EngineStays told old new
stays_on told old mid new a b = record { ddl = b.ddl ∙ a.ddl; labels = b.labels ∙ a.labels; catalog = b.catalog ∙ a.catalog; lanes = b.lanes ∙ a.lanes }

done_before : {S : Type 0} (told : S → Told) (old mid : Opened S) (piece : Piece) (r : Reply) → EngineStays told old mid → counts told mid.parts ≡ counts told old.parts → Done mid.catalog (world_of told mid) piece r → Done old.catalog (world_of told old) piece r
done_before told old mid piece r s c d =
    subst (λ (cat : Defined). Done cat (world_of told old) piece r) s.catalog (subst (λ (w : Option (List (List Cells))). Done mid.catalog w piece r) (world_stays told old mid s c) d)

replies_push : (cat : Defined) (w : Option (List (List Cells))) (ps : List Piece) (rs : List Reply) (p : Piece) (r : Reply) → RepliesAll cat w ps rs → Done cat w p r → RepliesAll cat w (ps ++ p ∷ []) (rs ++ r ∷ [])
replies_push cat w [] [] p r h d = (d, tt)
replies_push cat w [] (x ∷ rs) p r h d = absurd h
replies_push cat w (q ∷ ps) [] p r h d = absurd h
replies_push cat w (q ∷ ps) (x ∷ rs) p r h d = (h.0, replies_push cat w ps rs p r h.1 d)

text_push : (rs : List Reply) (r : Reply) → replies_text (rs ++ r ∷ []) ≡ replies_text rs ++ reply_text r
text_push [] r = append-nil (reply_text r)
text_push (x ∷ rs) r = ap (λ t. reply_text x ++ t) (text_push rs r) ∙ sym (append_assoc (reply_text x) (replies_text rs) (reply_text r))

pub answered_none : {S : Type 0} (told : S → Told) (all : List Piece) (e : Opened S) (s : SinkTold) → Answered told all all e e s s true None nothing_seen
answered_none told all e s = record {
  first = [];
  replies = [];
  split = refl;
  each = tt;
  seen_is = refl;
  printed = Prints-nil s;
  stays = stays_here told e;
  lanes = refl;
}

-- one reply more, printed whole or cut short
pub answered_more : {S : Type 0} (told : S → Told) (all left : List Piece) (piece : Piece) (old mid new : Opened S) (a b c : SinkTold) (whole : Bool) (seen : Seen) (r : Reply)
    → Answered told all (piece ∷ left) old mid a b true None seen → AnswersAndPrints told piece mid new b c whole r → Answered told all left old new a c whole None (noted seen r)
answered_more told all left piece old mid new a b c whole seen r before step = record {
  first = before.first ++ piece ∷ [];
  replies = before.replies ++ r ∷ [];
  split = before.split ∙ sym (append_assoc before.first (piece ∷ []) left);
  each = replies_push old.catalog (world_of told old) before.first before.replies piece r before.each (done_before told old mid piece r before.stays before.lanes step.done);
  seen_is = ap (λ (s : Seen). noted s r) before.seen_is ∙ sym (fold-append noted nothing_seen before.replies (r ∷ []));
  printed = subst (λ (t : List ℕ). Prints whole a c t) (sym (text_push before.replies r)) (Prints-append whole a b c (replies_text before.replies) (reply_text r) before.printed step.printed);
  stays = stays_on told old mid new before.stays step.stays;
  lanes = step.counts_stay ∙ before.lanes;
}
