use Rattle.std.proofs.Common.{◌≡◌, ap, refl, sym, ◌∙◌, ◌++◌, ◌∷◌, [], Some, None, is_some, cond}
use Rattle.std.specs.Map.{lookup}
use Rattle.std.specs.Option.{option_copied_mut}
use Rattle.indexmap.proofs.CallerLemmas.{insert_entry-new}
use Rattle.indexmap.specs.IndexMap.{insert_entry}
use Rattle.vdb_model.specs.Rows.{Cells, same_row}
use Rattle.rel_eval.specs.Indexed.{listed}
use Rattle.rel_eval.specs.Lent.{lent}
use Rattle.rel_eval.specs.RowKeys.{cells, same_key}
use Rattle.rel_eval.proofs.Entries.{test, found_after_set, found_after_new, keys_kept, keys_more}
use Rattle.rel_eval.proofs.LentRows.{lent_push}
use Rattle.rel_eval.proofs.Indexing.{put_under}
use Rattle.rel_eval.proofs.index.Index.add.Goals as goal

pub returns-in_ok-push-in-Some-clause-rows : goal.returns-in_ok-push-in-Some-clause-rows
returns-in_ok-push-in-Some-clause-rows c =
    let p = cells c.args.key in
    let es = c.args.self.now.groups.entries in
    let w = c.push.new.self in
    let fs = (c.get_mut.follows.lender w).entries in
    let found : lookup (test p) es ≡ Some c.in-Some.rows.now = sym c.get_mut.ensures.value ∙ ap option_copied_mut c.in-Some.is in
    let more : lent w.items ≡ listed (lookup (test p) es) ++ c.args.row.now ∷ [] = ap lent c.in_ok-push-in-Some.ensures.items ∙ lent_push c.in-Some.rows.now.items c.args.row ∙ ap (λ rows. listed rows ++ c.args.row.now ∷ []) (sym found) in
    let puts : (q : Cells) → lookup (test q) fs ≡ cond (same_row p q) (Some w) (lookup (test q) es) = λ q. ap (lookup (test q)) (c.get_mut.follows.holds w).0 ∙ found_after_set p es w q (ap is_some found) in
    put_under (λ q. lookup (test q) es) (λ q. lookup (test q) fs) p c.args.row.now w puts more

pub returns-in_ok-push-in-Some-clause-keys : goal.returns-in_ok-push-in-Some-clause-keys
returns-in_ok-push-in-Some-clause-keys c =
    let w = c.push.new.self in
    let found : lookup (test (cells c.args.key)) c.args.self.now.groups.entries ≡ Some c.in-Some.rows.now = sym c.get_mut.ensures.value ∙ ap option_copied_mut c.in-Some.is in
    keys_kept c.args.self.now.groups.entries (c.get_mut.follows.lender w).entries (cells c.args.key) (ap is_some found) (c.get_mut.follows.holds w).1

pub returns-in_ok-insert-in-None-clause-rows : goal.returns-in_ok-insert-in-None-clause-rows
returns-in_ok-insert-in-None-clause-rows c =
    let p = cells c.args.key in
    let es = c.args.self.now.groups.entries in
    let w = c.push-in-None.new.self in
    let fs = c.insert.new.self.entries in
    let gone : lookup (test p) es ≡ None = sym c.get_mut.ensures.value ∙ ap option_copied_mut c.in-None.is in
    let first : lent w.items ≡ listed (lookup (test p) es) ++ c.args.row.now ∷ [] =
    ap lent c.in_ok-push-in-None.ensures.items ∙ ap (λ rows. lent (rows ++ c.args.row ∷ [])) c.new-rows.ensures.items ∙ ap (λ rows. listed rows ++ c.args.row.now ∷ []) (sym gone) in
    let last : fs ≡ es ++ (c.args.key, w) ∷ [] = c.in_ok-insert-in-None.ensures.entries ∙ ap (λ groups. insert_entry same_key groups.entries c.args.key w) c.get_mut.follows.holds-at-none ∙ insert_entry-new same_key c.args.self.now.groups c.args.key w gone in
    let puts : (q : Cells) → lookup (test q) fs ≡ cond (same_row p q) (Some w) (lookup (test q) es) = λ q. ap (lookup (test q)) last ∙ found_after_new p es c.args.key w q refl gone in
    put_under (λ q. lookup (test q) es) (λ q. lookup (test q) fs) p c.args.row.now w puts first

pub returns-in_ok-insert-in-None-clause-keys : goal.returns-in_ok-insert-in-None-clause-keys
returns-in_ok-insert-in-None-clause-keys c =
    let es = c.args.self.now.groups.entries in
    let w = c.push-in-None.new.self in
    let gone : lookup (test (cells c.args.key)) es ≡ None = sym c.get_mut.ensures.value ∙ ap option_copied_mut c.in-None.is in
    let last : c.insert.new.self.entries ≡ es ++ (c.args.key, w) ∷ [] = c.in_ok-insert-in-None.ensures.entries ∙ ap (λ groups. insert_entry same_key groups.entries c.args.key w) c.get_mut.follows.holds-at-none ∙ insert_entry-new same_key c.args.self.now.groups c.args.key w gone in
    keys_more es c.insert.new.self.entries c.args.key w gone last
