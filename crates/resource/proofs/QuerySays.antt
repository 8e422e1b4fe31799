-- A query of a resource in memory.
use Rattle.std.proofs.Common.{◌≡◌, ◌∙◌, Bool, true, false, List, [], Option, Some, Result, Ok, Err, IfSome, length, sym, ap, subst}
use Rattle.std.specs.Prelude.{IfOk, OnOk}
use Rattle.std.specs.Option.{unwrap_or}
use Rattle.vdb_model.specs.declared.source.SourceQuery.{SourceQuery}
use Rattle.vdb_model.specs.declared.table.TableDef.{TableDef}
use Rattle.vdb_model.specs.Answers.{Answered}
use Rattle.vdb_model.specs.Rows.{Cells}
use Rattle.vdb_model.specs.World.{is_world, table_rows}
use Rattle.resource.specs.declared.resource.ResFault.{ResFault}
use Rattle.resource.specs.declared.resource.ResFault.TheVariants as fault
use Rattle.resource.specs.Asks.{Allows, FitRows, AnswersQuery, all_rows_fit, answer_types}
use Rattle.resource.specs.Checked.{rows_numbered, rows_asked, passing_cut}
use Rattle.resource.specs.Failing.{res_failed}
use Rattle.resource.specs.Holding.{Holding, defs_held, contents_held, told_held, images_held, first_image, other_image}
use Rattle.resource.specs.Images.{Same}
use Rattle.resource.specs.Leaves.{Queries}
use Rattle.resource.specs.MemResource.{CallsByList}
use Rattle.resource.specs.Steps.{QueriesTo}
use Rattle.resource.specs.Stored.{after_stored}
use Rattle.resource.specs.Told.{IsWorld, seen}
use Rattle.resource.proofs.KeptWell.{Good, worked_well}
use Rattle.resource.proofs.Moving.{called_good}
use Rattle.resource.proofs.SingleAnswer.{answered, fitting, looked_up}
use Rattle.resource.proofs.SingleQuery.{SingleQuery, single_query}
use Rattle.resource.proofs.Tells.{by_list, same_images, faulted}

counted_out : (b : Bool) (rows : List Cells) → b ≡ false → b ≡ true → length rows ≡ 1
counted_out true rows e f = cc
counted_out false rows e f = cc

module _ (q : SourceQuery) (old new : Holding) (g : Good old) (may : Allows (told_held old) q) where
  p : SingleQuery q
  p = single_query old.caps may.defs q g.one may.within

  defs_are : defs_held old ≡ may.defs
  defs_are = ap (λ o. unwrap_or o []) may.attached

  abbrev now : List (List Cells)
  now = seen (defs_held old) (contents_held old)

  -- the rows of the table as seen now are those that are asked
  rows_are : rows_asked (after_stored old.kept old.deltas) old.defs q.tables ≡ table_rows (defs_held old) now p.table
  rows_are =
      let stored = after_stored old.kept old.deltas in
      ap (λ o. rows_asked stored o q.tables) may.attached
      ∙ ap (rows_asked stored (Some may.defs)) p.tables
      ∙ ap (rows_numbered p.table stored) (sym defs_are)
      ∙ sym (looked_up p.table stored (defs_held old))
      ∙ ap (λ tables. table_rows (defs_held old) tables p.table) (worked_well old g)

  answered_here : (rows : List Cells) → rows ≡ passing_cut q.filter q.columns (rows_asked (after_stored old.kept old.deltas) old.defs q.tables) → Answered may.defs now q rows
  answered_here rows is =
      subst (λ out. Answered may.defs now q out) (sym (is ∙ ap (passing_cut q.filter q.columns) (rows_are ∙ ap (λ ds. table_rows ds now p.table) defs_are))) (answered may.defs now q p)

  fit_here : (rows : List Cells) → rows ≡ passing_cut q.filter q.columns (rows_asked (after_stored old.kept old.deltas) old.defs q.tables) → all_rows_fit (answer_types q.count may.defs q) rows ≡ true
  fit_here rows is =
      let world : is_world may.defs now ≡ true = subst (λ ds. is_world ds now ≡ true) defs_are g.work_fits in
      ap (all_rows_fit (answer_types q.count may.defs q)) (is ∙ ap (passing_cut q.filter q.columns) (rows_are ∙ ap (λ ds. table_rows ds now p.table) defs_are)) ∙ fitting may.defs now q p world

  pub query_answers : (r : Result (List Cells) ResFault) → QueriesTo q old new r → IfOk r (λ rows. AnswersQuery (told_held old) q rows)
  query_answers (Ok rows) h = subst (λ (o : Option (List TableDef)). IfSome o (λ defs. Answered defs now q rows)) (sym may.attached) (answered_here rows h.2)
  query_answers (Err f) h = tt

  pub query_fits : (r : Result (List Cells) ResFault) → QueriesTo q old new r → IfOk r (λ rows. FitRows (told_held old) q rows)
  query_fits (Ok rows) h = record {
    cells = subst (λ (o : Option (List TableDef)). IfSome o (λ defs. all_rows_fit (answer_types q.count defs q) rows ≡ true)) (sym may.attached) (fit_here rows h.2);
    one = λ count. counted_out q.count rows p.count count;
  }
  query_fits (Err f) h = tt

  pub query_world : (r : Result (List Cells) ResFault) → OnOk r (IsWorld (told_held old))
  query_world (Ok rows) = g.work_fits
  query_world (Err f) = tt

  pub query_leaves : (r : Result (List Cells) ResFault) → QueriesTo q old new r → Queries q (told_held old) (told_held new) r
  query_leaves (Ok rows) h = ap told_held h.1
  query_leaves (Err fault.Failed) h = faulted old new h
  query_leaves (Err fault.Memory) h = ap told_held h.1

  pub query_images : (r : Result (List Cells) ResFault) → QueriesTo q old new r → Same (images_held old) (images_held new)
  query_images (Ok rows) h = same_images old new (ap first_image h.1) (ap other_image h.1)
  query_images (Err fault.Failed) h = same_images old new (ap first_image h.next_is) (ap other_image h.next_is)
  query_images (Err fault.Memory) h = same_images old new (ap first_image h.1) (ap other_image h.1)

  pub query_by_list : (r : Result (List Cells) ResFault) → QueriesTo q old new r → CallsByList old.calls new.calls (res_failed r)
  query_by_list (Ok rows) h = by_list old.calls new.calls false h.0 (ap (λ (n : Holding). n.calls) h.1)
  query_by_list (Err fault.Failed) h = by_list old.calls new.calls true h.listed (ap (λ (n : Holding). n.calls) h.next_is)
  query_by_list (Err fault.Memory) h = by_list old.calls new.calls false h.0 (ap (λ (n : Holding). n.calls) h.1)

  pub query_good : (r : Result (List Cells) ResFault) → QueriesTo q old new r → Good new
  query_good (Ok rows) h = subst Good (sym h.1) (record { one = g.one; fit = g.fit; kept_fits = g.kept_fits; work_fits = g.work_fits; writes = g.writes })
  query_good (Err fault.Failed) h = subst Good (sym h.next_is) (called_good true old g)
  query_good (Err fault.Memory) h = subst Good (sym h.1) (called_good false old g)
