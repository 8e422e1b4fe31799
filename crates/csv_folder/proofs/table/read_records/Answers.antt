use Rattle.std.proofs.Common.{◌≡◌, ◌∙◌, ◌++◌, ◌+◌, ◌==◌, true, length, refl, arith, sym, ap, subst}
use Rattle.std.specs.List.{list_any}
use Rattle.std.proofs.lemmas.Bool.Decides.{nat_tests}
use Rattle.csv.specs.Records.{fields_of}
use Rattle.vdb_model.specs.Rows.{same_row}
use Rattle.csv_folder.specs.Header.{all_long}
use Rattle.csv_folder.specs.Places.{cells_at, cells_at_each}
use Rattle.csv_folder.specs.Records.{IsNext, left_of}
use Rattle.csv_folder.specs.SoFar.{IsFresh}
use Rattle.csv_folder.specs.Table.{first_bad, rows_of, said_of}
use Rattle.csv_folder.proofs.OnePass.{keeps_from, keeps_first, keeps_more, said_after, said_more, long_more}
use Rattle.csv_folder.proofs.table.read_records.Goals as goal

pub loop-at-init : goal.loop-at-init
loop-at-init c =
    let cells = cells_at_each c.as_slice-columns.result.now c.args.places.now (left_of c.args.reader.now) in
    record {
      going = c.requires;
      long = refl;
      keys = keeps_first c.args.def.now.key c.new-seen.result cells (λ key. ap (list_any (same_row key)) c.new-seen.ensures);
      cells = ap (λ rows. said_of (first_bad 1 cells) (rows ++ rows_of cells)) c.new.ensures;
    }

pub loop-at-preserved : goal.loop-at-preserved
loop-at-preserved c =
    let old = c.loop-at.reader in
    let new = c.read_next.new.reader in
    let fields = fields_of c.read_next.new.fields in
    let key = c.args.def.now.key in
    let columns = c.as_slice-columns.result.now in
    let places = c.args.places.now in
    let width = c.args.width in
    let at = c.loop-at.at + 1 in
    let made = c.loop-at.made in
    let cells = cells_at columns places fields in
    let more = cells_at_each columns places (left_of new) in
    let next : IsNext true old new fields = subst (λ b. IsNext b old new fields) c.if-not-branch.false c.in_ok-read_next.ensures in
    let fresh : IsFresh key cells c.loop-at.seen c.is_fresh.new.seen true = subst (IsFresh key cells c.loop-at.seen c.is_fresh.new.seen) c.if-not-branch-2.false c.in_ok-is_fresh.ensures in
    let same : length fields ≡ width = sym c.len.ensures ∙ c.if-len-width.false in
    let long : (length fields == width) ≡ true = grind (arith, nat_tests) in
    record {
      going = next.0;
      long = sym (long_more width fields (left_of new) long) ∙ ap (all_long width) (sym next.1) ∙ c.loop-at.invariant.long;
      keys = keeps_more key c.loop-at.seen c.is_fresh.new.seen cells more fresh
          ∙ ap (λ rs. keeps_from key c.loop-at.seen (cells_at_each columns places rs)) (sym next.1)
          ∙ c.loop-at.invariant.keys;
      cells = ap (λ m. said_after m.bad m.rows (at + 1) more) c.in_ok-take.ensures
          ∙ said_more made.bad made at cells more refl
          ∙ ap (λ rs. said_after made.bad made.rows at (cells_at_each columns places rs)) (sym next.1)
          ∙ c.loop-at.invariant.cells;
    }
