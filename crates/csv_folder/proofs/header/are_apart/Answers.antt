use Rattle.std.proofs.Common.{◌≡◌, ◌∙◌, ◌+◌, ◌<◌, [], length, drop, arith, sym, ap}
use Rattle.std.specs.Prelude.{slice_index_or}
use Rattle.std.specs.Str.{str_to_ascii_lowercase}
use Rattle.std.proofs.lemmas.List.{drop_more}
use Rattle.csv.specs.Records.{fields_of}
use Rattle.csv_folder.specs.Cells.{same_folded}
use Rattle.csv_folder.proofs.Apart.{apart_from}
use Rattle.csv_folder.proofs.NamesSeen.{was_named, names_first, names_more}
use Rattle.csv_folder.proofs.header.are_apart.Goals as goal

pub loop-at-init : goal.loop-at-init
loop-at-init c = names_first c.new-seen.result (fields_of c.args.header.now) c.new-seen.ensures

pub loop-at-preserved : goal.loop-at-preserved
loop-at-preserved c =
    let fields = fields_of c.args.header.now in
    let at = c.loop-at.at in
    let inside : at < length fields = omega arith in
    let name = slice_index_or fields at [] in
    let is : c.in_ok-name.name ≡ str_to_ascii_lowercase name = c.in_ok-name.ensures ∙ ap str_to_ascii_lowercase c.field.ensures in
    names_more c.loop-at.seen c.add.new.self name c.in_ok-name.name (drop (at + 1) fields) is (sym c.in_ok-add.ensures.new ∙ c.if-not-branch.false) c.in_ok-add.ensures.added
    ∙ ap (apart_from (was_named c.loop-at.seen) same_folded) (sym (drop_more fields at [] inside))
    ∙ c.loop-at.invariant
