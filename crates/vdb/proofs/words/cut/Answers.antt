use Rattle.std.proofs.Common.{Some, None, ap, sym, ◌∙◌}
use Rattle.std.proofs.lemmas.Str.Pattern.{split_parts}
use Rattle.vdb.specs.Words.{split_at_byte}
use Rattle.vdb.proofs.Cuts.{cut_found, cut_missing}
use Rattle.vdb.proofs.words.cut.Goals as goal

pub returns-in-Some : goal.returns-in-Some
returns-in-Some c =
    let parts = split_parts c.args.mark c.args.word.now (Some (c.in-Some.before, c.in-Some.after)) c.in-Some.ensures.cases c.requires in
    sym (ap (split_at_byte c.args.mark) parts.0 ∙ cut_found c.args.mark c.in-Some.before.now c.in-Some.after.now parts.1)

pub returns-in-None : goal.returns-in-None
returns-in-None c =
    let lacks = split_parts c.args.mark c.args.word.now None c.in-None.ensures.cases c.requires in
    sym (cut_missing c.args.mark c.args.word.now lacks)
