use Rattle.std.proofs.Common.{map, Global}
use Rattle.std.specs.String.{string_bytes}
use Rattle.vdb.proofs.ApartLanes.{setup_apart}
use Rattle.vdb.proofs.Causes.{causes-of, complete-of}
use Rattle.vdb.proofs.ProgramSays.{headline-of, headline-unread}
use Rattle.vdb.proofs.program.program.Goals as goal

pub run_setup-ending-requires-clause-apart : goal.run_setup-ending-requires-clause-apart
run_setup-ending-requires-clause-apart g c = λ κs b. setup_apart (map (string_bytes {Z = Global}) c.args.words.now.items) c.in-Ok.setup c.in-Ok.ensures.setup

pub returns : goal.returns
returns g c =
    let words = map (string_bytes {Z = Global}) c.args.words.now.items in
    let h = headline-of g.M.S.Resource.told g.M.S.Resource.images c.in-Ok.setup _ _ _ _ _ _ _ _ words _ c.in-Ok.ensures.setup c.run_setup-ending.ensures c.finish-2.ensures in
    record {
      headline = h;
      causes = causes-of g.M.S.Resource.told g.M.S.Resource.images words _ _ _ _ _ _ _ h;
      complete = complete-of g.M.S.Resource.told g.M.S.Resource.images words _ _ _ _ _ _ _ h;
    }

pub returns-in-Err : goal.returns-in-Err
returns-in-Err g c =
    let words = map (string_bytes {Z = Global}) c.args.words.now.items in
    let h = headline-unread g.M.S.Resource.told g.M.S.Resource.images words _ _ _ _ _ _ c.in-Err.fault _ c.in-Err.ensures.usage c.words_ending.ensures c.finish-in-Err.ensures in
    record {
      headline = h;
      causes = causes-of g.M.S.Resource.told g.M.S.Resource.images words _ _ _ _ _ _ _ h;
      complete = complete-of g.M.S.Resource.told g.M.S.Resource.images words _ _ _ _ _ _ _ h;
    }
