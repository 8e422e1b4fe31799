use Rattle.std.proofs.Common.{◌≡◌, ◌+◌, ◌++◌, ◌∷◌, [], true, cond, take, sym, ap, ◌∙◌, subst}
use Rattle.csv_folder.specs.CsvFolder.{folder_told}
use Rattle.resource.specs.Lanes.{labels_of}
use Rattle.vdb_session.specs.Lanes.{are_here}
use Rattle.vdb.specs.Making.{labels}
use Rattle.vdb.proofs.LostLanes.{here_push, labels_push}
use Rattle.vdb.proofs.files.make_lanes.Goals as goal

pub loop-conn-preserved : goal.loop-conn-preserved
loop-conn-preserved g c =
    let e = c.in_ok-make_lane.ensures in
    let made = c.loop-conn.lanes.items in
    let lane = c.in_ok-make_lane.field-0 in
    let next : c.push.new.self.items ≡ made ++ lane ∷ [] = c.push.ensures.items ∙ ap (λ b. cond b (made ++ lane ∷ []) made) c.if-is_err.ensures.negation in
    record {
      labels = subst (λ lanes. labels_of lanes ≡ labels (take (c.loop-conn.conn-index + 1) c.args.conns.now)) (sym next)
          (labels_push made lane c.args.conns.now c.loop-conn.conn-index c.conn-item.result c.loop-conn-test.true c.conn-item.is e.name e.kind c.loop-conn.invariant.labels);
      here = subst (λ lanes. are_here folder_told lanes ≡ true) (sym next) (here_push folder_told made lane c.loop-conn.invariant.here e.here);
    }
