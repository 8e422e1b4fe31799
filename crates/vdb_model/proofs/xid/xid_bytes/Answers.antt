use Rattle.std.proofs.Common.{refl, ap, ◌∙◌}
use Rattle.std.specs.Int.{w64, to_be_bytes}
use Rattle.vdb_model.proofs.Laid.{laid}
use Rattle.vdb_model.proofs.xid.xid_bytes.Goals as goal

pub returns-clause-data : goal.returns-clause-data
returns-clause-data c =
    let a = c.copy_from_slice.ensures.after ∙ c.to_be_bytes.ensures in
    let b = c.copy_from_slice-2.ensures.after ∙ c.to_be_bytes-2.ensures in
    let n = c.copy_from_slice-3.ensures.after ∙ c.as_bytes-name.ensures in
    rw (a, b, n, c.as_bytes-name.ensures) (laid (to_be_bytes w64 c.args.x.epoch) (to_be_bytes w64 c.args.x.seq) c.args.server.now refl refl)
