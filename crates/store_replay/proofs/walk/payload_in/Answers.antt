use Rattle.std.proofs.Common.{◌≡◌, length, arith}
use Rattle.gate_log.specs.Walking.{IsPartOf}
use Rattle.gate_log.proofs.Told.{told_map}
use Rattle.store_replay.proofs.WalkSteps.{buffer_read}
use Rattle.store_replay.proofs.walk.payload_in.Goals as goal

pub returns-in-Ok-read-clause-answer : goal.returns-in-Ok-read-clause-answer
returns-in-Ok-read-clause-answer g c =
    let span = c.args.span in
    let n = length c.as_mut_slice.result.now in
    let read = c.read.new.buffer in
    let long : n ≡ span.len = omega (arith, c.as_mut_slice.ensures.len, c.in-Ok.ensures.len) in
    let same : c.in-Ok.buffer.len ≡ n = omega (arith, c.as_mut_slice.ensures.len) in
    let size : length read ≡ n = c.read.auto.buffer in
    told_map (g.D.Disk.told c.args.log.now.disk).bytes (λ bytes. IsPartOf span.start n bytes read) _ (λ bytes part payload s. buffer_read span payload bytes read c.in-Ok.buffer.items c.in-Ok.buffer.len n s long same size part) c.in-Ok-read.ensures.answer
