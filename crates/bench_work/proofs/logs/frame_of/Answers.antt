use Rattle.std.proofs.Common.{◌∷◌, [], refl, slice_index_or}
use Rattle.gate_log.specs.Records.{body}
use Rattle.gate_log.proofs.Frames.{IsFrame-framed}
use Rattle.bench_work.proofs.logs.frame_of.Goals as goal

pub returns : goal.returns
unfolding body
returns c =
    let bytes = c.to_be_bytes.result in
    IsFrame-framed (2 ∷ 0 ∷ 0 ∷ 0 ∷ 0 ∷ slice_index_or bytes 0 0 ∷ slice_index_or bytes 1 0 ∷ slice_index_or bytes 2 0 ∷ slice_index_or bytes 3 0 ∷ []) _ refl
