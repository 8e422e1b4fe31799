use Rattle.std.proofs.Common.{◌≡◌, ℕ, List, length, take, drop, Some, IfSome, ◌∙◌}
use Rattle.std.proofs.lemmas.Result.{on_ok_weaker}
use Rattle.gate_log.specs.Log.{IsOpenAt}
use Rattle.gate_log.specs.Walking.{IsInPayload, IsPartOf}
use Rattle.gate_log.proofs.Told.{if_told, at_told}
use Rattle.gate_log.proofs.Walks.{in_payload, part_of}
use Rattle.gate_log.proofs.log.Log.read.Goals as goal

pub read_at-requires : goal.read_at-requires
read_at-requires g c = if_told _ _ (λ (bytes : List ℕ) (e : (g.D.Disk.told c.args.self.now.disk).bytes ≡ Some bytes).
    let opened = at_told _ bytes (IsOpenAt c.args.self.now.end (g.D.Disk.images c.args.self.now.disk)) e c.requires.ready in
    let found = at_told _ bytes (IsInPayload c.args.start (length c.args.buffer.now)) e c.requires.inside in
    in_payload bytes c.args.self.now.end opened.ends c.args.start (length c.args.buffer.now) found)

pub returns-clause-answer : goal.returns-clause-answer
returns-clause-answer g c =
    let told = (g.D.Disk.told c.args.self.now.disk).bytes in
    let is_read = λ (b : List ℕ). c.read_at.new.buffer ≡ take (length c.args.buffer.now) (drop c.args.start b) in
    let is_part = λ (b : List ℕ). IsPartOf c.args.start (length c.args.buffer.now) b c.read_at.new.buffer in
    let weaker : IfSome told is_read → IfSome told is_part = λ read. if_told told is_part (λ (bytes : List ℕ) (e : told ≡ Some bytes).
    let opened = at_told told bytes (IsOpenAt c.args.self.now.end (g.D.Disk.images c.args.self.now.disk)) e c.requires.ready in
    λ found. at_told told bytes is_read e read ∙ part_of bytes c.args.self.now.end opened.ends c.args.start (length c.args.buffer.now) found) in
    on_ok_weaker c.read_at.result weaker c.read_at.ensures.answer
