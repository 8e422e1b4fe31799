use Rattle.std.proofs.Common.{◌≡◌, ℕ, ◌+◌, List, take, drop, Some, ◌∙◌, arith}
use Rattle.gate_log.specs.Log.{IsOpenAt}
use Rattle.gate_log.specs.Walking.{IsGate}
use Rattle.gate_log.proofs.Told.{if_told, at_told}
use Rattle.gate_log.proofs.Walks.{next_none, next_within, next_some}
use Rattle.gate_log.proofs.log.Log.next.Goals as goal

pub returns-then-at-self-clause-answer : goal.returns-then-at-self-clause-answer
returns-then-at-self-clause-answer g c = if_told _ _ (λ (bytes : List ℕ) (e : (g.D.Disk.told c.args.self.now.disk).bytes ≡ Some bytes).
    let opened = at_told _ bytes (IsOpenAt c.args.self.now.end (g.D.Disk.images c.args.self.now.disk)) e c.requires.ready in
    let gate = at_told _ bytes (IsGate c.args.at) e c.requires.gate in
    next_none bytes c.args.self.now.end c.args.at opened.ends gate (omega arith))

pub read_at-requires : goal.read_at-requires
read_at-requires g c = if_told _ _ (λ (bytes : List ℕ) (e : (g.D.Disk.told c.args.self.now.disk).bytes ≡ Some bytes).
    let opened = at_told _ bytes (IsOpenAt c.args.self.now.end (g.D.Disk.images c.args.self.now.disk)) e c.requires.ready in
    let gate = at_told _ bytes (IsGate c.args.at) e c.requires.gate in
    let within = next_within bytes c.args.self.now.end c.args.at opened.ends gate (omega arith) in
    omega arith)

pub returns-clause-answer : goal.returns-clause-answer
returns-clause-answer g c = if_told _ _ (λ (bytes : List ℕ) (e : (g.D.Disk.told c.args.self.now.disk).bytes ≡ Some bytes).
    let opened = at_told _ bytes (IsOpenAt c.args.self.now.end (g.D.Disk.images c.args.self.now.disk)) e c.requires.ready in
    let gate = at_told _ bytes (IsGate c.args.at) e c.requires.gate in
    let read = at_told _ bytes (λ (b : List ℕ). c.read_at.new.buffer ≡ take 4 (drop (c.args.at + 1) b)) e c.in_ok-read_at.ensures.answer in
    next_some bytes c.args.self.now.end c.args.at opened.ends gate (omega arith) c.read_at.new.buffer c.from-len.result read (c.from-len.ensures ∙ c.from_be_bytes.ensures))
