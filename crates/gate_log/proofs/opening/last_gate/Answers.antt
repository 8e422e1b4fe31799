use Rattle.std.proofs.Common.{◌≡◌, ◌≢◌, ℕ, List, length, get_or, take, Some, None, bytes_eq, sym, ◌∙◌, ap, arith}
use Rattle.gate_log.specs.Disk.{DiskTold}
use Rattle.gate_log.specs.Records.{header, records_from}
use Rattle.gate_log.specs.Scanning.{Walked, OpenAt}
use Rattle.gate_log.proofs.Told.{if_told, at_told}
use Rattle.gate_log.proofs.Stops.{Same-trans}
use Rattle.gate_log.proofs.Records.{records_other}
use Rattle.gate_log.proofs.Places.{ends_at, broken_at, walked_more}
use Rattle.gate_log.proofs.opening.last_gate.Goals as goal

pub returns-then-not-branch-clause-answer : goal.returns-then-not-branch-clause-answer
returns-then-not-branch-clause-answer g c = if_told _ _ (λ (bytes : List ℕ) (e : (g.D.Disk.told c.args.disk.now).bytes ≡ Some bytes).
    let len = at_told _ bytes (λ (b : List ℕ). c.args.len ≡ length b) e c.requires.length in
    let other = at_told _ bytes (λ (b : List ℕ). c.in_ok-has_header.field-0 ≡ bytes_eq (take 8 b) header) e c.in_ok-has_header.ensures.answer in
    records_other bytes (omega arith) (sym other ∙ c.if-not-branch.true))

pub returns-in-Closed-clause-answer : goal.returns-in-Closed-clause-answer
returns-in-Closed-clause-answer g c = if_told _ _ (λ (bytes : List ℕ) (e : (g.D.Disk.told c.args.disk.now).bytes ≡ Some bytes).
    let first : (g.D.Disk.told c.has_header.new.disk).bytes ≡ Some bytes = ap (λ (t : DiskTold). t.bytes) c.in_ok-has_header.ensures.leaves ∙ e in
    let here : (g.D.Disk.told c.gates.disk).bytes ≡ Some bytes = ap (λ (t : DiskTold). t.bytes) c.gates.invariant.told ∙ first in
    let len = at_told _ bytes (λ (b : List ℕ). c.args.len ≡ length b) e c.requires.length in
    let walked = at_told _ bytes (Walked c.gates.gate) first c.gates.invariant.walked in
    let closed = at_told _ bytes (λ (b : List ℕ). get_or b c.gates.gate 1 ≢ 1) here (rw c.in-Closed.is at c.in_ok-gate_at.ensures.answer) in
    ends_at bytes walked.payloads c.gates.gate walked.front (omega arith) closed (omega arith))

pub returns-in-Broken-clause-answer : goal.returns-in-Broken-clause-answer
returns-in-Broken-clause-answer g c = if_told _ _ (λ (bytes : List ℕ) (e : (g.D.Disk.told c.args.disk.now).bytes ≡ Some bytes).
    let first : (g.D.Disk.told c.has_header.new.disk).bytes ≡ Some bytes = ap (λ (t : DiskTold). t.bytes) c.in_ok-has_header.ensures.leaves ∙ e in
    let here : (g.D.Disk.told c.gates.disk).bytes ≡ Some bytes = ap (λ (t : DiskTold). t.bytes) c.gates.invariant.told ∙ first in
    let len = at_told _ bytes (λ (b : List ℕ). c.args.len ≡ length b) e c.requires.length in
    let walked = at_told _ bytes (Walked c.gates.gate) first c.gates.invariant.walked in
    let broken = at_told _ bytes (λ (b : List ℕ). records_from c.gates.gate b ≡ None) here (rw c.in-Broken.is at c.in_ok-gate_at.ensures.answer) in
    broken_at bytes walked.payloads c.gates.gate walked.front (omega arith) (omega arith) (omega arith) broken)

pub gates-preserved : goal.gates-preserved
gates-preserved g c =
    let opens = rw c.in-Open.is at c.in_ok-gate_at.ensures.answer in
    record {
      within = opens.1;
      told = c.in_ok-gate_at.ensures.leaves ∙ c.gates.invariant.told;
      stops = Same-trans _ _ _ c.gates.invariant.stops c.in_ok-gate_at.ensures.stops;
      walked = if_told _ _ (λ (bytes : List ℕ) (e : (g.D.Disk.told c.has_header.new.disk).bytes ≡ Some bytes).
          let here : (g.D.Disk.told c.gates.disk).bytes ≡ Some bytes = ap (λ (t : DiskTold). t.bytes) c.gates.invariant.told ∙ e in
          walked_more bytes c.gates.gate c.in-Open.next (at_told _ bytes (Walked c.gates.gate) e c.gates.invariant.walked) (at_told _ bytes (OpenAt c.gates.gate c.in-Open.next) here opens.2));
    }
