use Rattle.std.proofs.Common.{◌≡◌, ℕ, ◌≤◌, List, length, sym, arith}
use Rattle.gate_log.specs.Stops.{Only}
use Rattle.gate_log.proofs.Told.{told_map, told_as}
use Rattle.gate_log.proofs.Records.{records_long}
use Rattle.gate_log.proofs.Emptied.{keeps_short, entered_blank}
use Rattle.gate_log.proofs.opening.find_end.Goals as goal

pub returns-in_err-write_empty-clause-keeps : goal.returns-in_err-write_empty-clause-keeps
returns-in_err-write_empty-clause-keeps g c =
    let synced = c.in_ok-len.ensures in
    let small = λ (bytes : List ℕ). (d : List ℕ) → g.D.Disk.images c.write_empty.new.disk d → length d ≤ 9 in
    keeps_short (g.D.Disk.told c.args.disk.now) (g.D.Disk.images c.args.disk.now) (g.D.Disk.images c.synced_len.new.disk) (g.D.Disk.images c.write_empty.new.disk)
    synced.stops synced.safe c.in_ok-len.len c.if-len.true synced.answer (told_as _ _ small synced.leaves c.write_empty.ensures.stops)

pub returns-then-len-clause-keeps : goal.returns-then-len-clause-keeps
returns-then-len-clause-keeps g c =
    let synced = c.in_ok-len.ensures in
    let small = λ (bytes : List ℕ). (d : List ℕ) → g.D.Disk.images c.write_empty.new.disk d → length d ≤ 9 in
    keeps_short (g.D.Disk.told c.args.disk.now) (g.D.Disk.images c.args.disk.now) (g.D.Disk.images c.synced_len.new.disk) (g.D.Disk.images c.write_empty.new.disk)
    synced.stops synced.safe c.in_ok-len.len c.if-len.true synced.answer (told_as _ _ small synced.leaves c.write_empty.ensures.stops)

pub returns-then-len-clause-answer : goal.returns-then-len-clause-answer
returns-then-len-clause-answer g c =
    let synced = c.in_ok-len.ensures in
    entered_blank (g.D.Disk.told c.args.disk.now) (g.D.Disk.images c.args.disk.now) (g.D.Disk.images c.synced_len.new.disk) (g.D.Disk.images c.write_empty.new.disk)
    synced.stops synced.safe c.in_ok-len.len c.if-len.true synced.answer
    (g.D.Disk.told c.write_empty.new.disk) (rw (← synced.leaves) c.in_ok-write_empty.ensures.leaves) c.in_ok-write_empty.ensures.safe

pub returns-then-len-gt-LOG_LIMIT-clause-answer : goal.returns-then-len-gt-LOG_LIMIT-clause-answer
returns-then-len-gt-LOG_LIMIT-clause-answer g c =
    let synced = c.in_ok-len.ensures in
    record {
      broken = told_map _ (λ (b : List ℕ). c.in_ok-len.len ≡ length b) _ (λ (b : List ℕ) (e : c.in_ok-len.len ≡ length b). records_long b (omega arith)) synced.answer;
      same = synced.leaves;
      stands = told_as _ _ (g.D.Disk.images c.synced_len.new.disk) (sym synced.leaves) (told_map _ (λ (b : List ℕ). Only b (g.D.Disk.images c.synced_len.new.disk)) (g.D.Disk.images c.synced_len.new.disk) (λ (b : List ℕ) only. only.is) synced.safe);
    }
