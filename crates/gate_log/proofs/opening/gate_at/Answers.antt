use Rattle.std.proofs.Common.{◌≡◌, ℕ, ◌+◌, List, [], ◌∷◌, length, get_or, take, drop, sym, ◌∙◌, ap, arith}
use Rattle.gate_log.proofs.Told.{if_told, at_told}
use Rattle.gate_log.proofs.Places.{broken_short, broken_long, open_at, gate_byte, five, four_small}
use Rattle.gate_log.proofs.opening.gate_at.Goals as goal

pub returns-then-open-clause-answer : goal.returns-then-open-clause-answer
returns-then-open-clause-answer g c = if_told _ _ (λ (bytes : List ℕ) (e : (g.D.Disk.told c.args.disk.now).bytes ≡ _).
    let len = at_told _ bytes (λ (b : List ℕ). c.args.len ≡ length b) e c.requires.length in
    let read = at_told _ bytes (λ (b : List ℕ). c.read_at.new.buffer ≡ take 1 (drop c.args.gate b)) e c.in_ok-read_at.ensures.answer in
    broken_short bytes c.args.gate (omega arith) (omega arith) (sym (gate_byte bytes c.read_at.new.buffer c.args.gate 1 read (omega arith) (omega arith)) ∙ c.if-open.true))

pub returns-then-open-ne-OPEN-clause-answer : goal.returns-then-open-ne-OPEN-clause-answer
returns-then-open-ne-OPEN-clause-answer g c = if_told _ _ (λ (bytes : List ℕ) (e : (g.D.Disk.told c.args.disk.now).bytes ≡ _).
    let len = at_told _ bytes (λ (b : List ℕ). c.args.len ≡ length b) e c.requires.length in
    let read = at_told _ bytes (λ (b : List ℕ). c.read_at-2.new.buffer ≡ take 5 (drop c.args.gate b)) e c.in_ok-read_at-2.ensures.answer in
    λ is. c.if-open-ne-OPEN.true (gate_byte bytes c.read_at-2.new.buffer c.args.gate 5 read (omega arith) (omega arith) ∙ is))

pub returns-then-next-len-clause-answer : goal.returns-then-next-len-clause-answer
returns-then-next-len-clause-answer g c = (
  omega arith,
  omega arith,
  if_told _ _ (λ (bytes : List ℕ) (e : (g.D.Disk.told c.args.disk.now).bytes ≡ _).
      let len = at_told _ bytes (λ (b : List ℕ). c.args.len ≡ length b) e c.requires.length in
      let read = at_told _ bytes (λ (b : List ℕ). c.read_at-2.new.buffer ≡ take 5 (drop c.args.gate b)) e c.in_ok-read_at-2.ensures.answer in
      let head = c.read_at-2.new.buffer in
      let quad = get_or head 1 0 ∷ get_or head 2 0 ∷ get_or head 3 0 ∷ get_or head 4 0 ∷ [] in
      let opens : take 5 (drop c.args.gate bytes) ≡ 1 ∷ quad = sym read ∙ five head c.read_at-2.auto.buffer ∙ ap (λ o. o ∷ quad) c.if-open-ne-OPEN.false in
      open_at bytes quad c.args.gate (omega arith) opens (c.args.gate + 5 + c.from.result)
      (four_small _ _ _ _ (omega arith) (omega arith) (omega arith) (omega arith))
      (ap (λ n. c.args.gate + 5 + n) (c.from.ensures ∙ c.from_be_bytes.ensures))
      (omega arith)),
)

pub returns-else-next-len-clause-answer : goal.returns-else-next-len-clause-answer
returns-else-next-len-clause-answer g c = if_told _ _ (λ (bytes : List ℕ) (e : (g.D.Disk.told c.args.disk.now).bytes ≡ _).
    let len = at_told _ bytes (λ (b : List ℕ). c.args.len ≡ length b) e c.requires.length in
    let read = at_told _ bytes (λ (b : List ℕ). c.read_at-2.new.buffer ≡ take 5 (drop c.args.gate b)) e c.in_ok-read_at-2.ensures.answer in
    let head = c.read_at-2.new.buffer in
    let quad = get_or head 1 0 ∷ get_or head 2 0 ∷ get_or head 3 0 ∷ get_or head 4 0 ∷ [] in
    let opens : take 5 (drop c.args.gate bytes) ≡ 1 ∷ quad = sym read ∙ five head c.read_at-2.auto.buffer ∙ ap (λ o. o ∷ quad) c.if-open-ne-OPEN.false in
    let size = ap (λ n. c.args.gate + 5 + n) (c.from.ensures ∙ c.from_be_bytes.ensures) in
    broken_long bytes quad c.args.gate (omega arith) opens (omega (arith, size)))
