use Rattle.std.proofs.Common.{List, ℕ, ◌++◌, ap, ◌∙◌}
use Rattle.store_records.proofs.Branches.{head_is}
use Rattle.store_records.proofs.branch.put_head.Goals as goal

pub returns : goal.returns
returns c =
    let old = c.args.out.now.items in
    let a = c.extend_from_slice.new.self.items in
    let b = c.push.new.self.items in
    let d = c.extend_from_slice-2.new.self.items in
    let e = c.extend_from_slice-3.new.self.items in
    head_is old a b d e c.extend_from_slice-4.new.self.items c.args.size c.args.kind c.args.x c.args.count
    (c.in_ok-extend_from_slice.ensures.items ∙ ap (λ (l : List ℕ). old ++ l) c.to_be_bytes.ensures)
    c.in_ok-push.ensures.items
    (c.in_ok-extend_from_slice-2.ensures.items ∙ ap (λ (l : List ℕ). b ++ l) c.to_be_bytes-2.ensures)
    (c.in_ok-extend_from_slice-3.ensures.items ∙ ap (λ (l : List ℕ). d ++ l) c.to_be_bytes-3.ensures)
    (c.in_ok-extend_from_slice-4.ensures.items ∙ ap (λ (l : List ℕ). e ++ l) c.to_be_bytes-4.ensures)
