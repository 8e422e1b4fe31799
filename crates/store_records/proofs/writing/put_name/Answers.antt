use Rattle.std.proofs.Common.{List, ℕ, ◌++◌, ap, ◌∙◌}
use Rattle.std.specs.Int.{w16}
use Rattle.store_records.proofs.Rules.{text_written}
use Rattle.store_records.proofs.writing.put_name.Goals as goal

pub returns : goal.returns
returns c =
    let between = c.put_length_16.new.out.items in
    text_written w16 16 c.args.name.now c.args.out.now.items between c.extend_from_slice.new.self.items c.in_ok-put_length_16.ensures
    (c.in_ok-extend_from_slice.ensures.items ∙ ap (λ (b : List ℕ). between ++ b) c.as_bytes.ensures.value) c.utf8.name
