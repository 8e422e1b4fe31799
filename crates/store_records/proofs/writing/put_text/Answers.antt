use Rattle.std.proofs.Common.{List, ℕ, ◌++◌, ap, ◌∙◌}
use Rattle.std.specs.Int.{w32}
use Rattle.store_records.proofs.Rules.{text_written}
use Rattle.store_records.proofs.writing.put_text.Goals as goal

pub returns : goal.returns
returns c =
    let between = c.put_length_32.new.out.items in
    text_written w32 32 c.args.text.now c.args.out.now.items between c.extend_from_slice.new.self.items c.in_ok-put_length_32.ensures
    (c.in_ok-extend_from_slice.ensures.items ∙ ap (λ (b : List ℕ). between ++ b) c.as_bytes.ensures.value) c.utf8.text
