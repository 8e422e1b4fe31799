use Rattle.std.proofs.Common.{ap, ◌∙◌}
use Rattle.std.specs.Int.{w128, to_be_bytes, cast_unsigned}
use Rattle.std.proofs.lemmas.Int.{to_z-of_z}
use Rattle.store_records.proofs.Rules.{number_written}
use Rattle.store_records.proofs.writing.put_number.Goals as goal

pub returns : goal.returns
returns c =
    let bytes = c.to_be_bytes.ensures ∙ ap (λ z. to_be_bytes w128 (cast_unsigned w128 z)) (to_z-of_z w128 c.args.number c.ranges.number) in
    number_written c.args.number c.args.out.now.items c.push.new.self.items c.to_be_bytes.result c.extend_from_slice.new.self.items c.ranges.number c.in_ok-push.ensures.items bytes c.in_ok-extend_from_slice.ensures.items
