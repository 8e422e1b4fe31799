use Rattle.std.proofs.Common.{◌≡◌, ◌∙◌, ◌||◌, Bool, ap, rules}
use Rattle.metadata.specs.Texts.{is_text, is_among}
use Rattle.metadata.proofs.SameTexts.{by_order}
use Rattle.metadata.proofs.texts.Texts.add.Goals as goal

pub returns : goal.returns
returns c = λ q.
    let keys = c.args.self.now.texts.keys in
    let added : is_among c.insert.new.self.keys q ≡ (is_text c.args.text q || is_among keys q) = search rules in
    added ∙ ap (λ (b : Bool). b || is_among keys q) (by_order c.args.text q)
