use Rattle.std.proofs.Common.{◌≡◌, ◌||◌, ℕ, List, subst}
use Rattle.std.specs.Str.{str_to_ascii_lowercase}
use Rattle.vdb_model.specs.Defs.{same_name}
use Rattle.metadata.specs.Columns.{named_column}
use Rattle.metadata.specs.Texts.{is_among}
use Rattle.metadata.proofs.TakenNames.{one_more, on_both}
use Rattle.metadata.proofs.parts.add_column.Goals as goal

pub returns : goal.returns
returns c = λ before are.
    let old = c.args.taken.now in
    let new = c.add.new.self in
    on_both c.add.result (λ names sources.
    one_more old new before (named_column c.args.name.now c.args.options.now) are names
    (subst (λ (source : List ℕ). (q : List ℕ) → is_among new.sources.texts.keys q ≡ (same_name (str_to_ascii_lowercase source) q || is_among old.sources.texts.keys q)) c.in_ok-source.ensures sources))
    c.add.ensures.names c.add.ensures.sources
