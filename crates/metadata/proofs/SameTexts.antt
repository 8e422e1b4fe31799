-- Texts are one by their order exactly where their bytes are.
use Rattle.std.proofs.Common.{◌≡◌, ℕ, List}
use Rattle.std.proofs.lemmas.Map.Text.{is_eq-slice_cmp}
use Rattle.vdb_model.specs.Defs.{same_name}
use Rattle.metadata.specs.Texts.{is_text}

pub by_order : (a b : List ℕ) → is_text a b ≡ same_name a b
by_order a b = is_eq-slice_cmp a b
