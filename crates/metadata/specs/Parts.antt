-- What the chains give for each part of a union.
use Rattle.std.specs.Prelude.{ℕ, List, [], ◌∷◌}
use Rattle.vdb_model.specs.declared.rel.Rel.{Rel}
use Rattle.vdb_model.specs.Chains.{chain_below}

abbrev pub chains_each : List ℕ → List Rel → List ℕ
chains_each chains [] = []
chains_each chains (r ∷ rs) = chain_below chains r ∷ chains_each chains rs
