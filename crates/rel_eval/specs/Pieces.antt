-- Pieces of patterns.
use Rattle.std.specs.Prelude.{ℕ, ◌+◌, Bool, true, false, if◌then◌else◌, ◌==◌, List, [], ◌∷◌, length, Option, Some, None}
use Rattle.vdb_model.specs.Words.{goes_on, after_char, is_like, some_end}
use Rattle.rel_eval.specs.declared.patterns.Piece.{Piece}
use Rattle.rel_eval.specs.declared.patterns.Piece.TheVariants.{Fails, Ends, Rest}

-- whether the text matches, by what became of its first piece
abbrev pub holds : Piece → Bool
holds Fails = false
holds Ends = true
holds (Rest pattern text) = some_end (is_like pattern.now) text.now

abbrev pub has_rest : Piece → Bool
has_rest Fails = false
has_rest Ends = false
has_rest (Rest pattern text) = true

-- one more than the pattern's length, where some is left
abbrev pub rest_size : Piece → ℕ
rest_size Fails = 0
rest_size Ends = 0
rest_size (Rest pattern text) = length pattern.now + 1

-- what is behind `_`, 95, or another byte than `%`, where the text begins with it
abbrev pub taken : ℕ → List ℕ → Option (List ℕ)
taken p [] = None
taken p (b ∷ bs) = if p == 95 then (if goes_on b then None else Some (after_char bs)) else (if p == b then Some bs else None)
