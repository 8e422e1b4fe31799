-- A Vec whose whole slice is lent.
use Rattle.std.specs.Prelude.{List, ◌++◌, length, take, drop}

-- what it holds after the slice came back as w
abbrev pub written_back : {X : Type 0} → List X → List X → List X
written_back old w = take (length old) (w ++ drop (length w) old)
