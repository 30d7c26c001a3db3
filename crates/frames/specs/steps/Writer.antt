-- Serves the code's own steps; no reader need believe it.
use Rattle.std.specs.Prelude.{ℕ, List, [], ◌∷◌}
use Rattle.frames.specs.Digits.{number}

-- the digits of two-byte numbers in a row, before those of the rest of the line
abbrev pub numbers : List ℕ → List ℕ → List ℕ
numbers [] rest = rest
numbers (n ∷ ns) rest = number n (numbers ns rest)
