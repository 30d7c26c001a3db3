-- The fields of a line ("Frames"): after the byte of its kind the kind's numbers in order, as wide
-- as the table of Kinds has them.
use Rattle.std.specs.Prelude.{ℕ, ◌+◌, List, [], ◌∷◌}
use Rattle.frames.specs.Digits.{byte_at, number_at, byte, number}
use Rattle.frames.specs.Kinds.{Width, one, two, widths_of, size_of}

-- the number of this width at a place of the line l, and its digits before those of the rest of a
-- line
abbrev pub value_at : Width → ℕ → List ℕ → ℕ
value_at one at l = byte_at at l
value_at two at l = number_at at l

abbrev pub digits_as : Width → ℕ → List ℕ → List ℕ
digits_as one n rest = byte n rest
digits_as two n rest = number n rest

-- the numbers of these widths that stand in the line l from place `at` on
abbrev pub numbers_at : List Width → ℕ → List ℕ → List ℕ
numbers_at [] at l = []
numbers_at (w ∷ ws) at l = value_at w at l ∷ numbers_at ws (at + size_of w) l

-- the digits of numbers of these widths
abbrev pub digits_of : List Width → List ℕ → List ℕ
digits_of [] ns = []
digits_of (w ∷ ws) [] = []
digits_of (w ∷ ws) (n ∷ ns) = digits_as w n (digits_of ws ns)

-- the numbers of a kind's fields in a line of that kind
abbrev pub fields_at : ℕ → List ℕ → List ℕ
fields_at kind l = numbers_at (widths_of kind) (size_of one) l
