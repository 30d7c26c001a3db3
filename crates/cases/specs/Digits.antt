-- The number that capital hexadecimal digits say, the first the most significant.
use Rattle.std.specs.Prelude.{ℕ, zero, suc, ◌+◌, ◌*◌, List, [], ◌∷◌, slice_index}
use Rattle.frames.specs.Digits.{value_of}

-- that of n digits from place `at` of the line l on; a place past the line's end says 0
unfoldable pub hex_at : ℕ → ℕ → List ℕ → ℕ
hex_at zero at l = 0
hex_at (suc n) at l = hex_at n at l * 16 + value_of (slice_index l (at + n))

-- the numbers that n groups of four digits say, from place `at` of the line l on
unfoldable pub numbers_read : ℕ → ℕ → List ℕ → List ℕ
numbers_read zero at l = []
numbers_read (suc n) at l = hex_at 4 at l ∷ numbers_read n (at + 4) l
