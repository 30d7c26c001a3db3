-- Capital hexadecimal digits, two a byte, and two-byte numbers, high byte first ("Frames").
use Rattle.std.specs.Prelude.{ℕ, ◌+◌, ◌-◌, ◌*◌, ◌/◌, ◌%◌, Bool, true, ◌&&◌, ◌||◌, List, [], nat_lt}
use Rattle.std.specs.Prelude.{nat_le, slice_index, if◌then◌else◌}
use Rattle.std.specs.Prelude.{◌∷◌}

-- from low to high, both included
abbrev pub within : ℕ → ℕ → ℕ → Bool
within low high c = nat_le low c && nat_le c high

-- 0-9 are the bytes 48 to 57, A-F the bytes 65 to 70
unfoldable pub is_digit : ℕ → Bool
is_digit c = within 48 57 c || within 65 70 c

-- what a digit says (0 of any other byte)
unfoldable pub value_of : ℕ → ℕ
value_of c = if within 48 57 c then c - 48 else (if within 65 70 c then c - 55 else 0)

-- the low four bits of a character, with 9 more for each 64 in it: a digit's value, and of a
-- character that is no digit a number below 16 that says nothing
unfoldable pub bits_of : ℕ → ℕ
bits_of c = (c % 16 + 9 * (c / 64)) % 16

unfoldable pub all_digits : List ℕ → Bool
all_digits [] = true
all_digits (c ∷ cs) = is_digit c && all_digits cs

-- the byte, and the two-byte number, whose digits begin at place `at` of the line l
unfoldable pub byte_at : ℕ → List ℕ → ℕ
byte_at at l = value_of (slice_index l at) * 16 + value_of (slice_index l (at + 1))

unfoldable pub number_at : ℕ → List ℕ → ℕ
number_at at l = byte_at at l * 256 + byte_at (at + 2) l

-- the digit that says d, below 16
unfoldable pub digit_of : ℕ → ℕ
digit_of d = if nat_lt d 10 then d + 48 else d + 55

-- the digits of the byte n, and of the two-byte number n, before those of the rest of the line
abbrev pub byte : ℕ → List ℕ → List ℕ
byte n rest = digit_of (n / 16) ∷ digit_of (n % 16) ∷ rest

abbrev pub number : ℕ → List ℕ → List ℕ
number n rest = byte (n / 256) (byte (n % 256) rest)
