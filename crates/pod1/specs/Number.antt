-- The number that a word of decimal digits says, for a call whose numbers have 16 bits.
use Rattle.std.specs.Prelude.{ℕ, ◌+◌, ◌-◌, ◌*◌, min, Bool, ◌&&◌, nat_le, if◌then◌else◌}
use Rattle.std.specs.Prelude.{List, [], ◌∷◌, Option, Some, None}

-- the greatest of the type, for which every greater number stands
abbrev pub greatest_number : ℕ
greatest_number = 65535

-- the bytes from `0` to `9`
abbrev pub is_decimal : ℕ → Bool
is_decimal c = nat_le 48 c && nat_le c 57

-- what the digits say after the number m; none where one is no digit
unfoldable pub said_after : ℕ → List ℕ → Option ℕ
said_after m [] = Some (min m greatest_number)
said_after m (c ∷ cs) = if is_decimal c then said_after (m * 10 + (c - 48)) cs else None

-- a word without digits says none
unfoldable pub number_of : List ℕ → Option ℕ
number_of [] = None
number_of (c ∷ cs) = said_after 0 (c ∷ cs)
