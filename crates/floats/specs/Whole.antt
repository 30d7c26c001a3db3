-- The whole number that a float is ("Loggers that hold floats"). A finite float `fin s m e` is
-- m * 2 ^ e, negative where s is true, and 2 ^ e is the fraction up e / down e (lib.Ieee).
use Rattle.std.specs.Prelude.{ℕ, ◌*◌, ◌/◌, ◌%◌, ◌^◌, ◌≡◌, Bool, true, false, ℤ, pos, neg_ℤ, ◌==◌}
use Rattle.std.specs.Prelude.{if◌then◌else◌}
use Rattle.std.specs.Prelude.{Float}
use Rattle.std.specs.Float.{nan, inf, fin}
use Rattle.std.specs.Float.Ieee.{up, down}

-- how many of a float's subnormal units 1 is: the unit, 1/2¹⁴⁹, is the least number above 0 that a
-- float has, 2⁻²³ of its least power of 2, 2⁻¹²⁶
abbrev pub units_in_one : ℕ
units_in_one = 2 ^ 149

-- n, or -n where s is true; minus zero is 0
abbrev pub signed : Bool → ℕ → ℤ
signed false n = pos n
signed true n = neg_ℤ (pos n)

-- the float is finite, and its value is the whole number z
abbrev pub IsWhole : Float → ℤ → Type 0
IsWhole nan z = ⊥
IsWhole (inf s) z = ⊥
IsWhole (fin s m e) z = (n : ℕ) × (m * up e ≡ n * down e) × (signed s n ≡ z)

-- it is a whole number; or it is not finite or not whole
pub data Wholeness : Type 0 where
  whole : ℤ → Wholeness
  broken : Wholeness

unfoldable pub whole_of : Float → Wholeness
whole_of nan = broken
whole_of (inf s) = broken
whole_of (fin s m e) =
    if m * up e % down e == 0 then whole (signed s (m * up e / down e)) else broken
