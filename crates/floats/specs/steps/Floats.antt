-- Serves the code's own steps; no reader need believe it.
-- A float's size, cut at 2 ^ 24, from where on every f32 is whole.
use Rattle.std.specs.Prelude.{ℕ, ℤ, ◌*◌, ◌/◌, ◌%◌, min, pos, negsuc, ◌==◌, Float, Option}
use Rattle.std.specs.Prelude.{if◌then◌else◌}
use Rattle.std.specs.Prelude.{Some, None}
use Rattle.std.specs.Float.{nan, inf, fin}
use Rattle.std.specs.Float.Ieee.{up, down}
use Rattle.floats.specs.Whole.{Wholeness, whole, broken}

-- of a float that is not below 0
unfoldable pub cut_size : Float → Option ℕ
cut_size nan = None
cut_size (inf s) = None
cut_size (fin s m e) =
    if m * up e % down e == 0 then Some (min (m * up e / down e) 16777216) else None

abbrev pub cut : Wholeness → Option ℤ
cut (whole (pos n)) = Some (pos (min n 16777216))
cut (whole (negsuc n)) = Some (negsuc (min n 16777215))
cut broken = None
