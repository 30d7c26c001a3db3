-- The error budget of an hour: how far apart its two numbers are at most after each step, where
-- f_VPD out of humidity is steep and in any other hour.
use Rattle.std.proofs.lemmas.Bool.Decides.{nat_tests}
use Prim.Native.Nat.{ℕ, ◌+◌, ◌-◌, ◌*◌, ◌≤◌}
use mathlib.Core.Path.{◌≡◌}
use mathlib.Core.Bool.{Bool, true, false}
use native.Mathlib.Omega.{arith}
use lib.Dec.{ltb}
use Rattle.trees.specs.declared.Figures.{Figures}
use Rattle.frames.specs.declared.records.Air.{Air}
use Rattle.frames.specs.declared.records.Air.TheVariants.{Deficit, Pressure, Humidity}
use Rattle.dose_spec.specs.Pair.{most_concentration}
use Rattle.dose_spec.specs.Enclosure.{most_dose, gap_most, gap_dose}

-- f_VPD falls from 1 to f_min within less than 13 Pa, and the deficit is not exact
abbrev pub is_steep : Figures → Air → Bool
is_steep f (Deficit vpd) = false
is_steep f (Pressure vpd p) = false
is_steep f (Humidity rh) = ltb (f.vpd_min - f.vpd_max) 13

-- f_VPD, in units of 10⁻⁹: for a deficit 5·10⁻⁶ Pa more
abbrev pub width_in : Bool → ℕ
width_in true = 4951
width_in false = 381

-- the share, in units of 10⁻⁷
abbrev pub near_in : Bool → ℕ
near_in true = 51
near_in false = 5

-- 18000 times the most that ozone's concentration is: without a pressure 74808 for each tenth of
-- ppb
abbrev pub top_in : Bool → ℕ
top_in true = 374040000
top_in false = most_concentration

-- 3600·F
abbrev pub step_in : Bool → ℕ
step_in true = 5
step_in false = 1

-- the dose

pub gap_dose-is : (f : Figures) (a : Air) → gap_dose f a ≡ step_in (is_steep f a) + 1
gap_dose-is f a = grind (arith, nat_tests)

pub gap_dose-le : (f : Figures) (a : Air) → gap_dose f a ≤ 6
gap_dose-le f a = grind (arith, nat_tests)

-- whatever the kind
pub most_dose-le : (g_max : ℕ) (a : Air) → most_dose g_max a ≤ 3000 * g_max
most_dose-le g_max a = grind arith

pub gap_dose-most : (f : Figures) (a : Air) → gap_dose f a ≤ gap_most f
gap_dose-most f a = grind (arith, nat_tests)
