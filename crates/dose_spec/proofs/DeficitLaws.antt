-- f_VPD for an hour, for any sound figures: at most 1, never falling as k grows, and enclosed by
-- its two fractions; a number times these stays close.
use Rattle.std.proofs.lemmas.Bool.Decides.{nat_tests}
use Prim.Native.Nat.{ℕ, ◌+◌, ◌-◌, ◌*◌, ◌^◌, ◌≤◌}
use mathlib.Core.Path.{◌≡◌, refl}
use mathlib.Core.Bool.{Bool, false}
use native.Mathlib.Nat.{le_trans}
use native.Mathlib.Omega.{arith}
use lib.Dec.{ltb}
use lib.IntN.{ℤ}
use Rattle.exact.specs.Frac.{natural, ◌over◌, ◌≼◌}
use Rattle.exact.specs.Rounding.{times_up, times_down}
use Rattle.exact.proofs.FracLaws.{≼_refl, ≼_trans}
use Rattle.exact.proofs.RoundingLaws.{times-order, times-gap, times_up-mono}
use Rattle.trees.specs.declared.Figures.{Figures}
use Rattle.trees.specs.Sound.{Sound}
use Rattle.trees.specs.Temperature.{highest_reading}
use Rattle.trees.specs.Deficit.{deficit_of, lower_deficit, upper_deficit, lower_factor}
use Rattle.trees.proofs.DeficitLaws.{deficit-limits, deficit-anti}
use Rattle.frames.specs.Temperature.{temperature_out}
use Rattle.frames.specs.declared.records.Air.{Air}
use Rattle.frames.specs.declared.records.Air.TheVariants.{Deficit, Pressure, Humidity}
use Rattle.dose_spec.specs.HumidityPair.{entry_k}
use Rattle.dose_spec.proofs.FactorLaws.{factor-mono, factor-low, factor-high, factor-gap}
use Rattle.dose_spec.specs.Deficit.{air_vpd_at, HasVpd, deficit_at, air_deficits, deficit_low}
use Rattle.dose_spec.specs.Deficit.{deficit_up}
use Rattle.dose_spec.specs.Conductance.{above_of}
use Rattle.dose_spec.proofs.BudgetLaws.{is_steep, width_in}

-- up to 60.0 °C, in range
pub above-highest : (t : ℤ) → temperature_out t ≡ false → above_of t ≤ highest_reading
unfolding temperature_out
above-highest t e = grind (arith, nat_tests)

pub has-vpd : (a : Air) {x : ℕ} → x ≤ highest_reading → HasVpd a x
has-vpd a h = grind arith

module _ (f : Figures) (s : Sound f) where
  -- ---- at k

  pub deficit_at-le : (k : ℕ) (a : Air) (x : ℕ) → deficit_at k f a x ≼ natural 1
  unfolding deficit_at
  deficit_at-le k a x = (deficit-limits f s (air_vpd_at k a x)).below

  pub deficit_at-mono :
      (a : Air) (x : ℕ) → HasVpd a x → {k l : ℕ} → k ≤ l → deficit_at k f a x ≼ deficit_at l f a x
  unfolding deficit_at
  deficit_at-mono a x has j = grind (arith, ≼_refl, factor-mono f s)

  -- ---- between the two fractions

  -- a reading n is n/1
  low-is : (n : ℕ) → deficit_of f (n over 1) ≼ deficit_of f (natural n)
  low-is n = deficit-anti f s (natural n) (n over 1) (record { cross = omega arith })

  high_is : (n : ℕ) → deficit_of f (natural n) ≼ deficit_of f (n over 1)
  high_is n = deficit-anti f s (n over 1) (natural n) (record { cross = omega arith })

  pub deficit-low : (a : Air) (x : ℕ) → HasVpd a x → deficit_low f a x ≼ deficit_at entry_k f a x
  unfolding deficit_at deficit_low
  deficit-low a x has = grind (arith, low-is, factor-low f s)

  pub deficit-high :
      (a : Air) (x : ℕ) → HasVpd a x → (k : ℕ) → deficit_at k f a x ≼ deficit_up f a x
  unfolding deficit_at deficit_up
  deficit-high a x has k = grind (arith, high_is, factor-high f s)

  pub deficit_low-le : (a : Air) (x : ℕ) → deficit_low f a x ≼ natural 1
  unfolding deficit_low
  deficit_low-le a x = (deficit-limits f s (upper_deficit (air_deficits a x))).below

  pub deficit_up-le : (a : Air) (x : ℕ) → deficit_up f a x ≼ natural 1
  unfolding deficit_up
  deficit_up-le a x = (deficit-limits f s (lower_deficit (air_deficits a x))).below

  -- ---- a number times them

  pub deficit-order :
      (a : Air) (x : ℕ) → HasVpd a x → (l u : ℕ) → l ≤ u →
      times_down l (deficit_low f a x) ≤ times_up u (deficit_up f a x)
  deficit-order a x has l u j =
      le_trans (times-order l u (deficit_low f a x) j)
      (times_up-mono u (≼_trans (deficit-low a x has) (deficit-high a x has entry_k)))

  -- the fall over 5·10⁻⁶ Pa, by the deficit's range
  steep-width :
      (t : Bool) → ltb (f.vpd_min - f.vpd_max) 13 ≡ t →
      (10 ^ 9 + 1) * (100 - f.f_min) ≤ width_in t * (20000000 * (f.vpd_min - f.vpd_max))
  steep-width t e = grind (arith, nat_tests, s.vpd, s.f_min)

  module _ (x l u c : ℕ) (j : u ≤ l + c) (few : u ≤ 10 ^ 9 + 1) where
    pub deficit-gap :
        (a : Air) →
        times_up u (deficit_up f a x)
        ≤ times_down l (deficit_low f a x) + (c + width_in (is_steep f a) + 1)
    unfolding deficit_low deficit_up
    deficit-gap (Deficit vpd) =
        omega (
          arith,
          times-gap l u (lower_factor f (air_deficits (Deficit vpd) x)) c
              (deficit_low-le (Deficit vpd) x) j,
        )
    deficit-gap (Pressure vpd p) =
        omega (
          arith,
          times-gap l u (lower_factor f (air_deficits (Pressure vpd p) x)) c
              (deficit_low-le (Pressure vpd p) x) j,
        )
    deficit-gap (Humidity rh) = factor-gap f s rh x l u c _ j few (steep-width _ refl)
