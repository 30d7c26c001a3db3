-- The denominators of f_SW and f_phen as they are worked out are at most 1,000,000, for any sound
-- figures, that of f_phen by warmth 2·10⁹, and that of f_VPD so many times the deficit's own.
use Prim.Native.Nat.{ℕ, ◌-◌, ◌*◌, ◌^◌, ◌≤◌, ◌<◌}
use mathlib.Core.Path.{◌≡◌, refl}
use mathlib.Core.Bool.{Bool, true, false, cond}
use native.Mathlib.Nat.{mul-le-mul_right}
use native.Mathlib.Omega.{arith}
use lib.Dec.{ltb, leb}
use Rattle.exact.specs.Frac.{Frac, natural, straight}
use Rattle.trees.specs.declared.Measure.{Measure}
use Rattle.trees.specs.declared.Measure.TheVariants.{Suction, Water}
use Rattle.trees.specs.declared.Phenology.{Phenology}
use Rattle.trees.specs.declared.Phenology.TheVariants.{Ramps, Dip, Temperature}
use Rattle.std.proofs.lemmas.Bool.Decides.{nat_tests}
use Rattle.trees.specs.declared.Figures.{Figures}
use Rattle.trees.specs.declared.Warmth.{Warmth}
use Rattle.trees.specs.Sound.{Sound, SoilSound}
use Rattle.trees.specs.Deficit.{falling, deficit_of}
use Rattle.trees.specs.SoilWater.{drier, soil_water_of}
use Rattle.trees.specs.Phenology.{by_ramps, by_dip, by_temperature, phenology_of, by_warmth}
use Rattle.trees.specs.Temperature.{inside}
use Rattle.exact.proofs.FracLaws.{straight-along, straight-end}

pub record SmallDen (x : Frac) : Type 0 where
  pub den : x.den ≤ 10 ^ 6

cond_small : (t : Bool) {x y : Frac} → SmallDen x → SmallDen y → SmallDen (cond t x y)
cond_small true p q = p
cond_small false p q = q

straight-den : (from to d s top : ℕ) → 100 ≤ top → 100 * s ≤ top → (straight from to d s).den ≤ top
straight-den from to d s top h k = grind (arith, nat_tests, straight-end, straight-along)

straight-small : (from to d s : ℕ) → s ≤ 10000 → SmallDen (straight from to d s)
straight-small from to d s h =
    record { den = straight-den from to d s (10 ^ 6) (omega arith) (omega arith) }

drier-le : (m : Measure) (wet dry : ℕ) → SoilSound m wet dry → drier m wet dry ≤ 10000
drier-le Suction wet dry s = omega arith
drier-le Water wet dry s = omega arith

dip-small : (day : ℕ) → SmallDen (by_dip day)
unfolding by_dip
dip-small day =
    let one : SmallDen (natural 1) = record { den = omega arith } in
    cond_small (leb day 80) one
    (cond_small (ltb day 210) (straight-small 100 30 (day - 80) (210 - 80) (omega arith))
    (cond_small (leb day 260) (record { den = omega arith })
    (cond_small (ltb day 320) (straight-small 30 100 (day - 260) (320 - 260) (omega arith))
    one)))

temperature-small :
    (t_min t_max temperature : ℕ) → SmallDen (by_temperature t_min t_max temperature)
unfolding by_temperature
temperature-small t_min t_max temperature =
    cond_small (inside t_min t_max temperature) (record { den = omega arith })
    (record { den = omega arith })

module _ (f : Figures) (sound : Sound f) where
  pub deficit-small : (vpd : Frac) → (deficit_of f vpd).den ≤ 10 ^ 6 * vpd.den
  unfolding deficit_of falling
  deficit-small vpd = grind (arith, straight-den, mul-le-mul_right)

  pub soil_water-small : (reading : ℕ) → SmallDen (soil_water_of f reading)
  unfolding soil_water_of falling
  soil_water-small reading =
      straight-small _ f.f_min _ _ (drier-le f.measure f.soil_max f.soil_min sound.soil)

  ramps-small : (first last day : ℕ) → SmallDen (by_ramps f first last day)
  unfolding by_ramps
  ramps-small first last day = grind (arith, cond_small, straight-small)

  by-kind-small :
      (kind : Phenology) → f.phenology ≡ kind → (first last day temperature : ℕ) →
      SmallDen (phenology_of f first last day temperature)
  unfolding phenology_of by_ramps
  by-kind-small Ramps e first last day temperature = rw e (ramps-small first last day)
  by-kind-small Dip e first last day temperature = rw e (dip-small day)
  by-kind-small Temperature e first last day temperature =
      grind (arith, nat_tests, temperature-small)

  pub phenology-small :
      (first last day temperature : ℕ) → SmallDen (phenology_of f first last day temperature)
  phenology-small first last day temperature =
      by-kind-small f.phenology refl first last day temperature

  -- 100 · 240 · 65535 is under 2·10⁹
  pub warmth-den :
      (w : Warmth) (sum : ℕ) → w.rise < 65536 → w.fall < 65536 →
      (by_warmth f w sum).den ≤ 2 * 10 ^ 9
  unfolding by_warmth
  warmth-den w sum p q = grind (
    arith,
    nat_tests,
    straight-den f.a 100 sum (240 * w.rise) (2 * 10 ^ 9),
    straight-den f.e 100 (240 * w.end - sum) (240 * w.fall) (2 * 10 ^ 9),
  )
