-- For any sound figures f_SW and f_phen lie between their limits; f_SW has its stated values at
-- "max" and "min", falls with suction and rises with water.
use Rattle.std.proofs.lemmas.Bool.Decides.{nat_tests}
use Prim.Native.Nat.{ℕ, ◌≤◌, ◌<◌}
use mathlib.Core.Path.{◌≡◌}
use native.Mathlib.Omega.{arith}
use Rattle.trees.specs.declared.Measure.{Measure}
use Rattle.trees.specs.declared.Measure.TheVariants.{Suction, Water}
use Rattle.trees.specs.declared.Phenology.{Phenology}
use Rattle.trees.specs.declared.Phenology.TheVariants.{Ramps, Dip, Temperature}
use Rattle.trees.specs.declared.Figures.{Figures}
use Rattle.trees.specs.declared.Warmth.{Warmth}
use Rattle.trees.specs.Sound.{Sound, SoilSound}
use Rattle.trees.specs.Deficit.{falling}
use Rattle.trees.specs.SoilWater.{drier, soil_water_of}
use Rattle.trees.specs.Phenology.{by_ramps, by_dip, by_temperature, phenology_of, by_warmth}
use Rattle.trees.specs.Temperature.{inside}
use Rattle.exact.specs.Frac.{◌over◌, natural, straight, ◌≼◌, ◌≈◌, Between}
use Rattle.exact.proofs.GreaterLaws.{cond-le}
use Rattle.exact.proofs.FracLaws.{≼_trans, straight-start, straight-end, straight-le, straight-ge}
use Rattle.exact.proofs.FracLaws.{straight-anti}

whole_le : 100 over 100 ≼ natural 1
whole_le = omega arith

-- between percentages up to 100 a line stays below 1
line-le : (from to d s : ℕ) → from ≤ 100 → to ≤ 100 → straight from to d s ≼ natural 1
line-le from to d s p q = ≼_trans (straight-le from to d s 100 p q) whole_le

dip-le : (day : ℕ) → by_dip day ≼ natural 1
unfolding by_dip
dip-le day = grind (arith, cond-le, line-le)

temperature-le : (t_min t_max temperature : ℕ) → by_temperature t_min t_max temperature ≼ natural 1
unfolding by_temperature
temperature-le t_min t_max temperature =
    cond-le (inside t_min t_max temperature) (omega arith) (omega arith)

drier-none : (m : Measure) (x : ℕ) → drier m x x ≡ 0
drier-none Suction x = omega arith
drier-none Water x = omega arith

drier-pos : (m : Measure) (wet dry : ℕ) → SoilSound m wet dry → 0 < drier m wet dry
drier-pos Suction wet dry s = omega arith
drier-pos Water wet dry s = omega arith

-- ---- the line from 1 to f_min

module _ (f : Figures) (sound : Sound f) where
  pub falling-limits : (d s : ℕ) → Between (f.f_min over 100) (natural 1) (falling f.f_min d s)
  unfolding falling
  falling-limits d s = grind (arith, straight-ge, line-le)

  pub falling-anti : (d d' s : ℕ) → d ≤ d' → falling f.f_min d' s ≼ falling f.f_min d s
  unfolding falling
  falling-anti d d' s h = straight-anti _ _ d d' s (omega (arith, sound.f_min)) h

  pub falling-start : (d s : ℕ) → d ≡ 0 → 0 < s → falling f.f_min d s ≈ natural 1
  unfolding falling
  falling-start d s e h = rw e (let p = straight-start 100 f.f_min s h in omega arith)

  pub falling-end : (d s : ℕ) → s ≤ d → falling f.f_min d s ≈ f.f_min over 100
  unfolding falling
  falling-end d s h = rw (straight-end _ f.f_min d s h) (omega arith)

  -- ---- f_SW

  pub soil_water-limits :
      (reading : ℕ) → Between (f.f_min over 100) (natural 1) (soil_water_of f reading)
  unfolding soil_water_of
  soil_water-limits reading = falling-limits _ _

  pub soil_water-max : soil_water_of f f.soil_max ≈ natural 1
  unfolding soil_water_of
  soil_water-max =
      falling-start _ _ (drier-none f.measure f.soil_max)
      (drier-pos f.measure f.soil_max f.soil_min sound.soil)

  pub soil_water-min : soil_water_of f f.soil_min ≈ f.f_min over 100
  unfolding soil_water_of
  soil_water-min = falling-end _ _ (omega arith)

  pub suction-anti :
      f.measure ≡ Suction → (kpa kpa' : ℕ) → kpa ≤ kpa' → soil_water_of f kpa' ≼ soil_water_of f kpa
  unfolding soil_water_of
  suction-anti e kpa kpa' h = rw e (falling-anti _ _ _ (omega arith))

  pub water-mono :
      f.measure ≡ Water → (tenths tenths' : ℕ) → tenths ≤ tenths' →
      soil_water_of f tenths ≼ soil_water_of f tenths'
  unfolding soil_water_of
  water-mono e tenths tenths' h = rw e (falling-anti _ _ _ (omega arith))

  -- ---- f_phen

  ramps-le : (first last day : ℕ) → by_ramps f first last day ≼ natural 1
  unfolding by_ramps
  ramps-le first last day = grind (arith, cond-le, line-le)

  by-kind-le :
      (kind : Phenology) → f.phenology ≡ kind → (first last day temperature : ℕ) →
      phenology_of f first last day temperature ≼ natural 1
  unfolding phenology_of by_ramps
  by-kind-le Ramps e first last day temperature = rw e (ramps-le first last day)
  by-kind-le Dip e first last day temperature = rw e (dip-le day)
  by-kind-le Temperature e first last day temperature = grind (arith, nat_tests, temperature-le)

  pub phenology-limits :
      (first last day temperature : ℕ) →
      Between (natural 0) (natural 1) (phenology_of f first last day temperature)
  phenology-limits first last day temperature = grind (arith, nat_tests, by-kind-le)

  warmth-le : (w : Warmth) (sum : ℕ) → by_warmth f w sum ≼ natural 1
  unfolding by_warmth
  warmth-le w sum = grind (arith, cond-le, line-le)

  pub warmth-limits : (w : Warmth) (sum : ℕ) → Between (natural 0) (natural 1) (by_warmth f w sum)
  warmth-limits w sum = record { above = omega arith; below = warmth-le w sum }
