-- The factor facts, gathered: f_phen piece by piece with both ends of each piece, f_temp with its
-- pair, f_VPD and f_SW.
use Prim.Native.Nat.{ℕ, ◌+◌, ◌-◌, ◌*◌, ◌≤◌, ◌<◌}
use mathlib.Core.Path.{◌≡◌}
use native.Mathlib.Omega.{arith}
use Rattle.trees.specs.declared.Phenology.TheVariants.{Ramps, Dip}
use Rattle.std.proofs.lemmas.Bool.Decides.{nat_tests}
use Rattle.trees.specs.declared.Figures.{Figures}
use Rattle.trees.specs.declared.Warmth.{Warmth}
use Rattle.trees.specs.Sound.{Sound}
use Rattle.trees.specs.Phenology.{by_ramps, by_dip, by_temperature, phenology_of, by_warmth}
use Rattle.trees.specs.Facts.{RampFacts, DipFacts, PhenologyFacts, WarmthFacts, TemperatureFacts}
use Rattle.trees.specs.Facts.{DeficitFacts, SoilWaterFacts, FactorFacts}
use Rattle.trees.proofs.FactorLaws.{
  soil_water-limits,
  soil_water-max,
  soil_water-min,
  suction-anti,
  water-mono,
  phenology-limits,
  warmth-limits,
}
use Rattle.trees.proofs.DeficitLaws.{deficit-limits, deficit-max, deficit-min, deficit-anti}
use Rattle.trees.proofs.DeficitLaws.{deficit-near}
use Rattle.trees.proofs.TemperatureLaws.{
  temperature_at-above,
  temperature_at-le,
  temperature_at-mono,
  temperature_at-outside,
  temperature_at-optimum,
  temperature_pair-low,
  temperature_pair-high,
  temperature_pair-gap,
}
use Rattle.exact.specs.Frac.{◌over◌, natural, straight, ◌≈◌}
use Rattle.exact.proofs.FracLaws.{≼-antisym, straight-start, straight-end}

-- ---- f_phen by ramps

module _ (f : Figures) (first last : ℕ) (fits : first + f.f1 + f.f4 ≤ last) where
  ramps-first : 0 < f.f1 → by_ramps f first last first ≈ f.a over 100
  unfolding by_ramps
  ramps-first h =
      let none : first - first ≡ 0 = omega arith in
      rw none (grind (arith, nat_tests, straight-start))

  ramps-between :
      (day : ℕ) → first + f.f1 ≤ day → day + f.f4 ≤ last → by_ramps f first last day ≈ natural 1
  unfolding by_ramps
  ramps-between day p q = grind (arith, nat_tests, straight-end)

  -- where the rise ends f_phen is 1, and so is the line; and so where the fall begins
  ramps-rising :
      (day : ℕ) → first ≤ day → day ≤ first + f.f1 →
      by_ramps f first last day ≈ straight f.a 100 (day - first) f.f1
  unfolding by_ramps
  ramps-rising day p q = grind (arith, nat_tests, straight-end)

  ramps-falling :
      (day : ℕ) → last ≤ day + f.f4 → day ≤ last →
      by_ramps f first last day ≈ straight f.e 100 (last - day) f.f4
  unfolding by_ramps
  ramps-falling day p q = grind (arith, nat_tests, straight-end)

  ramps-last : 0 < f.f4 → by_ramps f first last last ≈ f.e over 100
  unfolding by_ramps
  ramps-last h = grind (arith, nat_tests, straight-start)

-- ---- f_phen by warmth

module _ (f : Figures) (w : Warmth) where
  warmth-first : w.rise + w.fall ≤ w.end → 0 < w.rise → by_warmth f w 0 ≈ f.a over 100
  unfolding by_warmth
  warmth-first fits h = grind (arith, nat_tests, straight-start)

  warmth-between :
      (sum : ℕ) → 240 * w.rise ≤ sum → sum + 240 * w.fall ≤ 240 * w.end →
      by_warmth f w sum ≈ natural 1
  unfolding by_warmth
  warmth-between sum p q = grind (arith, nat_tests, straight-end)

  -- where the fall begins f_phen is 1, and so is the line
  warmth-falls :
      w.rise + w.fall ≤ w.end → (sum : ℕ) → 240 * w.end ≤ sum + 240 * w.fall → sum ≤ 240 * w.end →
      by_warmth f w sum ≈ straight f.e 100 (240 * w.end - sum) (240 * w.fall)
  unfolding by_warmth
  warmth-falls fits sum p q = grind (arith, nat_tests, straight-end)

  warmth-last : 0 < w.fall → by_warmth f w (240 * w.end) ≈ f.e over 100
  unfolding by_warmth
  warmth-last h = grind (arith, nat_tests, straight-start)

-- ---- the four factors

module _ (f : Figures) (s : Sound f) where
  ramp-facts :
      f.phenology ≡ Ramps → (first last x : ℕ) → first + f.f1 + f.f4 ≤ last →
      RampFacts f first last (λ day. phenology_of f first last day x)
  unfolding phenology_of by_ramps
  ramp-facts e first last x fits =
      rw e (grind (arith, ramps-first, ramps-rising, ramps-between, ramps-falling, ramps-last))

  dip-facts :
      f.phenology ≡ Dip → (first last x : ℕ) → DipFacts (λ day. phenology_of f first last day x)
  unfolding phenology_of by_dip straight
  dip-facts e first last x = rw e (grind (arith, nat_tests))

  phenology-facts : PhenologyFacts f
  unfolding phenology_of by_temperature
  phenology-facts = grind (arith, nat_tests, phenology-limits, ramp-facts, dip-facts)

  warmth-facts : (w : Warmth) → WarmthFacts f w
  unfolding by_warmth
  warmth-facts w = grind (
    arith,
    nat_tests,
    warmth-limits,
    warmth-first,
    warmth-between,
    warmth-falls,
    warmth-last,
  )

  temperature-facts : TemperatureFacts f
  temperature-facts = record {
    limits =
        λ k x. record { above = temperature_at-above f s x k; below = temperature_at-le f s x k };
    outside = λ k x h. rw (temperature_at-outside f s x k h) (omega arith);
    optimum =
        λ k. ≼-antisym (temperature_at-le f s (10 * f.t_opt) k) (temperature_at-optimum f s k);
    grows = λ k l x h. temperature_at-mono f s x h;
    pair = λ x. record {
      at = 9;
      low = temperature_pair-low f s x;
      high = temperature_pair-high f s x;
      near = temperature_pair-gap f s x;
    };
  }

  deficit-facts : DeficitFacts f
  deficit-facts =
      grind (arith, deficit-limits, deficit-max, deficit-min, deficit-anti, deficit-near)

  soil_water-facts : SoilWaterFacts f
  soil_water-facts = record {
    limits = soil_water-limits f s;
    max = soil_water-max f s;
    min = soil_water-min f s;
    falls = suction-anti f s;
    rises = water-mono f s;
  }

pub factor-facts : FactorFacts
factor-facts = record {
  phenology = phenology-facts;
  warmth = warmth-facts;
  temperature = temperature-facts;
  deficit = deficit-facts;
  soil_water = soil_water-facts;
}

-- what the functions name in `using`
pub ruleset facts = (factor-facts)
