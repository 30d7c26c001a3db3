-- The cases marked P hold: those of the exact factors by one computation a list, those of f_temp by
-- its laws, the hour's by their definitions.
use Prim.Native.Nat.{◌*◌}
use mathlib.Core.Path.{refl}
use mathlib.Core.Bool.{Bool, true, ◌&&◌}
use mathlib.Core.List.{List, [], ◌∷◌}
use native.Mathlib.Omega.{arith}
use lib.Dec.{T, eqb, eqb→eq}
use store.Enc.{and_l, and_r}
use Rattle.trees.specs.Figures.{continental_spruce, beech}
use Rattle.trees.specs.Temperature.{tried, allowed, temperature_at}
use Rattle.trees.specs.Deficit.{falling, deficit_of}
use Rattle.trees.specs.SoilWater.{soil_water_of}
use Rattle.trees.specs.Phenology.{by_ramps, by_dip, phenology_of}
use Rattle.dose_spec.specs.BenchCases.{phenology_cases, reading_cases, AllSame, BenchCases}
use Rattle.trees.proofs.SoundLaws.{beech-sound}
use Rattle.trees.proofs.TemperatureRoot.{root_at-is}
use Rattle.trees.proofs.TemperatureTable.{greatest-tested}
use Rattle.trees.proofs.TemperatureLaws.{temperature_at-le, temperature_at-optimum}
use Rattle.exact.specs.Frac.{Frac, straight}
use Rattle.exact.proofs.FracLaws.{≼-antisym}

abbrev same : Frac × Frac → Bool
same pair = eqb (pair.0.num * pair.1.den) (pair.1.num * pair.0.den)

abbrev all_same : List (Frac × Frac) → Bool
all_same [] = true
all_same (pair ∷ rest) = same pair && all_same rest

all_same_lem : (l : List (Frac × Frac)) → T (all_same l) → AllSame l
all_same_lem [] h = tt
all_same_lem (pair ∷ rest) h = (
  record { cross = eqb→eq _ _ (and_l (same pair) (all_same rest) h) },
  all_same_lem rest (and_r (same pair) (all_same rest) h),
)

pub bench-cases : BenchCases
unfolding phenology_of by_ramps by_dip falling deficit_of soil_water_of straight tried allowed
    temperature_at
bench-cases = record {
  phenology = all_same_lem phenology_cases tt;
  continental_spruce7_degrees =
      root_at-is continental_spruce 570 (omega arith)
      (greatest-tested continental_spruce 570 769800358 tt);
  beech5_degrees = λ k. record { cross = refl };
  beech16_degrees = λ k.
      ≼-antisym (temperature_at-le beech beech-sound 660 k)
      (temperature_at-optimum beech beech-sound k);
  readings = all_same_lem reading_cases tt;
  radiation50 = λ h e. rw e;
  radiation51 = λ h e. rw e;
  ozone400 = λ h e. rw e;
  ozone401 = λ h e. rw e;
}
