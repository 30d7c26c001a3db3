-- The cases of "Bench cases" that are proved from the definitions, in their order. Temperatures are
-- tenths above -50.0 °C: 5.0 °C is 550.
use Rattle.std.specs.Prelude.{ℕ, ◌≡◌, true, false, List, [], ◌∷◌, Some}
use Rattle.trees.specs.declared.Figures.{Figures}
use Rattle.trees.specs.Figures.{boreal_spruce, continental_spruce, beech, evergreen}
use Rattle.trees.specs.Temperature.{root_at, temperature_at}
use Rattle.trees.specs.Deficit.{deficit_of}
use Rattle.trees.specs.SoilWater.{soil_water_of}
use Rattle.trees.specs.Phenology.{phenology_of}
use Rattle.frames.specs.declared.records.Hour.{Hour}
use Rattle.exact.specs.Frac.{Frac, ◌over◌, natural, ◌≈◌}
use Rattle.dose_spec.specs.Dose.{is_counted, excess}

-- at 20.0 °C, which neither ramps nor dip look at
abbrev on_day : Figures → ℕ → ℕ → ℕ → Frac
on_day f first last day = phenology_of f first last day 700

-- each day's f_phen, or a factor's, and its stated value
abbrev pub phenology_cases : List (Frac × Frac)
phenology_cases =
    (on_day beech 105 297 105, 0 over 10)
    ∷ (on_day beech 105 297 115, 5 over 10)
    ∷ (on_day beech 105 297 125, 10 over 10)
    ∷ (on_day beech 105 297 277, 10 over 10)
    ∷ (on_day beech 105 297 287, 7 over 10)
    ∷ (on_day beech 105 297 297, 4 over 10)
    ∷ (on_day evergreen 1 365 145, 65 over 100)
    ∷ (on_day evergreen 1 365 210, 3 over 10)
    ∷ (on_day evergreen 1 365 290, 65 over 100)
    ∷ []

abbrev pub reading_cases : List (Frac × Frac)
reading_cases =
    (deficit_of beech (natural 2050), 565 over 1000)
    ∷ (soil_water_of beech 650, 565 over 1000)
    ∷ (soil_water_of boreal_spruce 80, 55 over 100)
    ∷ []

abbrev pub AllSame : List (Frac × Frac) → Type 0
AllSame [] = Unit
AllSame (pair ∷ rest) = (pair.0 ≈ pair.1) × AllSame rest

pub record BenchCases : Type 0 where
  pub phenology : AllSame phenology_cases
  pub continental_spruce7_degrees : root_at 9 continental_spruce 570 ≡ 769800358
  pub beech5_degrees : (k : ℕ) → temperature_at k beech 550 ≈ 13 over 100
  pub beech16_degrees : (k : ℕ) → temperature_at k beech 660 ≈ natural 1
  pub readings : AllSame reading_cases
  pub radiation50 : (h : Hour) → h.radiation ≡ 50 → is_counted h ≡ false
  pub radiation51 : (h : Hour) → h.radiation ≡ 51 → is_counted h ≡ true
  pub ozone400 : (h : Hour) → h.ozone ≡ Some 400 → excess h ≡ 0
  pub ozone401 : (h : Hour) → h.ozone ≡ Some 401 → excess h ≡ 1
