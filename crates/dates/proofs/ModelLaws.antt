-- The model's days by whole numbers, in hundredths of a day; inside row 14's ranges nothing is cut
-- off at 0, and the extremes.
use Prim.Native.Nat.{ℕ, ◌+◌, ◌-◌, ◌*◌, ◌/◌}
use mathlib.Core.Path.{◌≡◌, refl}
use native.Mathlib.Omega.{arith}
use Rattle.exact.specs.Frac.{natural, ◌⊕◌, ◌⊗◌, ◌≈◌}
use Rattle.exact.specs.Rounding.{round_up, round_down}
use Rattle.dates.specs.Model.{north, south, climb, start_rate, end_rate, model_start, model_end}
use Rattle.dates.specs.Model.{first_day, last_day}
use Rattle.dates.specs.Promise.{InPlace, ModelKept}

-- ---- worked cases

pub sixty-is : (first_day 600 0 ≡ 120) × (last_day 600 0 ≡ 277)
unfolding round_up model_start round_down model_end
sixty-is = (refl, refl)

-- both roundings, a hundredth of a day off
pub edges-is : (first_day 500 1 ≡ 106) × (last_day 500 1 ≡ 296)
unfolding round_up model_start round_down model_end
edges-is = (refl, refl)

pub extremes-is :
    (first_day 350 0 ≡ 83) × (last_day 350 0 ≡ 327) × (first_day 720 3000 ≡ 168)
    × (last_day 720 3000 ≡ 223)
unfolding round_up model_start round_down model_end
extremes-is = (refl, refl, refl, refl)

-- ---- in hundredths of a day

module _ (latitude height : ℕ) where
  pub first_day-is :
      first_day latitude height
      ≡ (10500 + 15 * (latitude - 500) + height - 15 * (500 - latitude) + 99) / 100
  unfolding round_up model_start
  first_day-is = omega arith

  pub last_day-is :
      last_day latitude height
      ≡ (29700 + 20 * (500 - latitude) - (20 * (latitude - 500) + height)) / 100
  unfolding round_down model_end
  last_day-is = omega arith

-- ---- inside row 14's ranges

module _ (latitude height : ℕ) (p : InPlace latitude height) where
  start-whole :
      model_start latitude height ⊕ start_rate ⊗ south latitude
      ≈ natural 105 ⊕ start_rate ⊗ north latitude ⊕ climb height
  unfolding model_start
  start-whole = record { cross = omega (arith, p) }

  end_whole :
      model_end latitude height ⊕ (end_rate ⊗ north latitude ⊕ climb height)
      ≈ natural 297 ⊕ end_rate ⊗ south latitude
  unfolding model_end
  end_whole = record { cross = omega (arith, p) }

  pub model-kept : ModelKept latitude height
  model-kept = grind (arith, p, first_day-is, last_day-is, extremes-is, start-whole, end_whole)

module _ (latitude height : ℕ) (p : InPlace latitude (height + 1000)) where
  pub thousand-is :
      (first_day latitude (height + 1000) ≡ first_day latitude height + 10)
      × (last_day latitude (height + 1000) + 10 ≡ last_day latitude height)
  thousand-is = grind (arith, p, first_day-is, last_day-is)

-- what the functions of the days name in `using`
pub ruleset days = (first_day-is, last_day-is)
