-- What the deficit out of humidity is worth ("Humidity in place of VPD"), for every reading from
-- -50.0 to 60.0 °C: exp(y) at k never rises as k grows, y stays under 4, and the two deficits
-- enclose VPD.
use Rattle.std.specs.Prelude.{ℕ, ◌+◌, ◌≤◌, ◌≡◌}
use Rattle.exact.specs.Frac.{natural, ◌over◌, ◌≼◌, ◌≺◌}
use Rattle.trees.specs.Temperature.{highest_reading}
use Rattle.dose_spec.specs.Vapour.{Signed, plus, minus, celsius, exponent, exp_at, saturation_at}
use Rattle.dose_spec.specs.Vapour.{vpd_at}
use Rattle.dose_spec.specs.HumidityPair.{entry_k, entry_of, units_per_kpa, deficit_pair}

-- a number is under n, and so is each that is under 0
abbrev pub Under : ℕ → Signed → Type 0
Under n (plus y) = y ≺ natural n
Under n (minus z) = Unit {0}

pub record SaturationFacts (x : ℕ) : Type 0 where
  -- y stays under 4
  pub exponent_under : Under 4 (exponent (celsius x))
  -- exp(y) at k never rises
  pub falls : (k l : ℕ) → k ≤ l → exp_at l (exponent (celsius x)) ≼ exp_at k (exponent (celsius x))
  -- the table's entry is not above the saturation pressure at any k
  pub low : (k : ℕ) → entry_of x over units_per_kpa ≼ saturation_at k x
  -- and the next number not below it at a k
  pub high : saturation_at entry_k x ≼ (entry_of x + 1) over units_per_kpa

pub record VpdFacts (h x : ℕ) : Type 0 where
  -- VPD at k never rises
  pub falls : (k l : ℕ) → k ≤ l → vpd_at l h x ≼ vpd_at k h x
  -- the lower deficit is not above VPD at any k
  pub low : (k : ℕ) → (deficit_pair h x).lower over (deficit_pair h x).den ≼ vpd_at k h x
  -- the upper one is not below VPD at a k
  pub high : vpd_at entry_k h x ≼ (deficit_pair h x).upper over (deficit_pair h x).den

-- worked cases: the table's entry at -10.0, 0.0 and 20.0 °C
pub record SaturationCases : Type 0 where
  pub cold : entry_of 400 ≡ 57276951
  pub zero : entry_of 500 ≡ 122200000
  pub warm : entry_of 700 ≡ 467295885

pub record HumidityFacts : Type 0 where
  pub saturation : (x : ℕ) → x ≤ highest_reading → SaturationFacts x
  pub deficit : (h x : ℕ) → x ≤ highest_reading → VpdFacts h x
  pub cases : SaturationCases
