-- VPD for an hour and its factor ("Factors", "Humidity in place of VPD"), worked out at k. A
-- temperature x is in tenths of a degree above -50.0 °C.
use Rattle.std.specs.Prelude.{ℕ, ◌≤◌}
use Rattle.exact.specs.Frac.{Frac, natural}
use Rattle.trees.specs.declared.Figures.{Figures}
use Rattle.trees.specs.declared.Deficits.{Deficits}
use Rattle.trees.specs.Temperature.{highest_reading}
use Rattle.trees.specs.Deficit.{deficit_of, lower_factor, upper_factor}
use Rattle.frames.specs.declared.records.Air.{Air}
use Rattle.frames.specs.declared.records.Air.TheVariants.{Deficit, Pressure, Humidity}
use Rattle.dose_spec.specs.Vapour.{vpd_at}
use Rattle.dose_spec.specs.HumidityPair.{deficit_pair}

-- VPD in Pa: a reading, the same at every k; in kind 05 out of humidity and temperature
abbrev pub air_vpd_at : ℕ → Air → ℕ → Frac
air_vpd_at k (Deficit vpd) x = natural vpd
air_vpd_at k (Pressure vpd p) x = natural vpd
air_vpd_at k (Humidity rh) x = vpd_at k rh x

-- it never rises as k grows; out of humidity, up to 60.0 °C
abbrev pub HasVpd : Air → ℕ → Type 0
HasVpd (Deficit vpd) x = Unit
HasVpd (Pressure vpd p) x = Unit
HasVpd (Humidity rh) x = x ≤ highest_reading

-- f_VPD
unfoldable pub deficit_at : ℕ → Figures → Air → ℕ → Frac
deficit_at k f air x = deficit_of f (air_vpd_at k air x)

-- ---- between two fractions

-- a reading is both deficits
abbrev pub read_deficits : ℕ → Deficits
read_deficits vpd = record { lower = vpd; upper = vpd; den = 1 }

-- two deficits that enclose VPD
abbrev pub air_deficits : Air → ℕ → Deficits
air_deficits (Deficit vpd) x = read_deficits vpd
air_deficits (Pressure vpd p) x = read_deficits vpd
air_deficits (Humidity rh) x = deficit_pair rh x

unfoldable pub deficit_low : Figures → Air → ℕ → Frac
deficit_low f air x = lower_factor f (air_deficits air x)

unfoldable pub deficit_up : Figures → Air → ℕ → Frac
deficit_up f air x = upper_factor f (air_deficits air x)
