-- F = ozone·g/(1 + Rb(g + 0.0004)), and what an hour adds to POD1 and to AOT40 ("Factors", "The
-- exact dose").
use Rattle.std.specs.Prelude.{ℕ, ◌-◌, ◌*◌, Bool, ℤ, nat_lt}
use Rattle.exact.specs.Frac.{Frac, natural, ◌over◌, ◌⊕◌, ◌⊖◌, ◌⊗◌, ◌⊘◌, ◌≼◌}
use Rattle.frames.specs.declared.records.Air.{Air}
use Rattle.frames.specs.declared.records.Air.TheVariants.{Deficit, Pressure, Humidity}
use Rattle.frames.specs.declared.records.Hour.{Hour}
use Rattle.frames.specs.Ozone.{tenths_or}
use Rattle.dose_spec.specs.declared.Stand.{Stand}
use Rattle.dose_spec.specs.BoundaryLayer.{resistance_at}
use Rattle.dose_spec.specs.Conductance.{above_of, conductance_at}

-- T + 273.15 in K; `above_of` is tenths above -50.0 °C
abbrev pub kelvin : ℤ → Frac
kelvin t = above_of t over 10 ⊕ (27315 over 100 ⊖ natural 50)

-- nmol m⁻³ in a ppb: 41.56, or P/(8.31447 × (T + 273.15)) where the pressure is read, P in Pa
-- ("Station pressure"); a tenth of hPa is 10 Pa
abbrev pub per_ppb : Air → ℤ → Frac
per_ppb (Deficit vpd) t = 4156 over 100
per_ppb (Pressure vpd p) t = natural (10 * p) ⊘ (831447 over 100000 ⊗ kelvin t)
per_ppb (Humidity rh) t = 4156 over 100

-- ozone in nmol m⁻³: ppb × that, for tenths of ppb; by itself an hour without ozone is read as one
-- with 0, its fillings say what it may have had
unfoldable pub concentration : Hour → Frac
concentration h = tenths_or 0 h.ozone over 10 ⊗ per_ppb h.air h.temperature

-- F of an ozone concentration, a conductance and a resistance, in nmol m⁻² s⁻¹
unfoldable pub flux : Frac → Frac → Frac → Frac
flux ozone g rb = ozone ⊗ g ⊘ (natural 1 ⊕ rb ⊗ (g ⊕ 4 over 10000))

-- 3600·max(F - Y, 0) nmol m⁻²; Y is 1 for the six trees
unfoldable pub dose : ℕ → Frac → Frac
dose y f = natural 3600 ⊗ (f ⊖ natural y)

unfoldable pub flux_at : ℕ → Stand → Hour → Frac
flux_at k stand h =
    flux (concentration h) (conductance_at k stand h) (resistance_at k stand.figures.leaf h.wind)

unfoldable pub dose_at : ℕ → Stand → Hour → Frac
dose_at k stand h = dose stand.figures.y (flux_at k stand h)

-- an hour is counted if G > 50
abbrev pub is_counted : Hour → Bool
is_counted h = nat_lt 50 h.radiation

-- max(ozone - 400, 0) tenths of ppb h
abbrev pub excess : Hour → ℕ
excess h = tenths_or 0 h.ozone - 400

-- a number is not above the exact dose if it is not above some POD_k, not below it if every POD_k
-- is at most it
pub record NotAbove (n : ℕ) (pod : ℕ → Frac) : Type 0 where
  pub at : ℕ
  pub under : natural n ≼ pod at

pub record NotBelow (n : ℕ) (pod : ℕ → Frac) : Type 0 where
  pub every : (k : ℕ) → pod k ≼ natural n
