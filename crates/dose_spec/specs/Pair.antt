-- One counted hour's pair: two whole numbers, in nmol m⁻², that enclose the hour's exact dose ("The
-- exact dose").
-- How the pair is made; what it is worth stands in Enclosure.antt: callers cite those laws, never
-- this text.
use Rattle.std.specs.Prelude.{ℕ, ◌+◌, ◌-◌, ◌*◌, ◌/◌, ◌^◌, max}
use Rattle.exact.specs.declared.Bounds.{Bounds}
use Rattle.exact.specs.Frac.{◌over◌}
use Rattle.exact.specs.Rounding.{round_up, round_down, times_up, times_down}
use Rattle.exact.specs.Root.{square_root}
use Rattle.trees.specs.declared.Figures.{Figures}
use Rattle.trees.specs.Temperature.{temperature_pair}
use Rattle.trees.specs.SoilWater.{soil_water_of}
use Rattle.frames.specs.declared.records.Hour.{Hour}
use Rattle.frames.specs.Ozone.{read_as}
use Rattle.frames.specs.Layout.{soil_number}
use Rattle.dose_spec.specs.declared.Stand.{Stand}
use Rattle.dose_spec.specs.Light.{light_low, light_up}
use Rattle.dose_spec.specs.Deficit.{deficit_low, deficit_up}
use Rattle.dose_spec.specs.BoundaryLayer.{wind_read}
use Rattle.dose_spec.specs.Conductance.{above_of, phenology_in}
use Rattle.dose_spec.specs.Dose.{concentration}

-- ozone's concentration, in units of 1/18000 nmol m⁻³, rounded down and up
unfoldable pub concentration_low : Hour → ℕ
concentration_low h = times_down 18000 (concentration h)

unfoldable pub concentration_up : Hour → ℕ
concentration_up h = times_up 18000 (concentration h)

-- the most that they are in range: 500 ppb at 1100.0 hPa and -50.0 °C are less than 29644 nmol m⁻³,
-- and 533592000 = 18000·29644
abbrev pub most_concentration : ℕ
most_concentration = 533592000

-- max(f_min, f_temp·f_VPD·f_SW), in units of 10⁻⁹
unfoldable pub opening_low : Figures → Hour → ℕ
opening_low f h =
    max (f.f_min * 10 ^ 7)
    (times_down
    (times_down (temperature_pair f (above_of h.temperature)).lower
    (deficit_low f h.air (above_of h.temperature)))
    (soil_water_of f (soil_number h.soil)))

unfoldable pub opening_up : Figures → Hour → ℕ
opening_up f h =
    max (f.f_min * 10 ^ 7)
    (times_up
    (times_up (temperature_pair f (above_of h.temperature)).upper
    (deficit_up f h.air (above_of h.temperature))) (soil_water_of f (soil_number h.soil)))

-- f_phen × f_light × that, in units of 10⁻⁷
unfoldable pub share_low : Stand → Hour → ℕ
share_low stand h =
    round_down
    ((times_down (light_low stand.figures h.ppfd) (phenology_in stand h)
    * opening_low stand.figures h) over 10 ^ 11)

unfoldable pub share_up : Stand → Hour → ℕ
share_up stand h =
    round_up
    ((times_up (light_up stand.figures h.ppfd) (phenology_in stand h)
    * opening_up stand.figures h) over 10 ^ 11)

-- √(leaf/wind) in units of 10⁻⁷: at least this, and below one more
unfoldable pub root_low : ℕ → ℕ → ℕ
root_low leaf wind = square_root (leaf * 10 ^ 13 / wind_read wind)

-- ---- 3600·F, rounded down, at the concentration c/18000, the share p/10⁷ and the root s/10⁷

-- With G = g_max·p the conductance is G/(41000·10⁷) m/s and the resistance 195·s/10⁷ s/m. Above and
-- below the line everything is taken 5·41000·10⁷ times, which makes whole numbers of all but the
-- last.

-- 3600 s · ozone·g: 18000 = 5·3600
unfoldable pub dividend : ℕ → ℕ → ℕ → ℕ
dividend g_max c p = c * (g_max * p)

-- Rb(g + 0.0004), 400000 times: 39/400000 = 5·195/10⁷, and 164000000 = 0.0004 m/s · 41000·10⁷
unfoldable pub resisted : ℕ → ℕ → ℕ → ℕ
resisted g_max p s = 39 * s * (g_max * p + 164000000)

-- 1 + Rb(g + 0.0004), rounded down, or up where `more` is 1: 2050000000000 = 5·41000·10⁷ is the 1
unfoldable pub divisor : ℕ → ℕ → ℕ → ℕ → ℕ
divisor g_max p s more = 2050000000000 + more + resisted g_max p s / 400000

unfoldable pub quotient : ℕ → ℕ → ℕ → ℕ → ℕ → ℕ
quotient g_max c p s more = dividend g_max c p / divisor g_max p s more

-- ---- the pair: 3600·Y is taken off what is rounded down, and off one more

unfoldable pub lower_of : Stand → Hour → ℕ
lower_of stand h =
    quotient stand.figures.g_max (concentration_low h) (share_low stand h)
    (root_low stand.figures.leaf h.wind + 1) 1 - 3600 * stand.figures.y

unfoldable pub upper_of : Stand → Hour → ℕ
upper_of stand h =
    (quotient stand.figures.g_max (concentration_up h) (share_up stand h)
    (root_low stand.figures.leaf h.wind) 0 + 1) - 3600 * stand.figures.y

-- a missing ozone is read as 0 for the lower number, as the ceiling for the upper one ("Hours
-- without ozone")
abbrev pub hour_pair : Stand → Hour → Bounds
hour_pair stand h = record {
  lower = lower_of stand (read_as 0 h);
  upper = upper_of stand (read_as stand.ceiling h);
}
