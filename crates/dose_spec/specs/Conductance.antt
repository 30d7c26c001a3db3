-- g = g_max × f_phen × f_light × max(f_min, f_temp·f_VPD·f_SW) / 41000, in m/s ("Factors"), worked
-- out at k.
use Rattle.std.specs.Prelude.{ℕ, ◌+◌, ◌-◌, ℤ, pos, negsuc, if◌then◌else◌}
use Rattle.exact.specs.Frac.{Frac, ◌over◌, ◌⊗◌, greater}
use Rattle.trees.specs.declared.Figures.{Figures}
use Rattle.trees.specs.Phenology.{phenology_of, by_warmth}
use Rattle.trees.specs.Temperature.{temperature_at}
use Rattle.trees.specs.SoilWater.{soil_water_of}
use Rattle.trees.specs.Warmth.{has_warmth}
use Rattle.frames.specs.declared.records.Hour.{Hour}
use Rattle.frames.specs.Layout.{soil_number}
use Rattle.dose_spec.specs.declared.Stand.{Stand}
use Rattle.dose_spec.specs.Light.{light_at}
use Rattle.dose_spec.specs.Deficit.{deficit_at}

-- tenths of a degree above -50.0 °C; negsuc n is -(n + 1)
abbrev pub above_of : ℤ → ℕ
above_of (pos n) = n + 500
above_of (negsuc n) = 499 - n

-- f_temp·f_VPD·f_SW
abbrev pub limited_at : ℕ → Figures → Hour → Frac
limited_at k f h =
    temperature_at k f (above_of h.temperature)
    ⊗ deficit_at k f h.air (above_of h.temperature)
    ⊗ soil_water_of f (soil_number h.soil)

-- max(f_min, f_temp·f_VPD·f_SW)
unfoldable pub opening_at : ℕ → Figures → Hour → Frac
opening_at k f h = greater (f.f_min over 100) (limited_at k f h)

-- f_phen, the same at every k: by the temperature sum where a frame of warmth stands
unfoldable pub phenology_in : Stand → Hour → Frac
phenology_in stand h =
    if has_warmth stand.age.warmth then by_warmth stand.figures stand.age.warmth stand.age.sum
    else phenology_of stand.figures stand.first stand.last h.day (above_of h.temperature)

-- f_phen × f_light × max(f_min, ..): f_light stands outside the floor f_min
unfoldable pub shared : Frac → Frac → Frac → Frac → Frac
shared floor phen light limited = phen ⊗ light ⊗ greater floor limited

unfoldable pub share_at : ℕ → Stand → Hour → Frac
share_at k stand h =
    shared (stand.figures.f_min over 100) (phenology_in stand h) (light_at k stand.figures h.ppfd)
    (limited_at k stand.figures h)

-- g_max × that / 41000, in m/s
abbrev pub conductance : ℕ → Frac → Frac
conductance g_max share = g_max over 41000 ⊗ share

unfoldable pub conductance_at : ℕ → Stand → Hour → Frac
conductance_at k stand h = conductance stand.figures.g_max (share_at k stand h)
