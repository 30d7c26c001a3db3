-- f_SW ("Factors"): straight from 1 at "max", the wet end, to f_min at "min", never outside f_min
-- to 1.
use Rattle.std.specs.Prelude.{ℕ, ◌-◌}
use Rattle.trees.specs.declared.Measure.{Measure}
use Rattle.trees.specs.declared.Measure.TheVariants.{Suction, Water}
use Rattle.trees.specs.declared.Figures.{Figures}
use Rattle.trees.specs.Deficit.{falling}
use Rattle.exact.specs.Frac.{Frac}

-- how much drier a reading is than another: more suction, less water; 0 where it is not
abbrev pub drier : Measure → ℕ → ℕ → ℕ
drier Suction than reading = reading - than
drier Water than reading = than - reading

unfoldable pub soil_water_of : Figures → ℕ → Frac
soil_water_of f reading =
    falling f.f_min (drier f.measure f.soil_max reading) (drier f.measure f.soil_max f.soil_min)
