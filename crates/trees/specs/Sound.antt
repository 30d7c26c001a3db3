-- When figures make sense: each in its range, pairs in their order, p/q equal to
-- (Tmax - Topt)/(Topt - Tmin). Wide enough for a measured tree.
use Rattle.std.specs.Prelude.{ℕ, ◌-◌, ◌*◌, ◌≤◌, ◌<◌, ◌≡◌}
use Rattle.trees.specs.declared.Measure.{Measure}
use Rattle.trees.specs.declared.Measure.TheVariants.{Suction, Water}
use Rattle.trees.specs.declared.Figures.{Figures}

-- soil readings from the dry end to the wet end, "max": falling suction, rising water
abbrev pub SoilSound : Measure → ℕ → ℕ → Type 0
SoilSound Suction wet dry = (wet < dry) × (dry ≤ 10000)
SoilSound Water wet dry = (dry < wet) × (wet ≤ 1000)

pub record Sound (f : Figures) : Type 0 where
  pub g_max : (1 ≤ f.g_max) × (f.g_max ≤ 500)
  pub f_min : (1 ≤ f.f_min) × (f.f_min ≤ 99)
  pub light_a : (1 ≤ f.light_a) × (f.light_a ≤ 200)
  -- from -20 °C to 200 °C, in whole degrees above -50 °C
  pub t_min : 30 ≤ f.t_min
  pub t_opt : f.t_min < f.t_opt
  pub t_max : (f.t_opt < f.t_max) × (f.t_max ≤ 250)
  pub ratio : f.p * (f.t_opt - f.t_min) ≡ f.q * (f.t_max - f.t_opt)
  pub p : (1 ≤ f.p) × (f.p ≤ 22)
  pub q : (1 ≤ f.q) × (f.q ≤ 22)
  pub vpd : (f.vpd_max < f.vpd_min) × (f.vpd_min ≤ 10000)
  pub soil : SoilSound f.measure f.soil_max f.soil_min
  pub leaf : (1 ≤ f.leaf) × (f.leaf ≤ 200)
  pub a : f.a ≤ 100
  pub e : f.e ≤ 100
  pub f1 : f.f1 ≤ 200
  pub f4 : f.f4 ≤ 200
  pub y : f.y ≤ 10
