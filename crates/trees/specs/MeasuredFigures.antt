-- The figures of a measured tree ("A laboratory's own tree"), the same that the six trees have;
-- those of any tree by its number.
use Rattle.std.specs.Prelude.{ℕ, ◌||◌, Option, Some, None, ◌==◌, nat_lt, if◌then◌else◌}
use Rattle.trees.specs.declared.Measure.TheVariants.{Suction}
use Rattle.trees.specs.declared.Phenology.TheVariants.{Ramps}
use Rattle.trees.specs.declared.Source.TheVariants.{Worked}
use Rattle.trees.specs.declared.Figures.{Figures}
use Rattle.trees.specs.Figures.{figures_of}
use Rattle.trees.specs.declared.ratio.Ratio.{Ratio}
use Rattle.trees.specs.Powers.{powers_of}
use Rattle.trees.specs.declared.measured.Parameters.{Parameters}
use Rattle.trees.specs.Parameters.{degrees_of}

-- p and q, reduced and both at most 22, out of the temperatures
abbrev pub powers_in : Parameters → Option Ratio
powers_in p = powers_of (degrees_of p.t_min) (degrees_of p.t_opt) (degrees_of p.t_max)

-- 0 where there are none: row 24 refuses such parameters
abbrev pub p_in : Option Ratio → ℕ
p_in (Some r) = r.p
p_in None = 0

abbrev pub q_in : Option Ratio → ℕ
q_in (Some r) = r.q
q_in None = 0

-- soil is suction, f_phen goes by ramps, f_temp is worked out
unfoldable pub measured_figures : Parameters → Figures
measured_figures ps = record {
  g_max = ps.g_max;
  f_min = ps.f_min;
  light_a = ps.light_a;
  t_min = degrees_of ps.t_min;
  t_opt = degrees_of ps.t_opt;
  t_max = degrees_of ps.t_max;
  p = p_in (powers_in ps);
  q = q_in (powers_in ps);
  source = Worked;
  vpd_max = ps.vpd_max;
  vpd_min = ps.vpd_min;
  measure = Suction;
  soil_max = ps.soil_max;
  soil_min = ps.soil_min;
  leaf = ps.leaf;
  phenology = Ramps;
  a = ps.a;
  e = ps.e;
  f1 = ps.f1;
  f4 = ps.f4;
  y = ps.y;
}

-- by the tree's number, those of tree 7 by its parameters: before they are fed it has no ramps
unfoldable pub figures_in : Parameters → ℕ → Option Figures
figures_in ps tree = if tree == 7 then Some (measured_figures ps) else figures_of tree

-- row 5: tree not 1 to 7
abbrev pub number_row : ℕ → ℕ
number_row tree = if nat_lt tree 1 || nat_lt 7 tree then 5 else 0
