-- "Tree table": each tree's figures, in the units of src/lib.rt.
use Rattle.std.specs.Prelude.{ℕ, ◌+◌, ◌||◌, Option, Some, None, ◌==◌, nat_lt, if◌then◌else◌}
use Rattle.trees.specs.declared.Measure.{Measure}
use Rattle.trees.specs.declared.Measure.TheVariants.{Suction, Water}
use Rattle.trees.specs.declared.Phenology.{Phenology}
use Rattle.trees.specs.declared.Phenology.TheVariants.{Ramps, Dip, Temperature}
use Rattle.trees.specs.declared.Curve.{Curve}
use Rattle.trees.specs.declared.Curve.TheVariants.{BorealSpruce, Birch, ContinentalSpruce, Beech}
use Rattle.trees.specs.declared.Curve.TheVariants.{Oak, Evergreen}
use Rattle.trees.specs.declared.Source.TheVariants.{Tabled}
use Rattle.trees.specs.declared.Figures.{Figures}

-- degrees Celsius as whole degrees above -50 °C
abbrev celsius : ℕ → ℕ
celsius t = 50 + t

-- a line of the table: the three temperatures are given in °C; Y is 1 for each of the six
abbrev tree_line : Curve → ℕ → ℕ → ℕ → ℕ → ℕ → ℕ → ℕ → ℕ → ℕ → ℕ → Measure → ℕ → ℕ → ℕ → Phenology →
    ℕ → ℕ → ℕ → ℕ → Figures
tree_line curve' g_max' f_min' light_a' t_min' t_opt' t_max' p' q' vpd_max' vpd_min' measure'
    soil_max'
    soil_min' leaf' phenology' a' e' f1' f4' = record {
      g_max = g_max';
      f_min = f_min';
      light_a = light_a';
      t_min = celsius t_min';
      t_opt = celsius t_opt';
      t_max = celsius t_max';
      p = p';
      q = q';
      source = Tabled curve';
      vpd_max = vpd_max';
      vpd_min = vpd_min';
      measure = measure';
      soil_max = soil_max';
      soil_min = soil_min';
      leaf = leaf';
      phenology = phenology';
      a = a';
      e = e';
      f1 = f1';
      f4 = f4';
      y = 1;
    }

-- its curve of f_temp, g_max, f_min, light_a, Tmin Topt Tmax, p q, VPD max min, soil max min, leaf,
-- phenology, a e, f1 f4
abbrev pub boreal_spruce : Figures
boreal_spruce =
    tree_line BorealSpruce 125 10 60 0 20 200 9 1 800 2800 Water 150 10 8 Ramps 0 0 20 30

abbrev pub birch : Figures
birch =
    tree_line Birch 240 10 42 5 20 200 12 1 500 2700 Water 150 10 50 Ramps 0 0 20 30

-- a and e play no part where f_phen goes by temperature
abbrev pub continental_spruce : Figures
continental_spruce =
    tree_line ContinentalSpruce 130 16 100 0 14 35 3 2 500 3000 Suction 50 500 8 Temperature 0 0 0 0

abbrev pub beech : Figures
beech =
    tree_line Beech 155 13 60 5 16 33 17 11 1000 3100 Suction 50 1250 70 Ramps 0 40 20 20

abbrev pub oak : Figures
oak =
    tree_line Oak 265 13 60 0 22 35 13 22 1100 3100 Suction 1000 2000 42 Ramps 30 30 15 20

abbrev pub evergreen : Figures
evergreen =
    tree_line Evergreen 195 2 120 1 23 39 8 11 2200 4000 Suction 1000 4500 30 Dip 100 100 0 0

-- the tree whose table of f_temp it is
abbrev pub owner_of : Curve → Figures
owner_of BorealSpruce = boreal_spruce
owner_of Birch = birch
owner_of ContinentalSpruce = continental_spruce
owner_of Beech = beech
owner_of Oak = oak
owner_of Evergreen = evergreen

-- by the tree's number; a number outside 1 to 6 is none of these six
unfoldable pub figures_of : ℕ → Option Figures
figures_of tree =
    if tree == 1 then Some boreal_spruce
    else (if tree == 2 then Some birch
    else (if tree == 3 then Some continental_spruce
    else (if tree == 4 then Some beech
    else (if tree == 5 then Some oak else (if tree == 6 then Some evergreen else None)))))

-- the row of each case of a choice ("Turned-back lines"): none for a tree, row 5 for what is none
abbrev pub choice_row : Option Figures → ℕ
choice_row (Some f) = 0
choice_row None = 5

-- row 5 as far as these six go; with tree 7 it is `number_row` of MeasuredFigures
abbrev pub tree_row : ℕ → ℕ
tree_row tree = if nat_lt tree 1 || nat_lt 6 tree then 5 else 0

-- f1 + f4, in days
abbrev pub ramp_days : Figures → ℕ
ramp_days f = f.f1 + f.f4
