-- Row 24 ("A laboratory's own tree"): a parameter outside its range or order, or p or q above 22.
use Rattle.std.specs.Prelude.{ℕ, Bool, ◌||◌, is_none, nat_lt, nat_le}
use Rattle.trees.specs.declared.measured.Parameters.{Parameters}
use Rattle.trees.specs.Parameters.{degrees_of}
use Rattle.trees.specs.MeasuredFigures.{powers_in}
use Rattle.frames.specs.Numbers.{is_outside}

-- not rising within 0 to 10000
abbrev pub pair_out : ℕ → ℕ → Bool
pair_out max min = nat_le min max || nat_lt 10000 min

-- Tmin, Topt, Tmax not rising within -20 to 60 °C, or no p and q: one of the two, reduced, is above
-- 22
abbrev pub temperatures_out : Parameters → Bool
temperatures_out p =
    nat_lt (degrees_of p.t_min) 30 || nat_lt 110 (degrees_of p.t_max) || is_none (powers_in p)

unfoldable pub parameter_out : Parameters → Bool
parameter_out p =
    is_outside 1 500 p.g_max
    || is_outside 1 99 p.f_min
    || is_outside 1 200 p.light_a
    || temperatures_out p
    || pair_out p.vpd_max p.vpd_min
    || pair_out p.soil_max p.soil_min
    || is_outside 1 200 p.leaf
    || nat_lt 100 p.a
    || nat_lt 100 p.e
    || nat_lt 200 p.f1
    || nat_lt 200 p.f4
    || nat_lt 10 p.y
