-- The parameters of a laboratory's own tree ("A laboratory's own tree"): sixteen two-byte numbers,
-- in the frame's order.
use Rattle.std.specs.Prelude.{ℕ, ◌+◌, ◌%◌, Bool, true, not, ◌&&◌, List, [], ◌∷◌, ◌==◌, slice_index}
use Rattle.trees.specs.declared.measured.Parameters.{Parameters}

-- g_max, f_min, light_a, Tmin, Topt, Tmax, VPD max and min, suction max and min, leaf, a, e, f1,
-- f4,
-- Y
abbrev pub parameter_numbers : Parameters → List ℕ
parameter_numbers p =
    p.g_max ∷ p.f_min ∷ p.light_a ∷ p.t_min ∷ p.t_opt ∷ p.t_max ∷ p.vpd_max ∷ p.vpd_min ∷ p.soil_max
    ∷ p.soil_min ∷ p.leaf ∷ p.a ∷ p.e ∷ p.f1 ∷ p.f4 ∷ p.y ∷ []

abbrev pub parameters_of : List ℕ → Parameters
parameters_of ns = record {
  g_max = slice_index ns 0;
  f_min = slice_index ns 1;
  light_a = slice_index ns 2;
  t_min = slice_index ns 3;
  t_opt = slice_index ns 4;
  t_max = slice_index ns 5;
  vpd_max = slice_index ns 6;
  vpd_min = slice_index ns 7;
  soil_max = slice_index ns 8;
  soil_min = slice_index ns 9;
  leaf = slice_index ns 10;
  a = slice_index ns 11;
  e = slice_index ns 12;
  f1 = slice_index ns 13;
  f4 = slice_index ns 14;
  y = slice_index ns 15;
}

-- 0 where the frame was not fed
abbrev pub no_parameters : Parameters
no_parameters = parameters_of []

abbrev pub all_zero : List ℕ → Bool
all_zero [] = true
all_zero (n ∷ ns) = n == 0 && all_zero ns

abbrev pub is_fed : Parameters → Bool
is_fed p = not (all_zero (parameter_numbers p))

-- whole degrees above -50 °C, out of two bytes in two's complement
abbrev pub degrees_of : ℕ → ℕ
degrees_of n = (n + 50) % 65536
