-- What `worked_f_temp` answers: the pair of figures whose temperatures and powers are those of
-- `Sound`; no pair for others.
use Rattle.std.specs.Prelude.{◌≡◌, ℕ, ◌-◌, ◌*◌, Bool, ◌&&◌, ◌==◌, nat_le, nat_lt, Option}
use Rattle.std.specs.Prelude.{if◌then◌else◌}
use Rattle.std.specs.Prelude.{Some, None}
use Rattle.exact.specs.declared.Bounds.{Bounds}
use Rattle.trees.specs.declared.Figures.{Figures}
use Rattle.trees.specs.Sound.{Sound}
use Rattle.trees.specs.Temperature.{temperature_pair}

-- -20 °C ≤ Tmin < Topt < Tmax ≤ 200 °C, in whole degrees above -50 °C
abbrev pub rising : ℕ → ℕ → ℕ → Bool
rising t_min t_opt t_max =
    (nat_le 30 t_min && nat_lt t_min t_opt) && (nat_lt t_opt t_max && nat_le t_max 250)

-- from 1 to 22
abbrev pub is_power : ℕ → Bool
is_power n = nat_le 1 n && nat_le n 22

-- p/q = (Tmax - Topt)/(Topt - Tmin)
abbrev pub in_ratio : Figures → Bool
in_ratio f = f.p * (f.t_opt - f.t_min) == f.q * (f.t_max - f.t_opt)

unfoldable pub fit : Figures → Bool
fit f = rising f.t_min f.t_opt f.t_max && ((is_power f.p && is_power f.q) && in_ratio f)

unfoldable pub factor_of : Figures → ℕ → Option Bounds
factor_of f x = if fit f then Some (temperature_pair f x) else None

-- sound figures fit
pub record SoundFactor (f : Figures) (x : ℕ) (r : Option Bounds) : Type 0 where
  pub pair : Sound f → r ≡ Some (temperature_pair f x)
