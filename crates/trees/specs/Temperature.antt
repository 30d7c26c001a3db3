-- f_temp ("Factors"): f_min unless Tmin < T < Tmax; then the greater of f_min and a·w^(p/q), with
-- a = (T - Tmin)/(Topt - Tmin) and w = (Tmax - T)/(Tmax - Topt). A reading x is T in tenths of a
-- degree above -50.0 °C.
use Rattle.std.specs.Prelude.{ℕ, ◌+◌, ◌*◌, ◌-◌, ◌^◌, ◌≤◌, ◌<◌, max, Bool, ◌&&◌, nat_lt, nat_le}
use Rattle.std.specs.Prelude.{if◌then◌else◌}
use Rattle.trees.specs.declared.Figures.{Figures}
use Rattle.exact.specs.declared.Bounds.{Bounds}
use Rattle.exact.specs.Frac.{Frac, ◌over◌, greater}
use Rattle.exact.specs.Root.{greatest}

-- the highest reading that row 10 lets pass: 60.0 °C, 1100 tenths of a degree above -50.0 °C
abbrev pub highest_reading : ℕ
highest_reading = 1100

abbrev pub a : Figures → ℕ → Frac
a f x = (x - 10 * f.t_min) over (10 * (f.t_opt - f.t_min))

abbrev pub w : Figures → ℕ → Frac
w f x = (10 * f.t_max - x) over (10 * (f.t_max - f.t_opt))

-- t^q and 10^(kq)·a^q·w^p, both times the denominators of a^q and w^p
unfoldable pub tried : Figures → ℕ → ℕ → ℕ
tried f x t = t ^ f.q * ((a f x).den ^ f.q * (w f x).den ^ f.p)

unfoldable pub allowed : ℕ → Figures → ℕ → ℕ
allowed k f x = 10 ^ (k * f.q) * ((a f x).num ^ f.q * (w f x).num ^ f.p)

-- t is the greatest whole number with t/10^k not above a·w^(p/q)
pub record IsGreatest (k : ℕ) (f : Figures) (x t : ℕ) : Type 0 where
  pub under : tried f x t ≤ allowed k f x
  pub above : allowed k f x < tried f x (t + 1)

-- a·w^(p/q) rounded down to k decimals, times 10^k; no t above `allowed k f x` passes
unfoldable pub root_at : ℕ → Figures → ℕ → ℕ
root_at k f x = greatest (λ t. nat_le (tried f x t) (allowed k f x)) (allowed k f x)

-- Tmin < T < Tmax, with Tmin and Tmax in whole degrees above -50 °C
abbrev pub inside : ℕ → ℕ → ℕ → Bool
inside t_min t_max x = nat_lt (10 * t_min) x && nat_lt x (10 * t_max)

-- f_temp with a·w^(p/q) rounded down to k decimals
unfoldable pub temperature_at : ℕ → Figures → ℕ → Frac
temperature_at k f x =
    if inside f.t_min f.t_max x then greater (f.f_min over 100) (root_at k f x over 10 ^ k)
    else f.f_min over 100

-- the larger of f_min and t, in units of 10⁻⁹
abbrev at_least : Figures → ℕ → ℕ
at_least f t = max (f.f_min * 10 ^ 7) t

-- f_temp lies from lower to upper, in units of 10⁻⁹
unfoldable pub temperature_pair : Figures → ℕ → Bounds
temperature_pair f x =
    if inside f.t_min f.t_max x
    then record { lower = at_least f (root_at 9 f x); upper = at_least f (root_at 9 f x + 1) }
    else record { lower = f.f_min * 10 ^ 7; upper = f.f_min * 10 ^ 7 }
