-- Rb = 195·√(leaf/wind) s/m, both lengths in cm ("Factors"), the root rounded up to k decimals.
use Rattle.std.specs.Prelude.{ℕ, ◌*◌, ◌^◌, max, nat_le}
use Rattle.exact.specs.Frac.{Frac, natural, ◌over◌, ◌⊗◌}
use Rattle.exact.specs.Root.{least}

-- a wind under 10 cm/s is read as 10
abbrev pub wind_read : ℕ → ℕ
wind_read wind = max 10 wind

-- the least r with r/10^k not below √(leaf/wind): 10^(2k)·leaf ≤ r²·10·wind, for a leaf in mm
unfoldable pub root_up_at : ℕ → ℕ → ℕ → ℕ
root_up_at k leaf wind =
    least (λ r. nat_le (10 ^ (2 * k) * leaf) (r * r * (10 * wind))) (10 ^ (2 * k) * leaf)

-- 195 times the root, in s/m
abbrev pub resistance : Frac → Frac
resistance root = natural 195 ⊗ root

unfoldable pub resistance_at : ℕ → ℕ → ℕ → Frac
resistance_at k leaf wind = resistance (root_up_at k leaf (wind_read wind) over 10 ^ k)
