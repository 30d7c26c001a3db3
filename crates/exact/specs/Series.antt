-- What stands for the exponential at each k ("The exact dose"): for exp(-z), z = n/d, 1 divided by
-- the first k+1 terms of the series of exp(z); for exp(z), z not under 0, a power.
use Rattle.std.specs.Prelude.{ℕ, zero, suc, ◌*◌, ◌^◌}
use Rattle.exact.specs.Frac.{Frac, natural, ◌over◌, ◌⊕◌, ◌⊖◌, ◌⊘◌, inverse, power}

unfoldable pub factorial : ℕ → ℕ
factorial zero = 1
factorial (suc i) = factorial i * suc i

-- 1 + z + z²/2! + .. + z^k/k!
unfoldable pub series_at : ℕ → ℕ → ℕ → Frac
series_at zero n d = natural 1
series_at (suc k) n d = series_at k n d ⊕ (n ^ suc k) over (d ^ suc k * factorial (suc k))

unfoldable pub decay_at : ℕ → ℕ → ℕ → Frac
decay_at k n d = inverse (series_at k n d)

-- (n/(n - z))^n; z is under n where it is used
unfoldable pub growth : ℕ → Frac → Frac
growth n z = power (natural n ⊘ (natural n ⊖ z)) n
