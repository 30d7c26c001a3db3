-- f_light = 1 - exp(-light_a × PPFD) ("Factors"), worked out at k.
use Rattle.std.specs.Prelude.{ℕ, ◌+◌, ◌-◌, ◌*◌, ◌/◌, ◌%◌, ◌^◌}
use Rattle.exact.specs.Frac.{Frac, natural, ◌⊖◌}
use Rattle.exact.specs.Rounding.{times_down}
use Rattle.exact.specs.Series.{decay_at}
use Rattle.trees.specs.declared.Figures.{Figures}

-- light_a is in ten-thousandths
unfoldable pub light_at : ℕ → Figures → ℕ → Frac
light_at k f ppfd = natural 1 ⊖ decay_at k (f.light_a * ppfd) 10000

-- ---- how it is computed, in units of 10⁻⁹

-- the k at which a digit's exponential is worked out: the rest of the series is too small to show
-- in it
abbrev pub digit_terms : ℕ
digit_terms = 64

-- exp(-n/10000) at that k, rounded down
unfoldable pub decay_entry : ℕ → ℕ
decay_entry n = times_down (10 ^ 9) (decay_at digit_terms n 10000)

-- the product of the entries of n's digits in base 100, rounded down each time: at most 7 below
-- exp(-n/10000), for n below 1,000,000
unfoldable pub decay_low : ℕ → ℕ
decay_low n =
    decay_entry (n % 100) * decay_entry (100 * (n / 100 % 100)) / 10 ^ 9
    * decay_entry (10000 * (n / 10000)) / 10 ^ 9

-- 1 - exp(-n/10000) between two numbers
unfoldable pub light_low_of : ℕ → ℕ
light_low_of n = 10 ^ 9 - (decay_low n + 7)

unfoldable pub light_up_of : ℕ → ℕ
light_up_of n = 10 ^ 9 - decay_low n

-- f_light between two numbers
unfoldable pub light_low : Figures → ℕ → ℕ
light_low f ppfd = light_low_of (f.light_a * ppfd)

unfoldable pub light_up : Figures → ℕ → ℕ
light_up f ppfd = light_up_of (f.light_a * ppfd)
