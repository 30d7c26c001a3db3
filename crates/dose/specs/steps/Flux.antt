-- Serves the code's own steps; no reader need believe it.
-- A factor as the code holds it: a fraction up to 1, whose denominator is at most a number.
use Rattle.std.specs.Prelude.{ℕ, ◌<◌, ◌≤◌}
use Rattle.exact.specs.declared.Fraction.{Fraction}

pub record Factor (most : ℕ) (x : Fraction) : Type 0 where
  pub whole : 0 < x.den
  pub below : x.num ≤ x.den
  pub small : x.den ≤ most
