-- Serves the code's own steps; no reader need believe it.
use Rattle.std.specs.Prelude.{ℕ, ◌*◌, ◌^◌, ◌<◌, ◌≤◌}

-- what a root is asked of, a = above/rise and w = below/fall with the power p/q: the numbers fit,
-- and 1.000000001 is too much
pub record Asked (above rise below fall p q : ℕ) : Type 0 where
  pub rise_in : (0 < rise) × (rise ≤ 2200)
  pub fall_in : (0 < fall) × (fall ≤ 2200)
  pub above_in : (0 < above) × (above ≤ 2200)
  pub below_in : (0 < below) × (below ≤ 2200)
  pub p_in : p ≤ 22
  pub q_in : (0 < q) × (q ≤ 22)
  pub most : 1000000000 ^ q * (above ^ q * below ^ p) < 1000000001 ^ q * (rise ^ q * fall ^ p)
