-- What the temperatures of a measured tree stand for ("A laboratory's own tree"): whole °C in two's
-- complement.
use Rattle.std.specs.Prelude.{ℕ, ◌+◌, ◌-◌, ◌≤◌, ◌≡◌}
use Rattle.trees.specs.Parameters.{degrees_of}

pub record MeasuredFacts : Type 0 where
  -- 0 °C and above
  pub warm : (t : ℕ) → t ≤ 200 → degrees_of t ≡ 50 + t
  -- below 0 °C: FFFF is -1
  pub cold : (t : ℕ) → 1 ≤ t → t ≤ 50 → degrees_of (65536 - t) ≡ 50 - t
