-- A fraction rounded up and down to a whole number; `IsCeiling` and `IsFloor` say what that means.
use Rattle.std.specs.Prelude.{ℕ, ◌+◌, ◌-◌, ◌/◌, ◌≤◌}
use Rattle.exact.specs.Frac.{Frac, natural, ◌⊗◌, ◌≼◌}

unfoldable pub round_up : Frac → ℕ
round_up x = (x.num + (x.den - 1)) / x.den

unfoldable pub round_down : Frac → ℕ
round_down x = x.num / x.den

-- the least whole number not below x
pub record IsCeiling (x : Frac) (n : ℕ) : Type 0 where
  pub not_below : x ≼ natural n
  pub least : (m : ℕ) → x ≼ natural m → n ≤ m

-- the greatest whole number not above x
pub record IsFloor (x : Frac) (n : ℕ) : Type 0 where
  pub not_above : natural n ≼ x
  pub greatest : (m : ℕ) → natural m ≼ x → m ≤ n

-- n times a fraction, rounded
unfoldable pub times_up : ℕ → Frac → ℕ
times_up n x = round_up (natural n ⊗ x)

unfoldable pub times_down : ℕ → Frac → ℕ
times_down n x = round_down (natural n ⊗ x)
