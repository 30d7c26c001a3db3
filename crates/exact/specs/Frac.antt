-- Fractions of naturals, not in lowest terms; the denominator is never 0, so that an order is never
-- vacuous.
use Rattle.std.specs.Prelude.{ℕ, ◌+◌, ◌-◌, ◌*◌, ◌^◌, ◌≤◌, ◌<◌, max, ◌≡◌, nat_lt, nat_le}
use Rattle.std.specs.Prelude.{if◌then◌else◌}
use Rattle.std.proofs.Common.{mul-pos, arith}
use Rattle.std.proofs.Math.Nat.{one-le-pow}
use Rattle.exact.specs.declared.Fraction.{Fraction}

pub record Frac : Type 0 where
  pub num : ℕ
  pub den : ℕ
  pub positive : 0 < den

infixl 70 ◌over◌
infixl 65 ◌⊗◌
infixl 65 ◌⊘◌
infixl 60 ◌⊕◌
infixl 60 ◌⊖◌
infix 50 ◌≼◌
infix 50 ◌≺◌
infix 50 ◌≈◌
-- n / d; a divisor 0 is read as 1
abbrev pub ◌over◌ : ℕ → ℕ → Frac
n over d = record { num = n; den = max 1 d; positive = omega arith }

abbrev pub natural : ℕ → Frac
natural n = record { num = n; den = 1; positive = omega arith }

abbrev pub ◌⊕◌ : Frac → Frac → Frac
x ⊕ y = record {
  num = x.num * y.den + y.num * x.den;
  den = x.den * y.den;
  positive = mul-pos x.positive y.positive;
}

-- x - y, or 0 where y is the greater
abbrev pub ◌⊖◌ : Frac → Frac → Frac
x ⊖ y = record {
  num = x.num * y.den - y.num * x.den;
  den = x.den * y.den;
  positive = mul-pos x.positive y.positive;
}

abbrev pub ◌⊗◌ : Frac → Frac → Frac
x ⊗ y = record {
  num = x.num * y.num;
  den = x.den * y.den;
  positive = mul-pos x.positive y.positive;
}

-- 1 / x; x is not 0 where it is used
abbrev pub inverse : Frac → Frac
inverse x = x.den over x.num

-- x / y
abbrev pub ◌⊘◌ : Frac → Frac → Frac
x ⊘ y = x ⊗ inverse y

-- x^n
abbrev pub power : Frac → ℕ → Frac
power x n = record { num = x.num ^ n; den = x.den ^ n; positive = one-le-pow n x.den x.positive }

-- x ≤ y
pub record ◌≼◌ (x y : Frac) : Type 0 where
  pub cross : x.num * y.den ≤ y.num * x.den

-- x < y
pub record ◌≺◌ (x y : Frac) : Type 0 where
  pub cross : x.num * y.den < y.num * x.den

-- x lies from low to high
pub record Between (low high x : Frac) : Type 0 where
  pub above : low ≼ x
  pub below : x ≼ high

-- the greater of two
abbrev pub greater : Frac → Frac → Frac
greater x y = if nat_le (x.num * y.den) (y.num * x.den) then y else x

-- the same number, whatever its terms
pub record ◌≈◌ (x y : Frac) : Type 0 where
  pub cross : x.num * y.den ≡ y.num * x.den

-- what a fraction of the code stands for
abbrev pub frac_of : Fraction → Frac
frac_of r = r.num over r.den

-- a fraction of the code has these very terms
pub record Is (r : Fraction) (x : Frac) : Type 0 where
  pub num : r.num ≡ x.num
  pub den : r.den ≡ x.den

-- the straight line from one percentage to another, d of s steps along it; past its end, and where
-- it has no step, its end
unfoldable pub straight : ℕ → ℕ → ℕ → ℕ → Frac
straight from to d s = if nat_lt d s then ((s - d) * from + d * to) over (100 * s) else to over 100
