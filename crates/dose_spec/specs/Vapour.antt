-- VPD = (1 - h)·0.611·exp(17.502·T/(T + 240.97)) kPa ("Humidity in place of VPD"), worked out at k.
-- T is a reading x, in tenths of a degree above -50.0 °C; h is a reading in tenths of a percent.
use Rattle.std.specs.Prelude.{ℕ, ◌+◌, nat_lt, if◌then◌else◌}
use Rattle.exact.specs.Frac.{Frac, natural, ◌over◌, ◌⊕◌, ◌⊖◌, ◌⊗◌, ◌⊘◌}
use Rattle.exact.specs.Series.{decay_at, growth}

-- a number with its sign: `plus z` is z, `minus z` is -z, which is under 0
pub data Signed : Type 0 where
  plus : Frac → Signed
  minus : Frac → Signed

-- T = x/10 - 50, in °C
unfoldable pub celsius : ℕ → Signed
celsius x = if nat_lt x 500 then minus (natural 50 ⊖ x over 10) else plus (x over 10 ⊖ natural 50)

-- what is added to T, in °C
abbrev offset : Frac
offset = 24097 over 100

-- y = 17.502·T/(T + 240.97)
unfoldable pub exponent : Signed → Signed
exponent (plus t) = plus (17502 over 1000 ⊗ t ⊘ (t ⊕ offset))
exponent (minus t) = minus (17502 over 1000 ⊗ t ⊘ (offset ⊖ t))

-- the n of (n/(n - y))^n at k
unfoldable pub power_at : ℕ → ℕ
power_at k = k + 4

-- exp(y) at k: for y under 0, 1 divided by the first k+1 terms of the series of exp(-y); otherwise
-- (n/(n - y))^n
unfoldable pub exp_at : ℕ → Signed → Frac
exp_at k (minus z) = decay_at k z.num z.den
exp_at k (plus z) = growth (power_at k) z

-- 0.611·exp(y), in kPa
unfoldable pub saturation_at : ℕ → ℕ → Frac
saturation_at k x = 611 over 1000 ⊗ exp_at k (exponent (celsius x))

-- 1 - h
unfoldable pub dryness : ℕ → Frac
dryness h = natural 1 ⊖ h over 1000

-- VPD, in Pa
unfoldable pub vpd_at : ℕ → ℕ → ℕ → Frac
vpd_at k h x = natural 1000 ⊗ (dryness h ⊗ saturation_at k x)
