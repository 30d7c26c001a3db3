-- Rounded products: the highest 64 bits of a product, and how far it is above them.
use Rattle.std.proofs.Common.{◌≡◌, ℕ, suc, ◌+◌, ◌-◌, ◌*◌, ◌%◌, ◌^◌, ◌<◌, ◌≤◌, sym, ap, ◌∙◌}
use Rattle.std.proofs.Common.{le_of_eq, le_of_lt, mul-le-mul_right, mod-eq_of_lt, mul_assoc}
use Rattle.std.proofs.Common.{mul-le-mul, add_comm, mul-le-mul_left, mul-lt-mul_of_pos_right}
use Rattle.std.proofs.Common.{pow-suc, le_of_mul-le-mul_right, arith, pow-add}
use native.Mathlib.Nat.{one-le-pow}
use lib.Count.{count_leading_zeros, leading_top}
use Rattle.power.specs.declared.rounded.Rounded.{Rounded}
use Rattle.power.specs.steps.Power.{full, IsHigh, StandsFor}

-- ---- the product of two rounded numbers

abbrev rounded_of : ℕ → ℕ → ℕ → Rounded
rounded_of m k e = record { mantissa = m; short = k; exponent = e }

-- P and R are powers of 2, B is 2⁶⁴
module _ (B m n h P R v w : ℕ) (B-pos : 0 < B) where
  times-low : h * B ≤ m * n → m * P ≤ v * B → n * R ≤ w * B → h * (P * R) ≤ v * w * B
  times-low half x y =
      le_of_mul-le-mul_right {k = B}
      (omega (arith, mul-le-mul_right (P * R) half, mul-le-mul x y)) B-pos

  errors-le :
      (k l : ℕ) → m * n ≤ (h + 3) * B → m ≤ B → n ≤ B → k * l ≤ B →
      (m + k) * (n + l) ≤ (h + (k + l + 4)) * B
  errors-le k l half m-le n-le small =
      omega (arith, mul-le-mul_right l m-le, mul-le-mul_left k n-le)

  times-high :
      (k l : ℕ) → m * n ≤ (h + 3) * B → m ≤ B → n ≤ B → k * l ≤ B → v * B ≤ (m + k) * P →
      w * B ≤ (n + l) * R → v * w * B ≤ (h + (k + l + 4)) * (P * R)
  times-high k l half m-le n-le small x y =
      le_of_mul-le-mul_right {k = B}
      (raised (m + k) (n + l) (h + (k + l + 4)) (errors-le k l half m-le n-le small) x y)
      B-pos
    where
      raised :
          (a b c : ℕ) → a * b ≤ c * B → v * B ≤ a * P → w * B ≤ b * R →
          v * w * B * B ≤ c * (P * R) * B
      raised a b c e x y = omega (arith, mul-le-mul_right (P * R) e, mul-le-mul x y)

pub full-pos : 0 < full
unfolding full
full-pos = omega arith

small_product : (k l : ℕ) → k ≤ 4000000 → l ≤ 4000000 → k * l ≤ full
unfolding full
small_product k l hk hl = omega (arith, mul-le-mul hk hl)

pub fits-full : (m : ℕ) → m < 18446744073709551616 → m ≤ full
unfolding full
fits-full m h = omega arith

module _ (x y : Rounded) {h : ℕ} (high : IsHigh x.mantissa y.mantissa h) (x-le : x.mantissa ≤ full)
    (y-le : y.mantissa ≤ full)
    (x-short : x.short ≤ 4000000) (y-short : y.short ≤ 4000000) where
  pub near_times :
      (v w : ℕ) → StandsFor v x → StandsFor w y →
      StandsFor (v * w) (rounded_of h (x.short + y.short + 4) (x.exponent + y.exponent))
  near_times v w f g = record {
    low =
        rw (pow-add 2 x.exponent y.exponent)
        (times-low full x.mantissa y.mantissa h (2 ^ x.exponent)
        (2 ^ y.exponent) v w full-pos high.low f.low g.low);
    high =
        rw (pow-add 2 x.exponent y.exponent)
        (times-high full x.mantissa y.mantissa h (2 ^ x.exponent)
        (2 ^ y.exponent) v w full-pos x.short y.short
        (le_of_lt high.high) x-le y-le
        (small_product x.short y.short x-short y-short) f.high g.high);
  }

-- the same number, its highest bit moved up by one
pub near-doubled :
    {v m k e : ℕ} → 0 < e → StandsFor v (rounded_of m k e) →
    StandsFor v (rounded_of (2 * m) (2 * k) (e - 1))
near-doubled {v} {m} {k} {e} pos f =
    let half : 2 ^ (e - 1) * 2 ≡ 2 ^ e =
    sym (pow-suc 2 (e - 1)) ∙ ap (λ (i : ℕ). 2 ^ i) (omega arith) in
    record {
      low = omega (arith, f.low, ap (λ (i : ℕ). m * i) half);
      high = omega (arith, f.high, ap (λ (i : ℕ). (m + k) * i) half);
    }

-- ---- a whole number, its highest bit moved to the mantissa's

module _ (c : ℕ) (pos : 0 < c) (fits : c < 18446744073709551616) where
  abbrev zeros : ℕ
  zeros = count_leading_zeros 64 c

  pub zeros-lt : zeros < 64
  zeros-lt = let top = leading_top 64 c pos fits in omega (arith, top.1)

  shifted-lt : c * 2 ^ zeros < 18446744073709551616
  shifted-lt =
      let top = leading_top 64 c pos fits in
      let whole : 2 ^ suc top.0 * 2 ^ zeros ≡ 2 ^ 64 =
      sym (pow-add 2 (suc top.0) zeros)
      ∙ ap (λ (i : ℕ). 2 ^ i) (add_comm (suc top.0) zeros ∙ top.1) in
      rw (← whole) (mul-lt-mul_of_pos_right top.3 (one-le-pow zeros 2 (omega arith)))

  shifted-is : (c * 2 ^ zeros) % 18446744073709551616 * 2 ^ (64 - zeros) ≡ c * full
  unfolding full
  shifted-is =
      let e : zeros + (64 - zeros) ≡ 64 = omega (arith, zeros-lt) in
      ap (λ (m : ℕ). m * 2 ^ (64 - zeros)) (mod-eq_of_lt shifted-lt)
      ∙ mul_assoc c (2 ^ zeros) (2 ^ (64 - zeros))
      ∙ ap (λ (m : ℕ). c * m) (sym (pow-add 2 zeros (64 - zeros)) ∙ ap (λ (i : ℕ). 2 ^ i) e)

  pub whole-near : StandsFor c (rounded_of ((c * 2 ^ zeros) % 18446744073709551616) 0 (64 - zeros))
  whole-near = record { low = le_of_eq shifted-is; high = omega (arith, shifted-is) }
