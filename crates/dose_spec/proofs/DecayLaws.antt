-- decay_low n is at most exp(-n/10000) at every k, and at most 7 below it at three times a digit's
-- k, in units of 10⁻⁹.
use Rattle.std.proofs.lemmas.Bool.Decides.{nat_tests}
use mathlib.Core.Path.{◌≡◌}
use Prim.Native.Nat.{ℕ, ◌+◌, ◌*◌, ◌/◌, ◌%◌, ◌^◌, ◌≤◌, ◌<◌}
use native.Mathlib.Nat.{mul-le-mul_left, mul-le-mul_right, mul-le-mul, div-mul-le_self}
use native.Mathlib.Nat.{lt-div-mul-add}
use native.Mathlib.Omega.{arith}
use lib.Dec.{lit<, lit≤}
use Rattle.exact.specs.Frac.{◌over◌, ◌⊗◌, ◌≼◌}
use Rattle.exact.specs.Series.{decay_at}
use Rattle.exact.proofs.FracLaws.{≼_trans, ⊗-mono}
use Rattle.exact.proofs.RoundingLaws.{times_down-le, times_down-next}
use Rattle.exact.proofs.SeriesLaws.{decay_at-le, decay_at-sum-ge, decay_at-sum-le}
use Rattle.dose_spec.specs.Light.{digit_terms, decay_entry, decay_low}
use Rattle.dose_spec.proofs.DecayTests.{ones-ge, hundreds-ge, myriads-ge}

-- exp(-n/10000) lies from r to r + e: at every k not below, at one not above
pub record NearDecay (k n r e : ℕ) : Type 0 where
  pub low : (j : ℕ) → r over 10 ^ 9 ≼ decay_at j n 10000
  pub high : decay_at k n 10000 ≼ (r + e) over 10 ^ 9

-- ---- an entry

pub decay_entry-le : (n : ℕ) → decay_entry n ≤ 10 ^ 9
unfolding decay_entry
decay_entry-le n = times_down-le (10 ^ 9) (decay_at-le 10000 (lit< tt) digit_terms n)

decay_entry-high : (n : ℕ) → decay_at digit_terms n 10000 ≼ (decay_entry n + 1) over 10 ^ 9
unfolding decay_entry
decay_entry-high n = times_down-next (10 ^ 9) (decay_at digit_terms n 10000) (lit< tt)

-- ---- the product of two, rounded down

product_le : (a b : ℕ) → a ≤ 10 ^ 9 → b ≤ 10 ^ 9 → a * b / 10 ^ 9 ≤ 10 ^ 9
product_le a b p q = omega (arith, mul-le-mul p q)

product_high :
    (a b r e f : ℕ) → a ≤ 10 ^ 9 → b ≤ 10 ^ 9 → e * f ≤ 10 ^ 9 → a * b < r * 10 ^ 9 + 10 ^ 9 →
    (a + e) * (b + f) ≤ (r + (e + f + 2)) * 10 ^ 9
product_high a b r e f p q s h = omega (arith, mul-le-mul_right f p, mul-le-mul_left e q)

near_times :
    {j k x y a b e f : ℕ} → a ≤ 10 ^ 9 → b ≤ 10 ^ 9 → e * f ≤ 10 ^ 9 →
    NearDecay j x a e → NearDecay k y b f → NearDecay (j + k) (x + y) (a * b / 10 ^ 9) (e + f + 2)
near_times {j} {k} {x} {y} {a} {b} {e} {f} p q s m l =
    record {
      low =
          λ i.
          ≼_trans {y = a over 10 ^ 9 ⊗ b over 10 ^ 9}
          (omega (arith, div-mul-le_self (a * b) (10 ^ 9)))
          (≼_trans (⊗-mono (m.low i) (l.low i)) (decay_at-sum-ge 10000 (lit< tt) i x y));
      high =
          ≼_trans (decay_at-sum-le 10000 (lit< tt) j k x y)
          (≼_trans {y = (a + e) over 10 ^ 9 ⊗ (b + f) over 10 ^ 9} (⊗-mono m.high l.high)
          (omega (
            arith,
            product_high a b (a * b / 10 ^ 9) e f p q s
                (lt-div-mul-add {a = a * b} {b = 10 ^ 9} (lit< tt)),
          )));
    }

-- ---- the three digits

digits-is : (n : ℕ) → n % 100 + 100 * (n / 100 % 100) + 10000 * (n / 10000) ≡ n
digits-is n = omega arith

pub decay_low-le : (n : ℕ) → decay_low n ≤ 10 ^ 9
unfolding decay_low
decay_low-le n = grind (arith, nat_tests, product_le, decay_entry-le)

module _ (n : ℕ) (small : n < 650000) where
  ones : NearDecay digit_terms (n % 100) (decay_entry (n % 100)) 1
  ones = record { low = ones-ge (n % 100) (omega arith); high = decay_entry-high _ }

  hundreds : NearDecay digit_terms (100 * (n / 100 % 100)) (decay_entry (100 * (n / 100 % 100))) 1
  hundreds = record { low = hundreds-ge (n / 100 % 100) (omega arith); high = decay_entry-high _ }

  myriads : NearDecay digit_terms (10000 * (n / 10000)) (decay_entry (10000 * (n / 10000))) 1
  myriads = record { low = myriads-ge (n / 10000) (omega arith); high = decay_entry-high _ }

  pub decay_low-near : NearDecay (digit_terms + digit_terms + digit_terms) n (decay_low n) 7
  unfolding decay_low
  decay_low-near =
      let two = near_times (decay_entry-le _) (decay_entry-le _) (lit≤ tt) ones hundreds in
      let both-le =
      product_le (decay_entry (n % 100)) (decay_entry (100 * (n / 100 % 100))) (decay_entry-le _)
      (decay_entry-le _) in
      rw digits-is at (near_times both-le (decay_entry-le _) (lit≤ tt) two myriads)
