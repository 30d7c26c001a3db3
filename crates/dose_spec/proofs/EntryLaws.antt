-- The table's entry at a reading, out of the series to one term, by a test.
use Prim.Native.Nat.{ℕ, suc, ◌+◌, ◌-◌, ◌*◌, ◌/◌, ◌^◌, ◌≤◌, ◌<◌, max}
use mathlib.Core.Path.{◌≡◌}
use mathlib.Core.Bool.{Bool, ◌&&◌}
use native.Mathlib.Nat.{div-mul-le_self, mul-pos, lt_of_mul-lt-mul_left}
use native.Mathlib.Omega.{arith}
use Rattle.std.proofs.lemmas.Bool.Decides.{nat_tests}
use lib.Dec.{T, leb, ltb, lit<, lit≤}
use Rattle.exact.specs.Frac.{Frac, natural, ◌over◌, ◌⊗◌, ◌≼◌, ◌≺◌, inverse}
use Rattle.exact.specs.Series.{decay_at}
use Rattle.exact.proofs.FracLaws.{≼_refl, ≼_trans, ≼-≺-trans, ≈-ge, ⊗-mono}
use Rattle.exact.proofs.InverseLaws.{inverse-anti}
use Rattle.exact.proofs.SeriesCommon.{common_num, common_den, common, series-common}
use Rattle.exact.proofs.SeriesLaws.{decay_at-anti}
use Rattle.exact.proofs.SeriesBounds.{With, with-decay, rest_test, series_at-le}
use Rattle.exact.proofs.TimesLaws.{times_down-at}
use Rattle.dose_spec.specs.Vapour.{Signed, plus, minus, celsius, exponent, power_at, exp_at}
use Rattle.dose_spec.specs.Vapour.{saturation_at}
use Rattle.dose_spec.specs.HumidityPair.{units_per_kpa, entry_k, entry_of}
use Rattle.dose_spec.specs.HumidityFacts.{Under}
use Rattle.dose_spec.proofs.ExponentialLaws.{plus-ge, plus-le}

-- 0.611·exp(y) is s, rounded down, at every k from one on
pub record Rounded (y : Signed) (s : ℕ) : Type 0 where
  pub under : Under 4 y
  pub low : (k : ℕ) → s over units_per_kpa ≼ 611 over 1000 ⊗ exp_at k y
  pub high : 611 over 1000 ⊗ exp_at entry_k y ≺ (s + 1) over units_per_kpa

-- the series is taken to this term
abbrev last : ℕ
last = 24

last-le : last ≤ entry_k
unfolding entry_k
last-le = lit≤ tt

-- ---- y from 0 on

-- what is added to y is 1/(den·steps)
abbrev steps : ℕ
steps = 1000

module _ (y : Frac) where
  abbrev n : ℕ
  n = y.num

  abbrev d : ℕ
  d = y.den

  abbrev plus_entry : ℕ
  plus_entry = 611 * units_per_kpa * common_num last n d / (1000 * common_den last d)

  abbrev plus_test : ℕ → Bool
  unfolding entry_k
  plus_test s =
      ltb n (4 * d)
      && (leb (n * n * steps + n) (entry_k * d) && (ltb (n * steps + 1) (d * steps * suc last) &&
      rest_test (n * steps + 1) (d * steps) (611 * units_per_kpa) (1000 * s + 999) last))

  plus-low :
      y ≺ natural 4 → (k : ℕ) → plus_entry over units_per_kpa ≼ 611 over 1000 ⊗ exp_at k (plus y)
  plus-low under k =
      ≼_trans {y = 611 over 1000 ⊗ common d y.positive last n}
      (record {
        cross = omega (
          arith,
          div-mul-le_self (611 * units_per_kpa * common_num last n d) (1000 * common_den last d),
        );
      })
      (⊗-mono (≼_refl (611 over 1000))
      (≼_trans (≈-ge (series-common d y.positive last n)) (plus-ge y under last k)))

  plus-high :
      (s : ℕ) → y ≺ natural 4 → n * n * steps + n ≤ entry_k * d →
      n * steps + 1 < d * steps * suc last →
      T (rest_test (n * steps + 1) (d * steps) (611 * units_per_kpa) (1000 * s + 999) last) →
      611 over 1000 ⊗ exp_at entry_k (plus y) ≺ (s + 1) over units_per_kpa
  plus-high s under far near test =
      ≼-≺-trans {y = 611 over 1000 ⊗ (1000 * s + 999) over (611 * units_per_kpa)}
      (⊗-mono (≼_refl (611 over 1000))
      (≼_trans (plus-le y under steps entry_k (lit< tt) far)
      (series_at-le (n * steps + 1) (d * steps) (611 * units_per_kpa) (1000 * s + 999)
      (mul-pos y.positive (lit< tt)) (lit< tt) last near test (power_at entry_k))))
      (record { cross = omega arith })

  plus-rounded : T (plus_test plus_entry) → Rounded (plus y) plus_entry
  unfolding entry_k
  plus-rounded h =
      let test : T (plus_test plus_entry) = h in
      let under : y ≺ natural 4 = grind (arith, nat_tests) in
      record {
        under = under;
        low = plus-low under;
        high =
            plus-high plus_entry under (grind (arith, nat_tests)) (grind (arith, nat_tests))
            (grind (arith, nat_tests));
      }

-- ---- y under 0, y = -z

module _ (z : Frac) where
  abbrev rest : ℕ
  rest = z.den * suc last - z.num

  abbrev minus_entry : ℕ
  minus_entry =
      611 * units_per_kpa * common_den last z.den * rest
      / (1000 * (common_num last z.num z.den * rest + z.num ^ suc last))

  abbrev minus_test : ℕ → Bool
  minus_test s =
      ltb z.num (z.den * suc last)
      && ltb (611 * units_per_kpa * common_den last z.den)
      (1000 * (s + 1) * common_num last z.num z.den)

  minus-low :
      z.num < z.den * suc last → (k : ℕ) →
      minus_entry over units_per_kpa ≼ 611 over 1000 ⊗ exp_at k (minus z)
  unfolding exp_at
  minus-low near k =
      let first : With z.num z.den (1000 * minus_entry) (611 * units_per_kpa) last = record {
        m = rest;
        is = omega (arith, near);
        pos = omega (arith, near);
        holds =
            omega (
              arith,
              div-mul-le_self (611 * units_per_kpa * common_den last z.den * rest)
                  (1000 * (common_num last z.num z.den * rest + z.num ^ suc last)),
            );
      } in
      ≼_trans {y = 611 over 1000 ⊗ (1000 * minus_entry) over (611 * units_per_kpa)}
      (record { cross = omega arith })
      (⊗-mono (≼_refl (611 over 1000))
      (with-decay z.num z.den (1000 * minus_entry)
      (611 * units_per_kpa) z.positive first k (lit< tt)))

  decay-le :
      0 < common_num last z.num z.den →
      decay_at last z.num z.den ≼ inverse (common z.den z.positive last z.num)
  unfolding decay_at
  decay-le pos = inverse-anti pos (≈-ge (series-common z.den z.positive last z.num))

  minus-high :
      (s : ℕ) →
      611 * units_per_kpa * common_den last z.den < 1000 * (s + 1) * common_num last z.num z.den →
      611 over 1000 ⊗ exp_at entry_k (minus z) ≺ (s + 1) over units_per_kpa
  unfolding exp_at
  minus-high s h =
      let pos : 0 < common_num last z.num z.den =
      lt_of_mul-lt-mul_left (1000 * (s + 1)) (omega (arith, h)) in
      let is : max 1 (common_num last z.num z.den) ≡ common_num last z.num z.den =
      omega (arith, pos) in
      ≼-≺-trans {y = 611 over 1000 ⊗ inverse (common z.den z.positive last z.num)}
      (⊗-mono (≼_refl (611 over 1000))
      (≼_trans (decay_at-anti z.den z.positive z.num last-le) (decay-le pos)))
      (record { cross = rw is (omega (arith, h)) })

  minus-rounded : T (minus_test minus_entry) → Rounded (minus z) minus_entry
  minus-rounded h = record {
    under = tt;
    low = minus-low (grind (arith, nat_tests));
    high = minus-high minus_entry (grind (arith, nat_tests));
  }

-- ---- of either sign

abbrev pub signed_entry : Signed → ℕ
signed_entry (plus y) = plus_entry y
signed_entry (minus z) = minus_entry z

abbrev pub signed_test : Signed → Bool
unfolding entry_k
signed_test (plus y) = plus_test y (plus_entry y)
signed_test (minus z) = minus_test z (minus_entry z)

pub signed-rounded : (y : Signed) → T (signed_test y) → Rounded y (signed_entry y)
unfolding entry_k
signed-rounded (plus y) h = plus-rounded y h
signed-rounded (minus z) h = minus-rounded z h

pub entry-is : (x s : ℕ) → Rounded (exponent (celsius x)) s → entry_of x ≡ s
unfolding entry_of saturation_at
entry-is x s rounded =
    times_down-at units_per_kpa s (saturation_at entry_k x) (lit< tt)
    (rounded.low entry_k) rounded.high
