-- exp(-n/d) at k by whole numbers: rounded down, and bounded from below at every k by one test at
-- one of them; so the series is bounded from above.
use mathlib.Core.Path.{◌≡◌, ap, ap₂, sym, ◌∙◌}
use Prim.Native.Nat.{ℕ, suc, ◌+◌, ◌-◌, ◌*◌, ◌/◌, ◌^◌, ◌≤◌, ◌<◌, max}
use native.Mathlib.Nat.{pow-suc, mul-le-mul_left, mul-le-mul_right, le_of_mul-le-mul_right}
use native.Mathlib.Nat.{le-add_right, le-add_left, mul-div-mul_right}
use native.Mathlib.Decide.{le_ind}
use native.Mathlib.Omega.{arith}
use mathlib.Core.Bool.{Bool}
use lib.Dec.{T, leb, leb→le}
use Rattle.exact.specs.Frac.{◌over◌, ◌≼◌}
use Rattle.exact.specs.Rounding.{times_down}
use Rattle.exact.specs.Series.{series_at, decay_at}
use Rattle.exact.proofs.FracLaws.{over-le}
use Rattle.exact.proofs.RoundingLaws.{times_down-is}
use Rattle.exact.proofs.SeriesCommon.{common_den, common_num, common_den-pos, series-common}
use Rattle.exact.proofs.SeriesCommon.{series-pos}
use Rattle.exact.proofs.SeriesSums.{common-mono}

same-quotient : (t N D P Q : ℕ) → 0 < Q → 0 < D → N * Q ≡ P * D → t * D / N ≡ t * Q / P
same-quotient t N D P Q Q-pos D-pos e =
    sym (mul-div-mul_right (t * D) N Q-pos) ∙ ap₂ (λ (a b : ℕ). a / b) (omega arith) e
    ∙ mul-div-mul_right (t * Q) P D-pos

pub decay_at-down :
    (t k n d : ℕ) → 0 < d → times_down t (decay_at k n d) ≡ t * common_den k d / common_num k n d
unfolding decay_at
decay_at-down t k n d d-pos =
    let den-is : max 1 (series_at k n d).num ≡ (series_at k n d).num =
    omega (arith, series-pos d d-pos k n) in
    rw (times_down-is t (decay_at k n d), den-is)
    (same-quotient t (series_at k n d).num (series_at k n d).den (common_num k n d) (common_den k d)
    (common_den-pos d d-pos k) (series_at k n d).positive (series-common d d-pos k n).cross)

-- ---- after the term of k, the rest of the series is at most that term times n / (d·(k+1) - n)

rest-step :
    (l t P Q w n m A B : ℕ) → 0 < m → (B + n) * m ≤ A * B → l * (P * m + w) ≤ t * Q * m →
    l * ((P * A + w) * B + w * n) ≤ t * (Q * A) * B
rest-step l t P Q w n m A B m-pos g h =
    le_of_mul-le-mul_right
    (omega (arith, mul-le-mul_right (A * B) h, mul-le-mul_left (l * w) g)) m-pos

cross-ge : (l t P Q N D : ℕ) → 0 < Q → N * Q ≡ P * D → l * P ≤ t * Q → l * N ≤ D * t
cross-ge l t P Q N D Q-pos e h =
    le_of_mul-le-mul_right {k = Q} (omega (arith, ap (λ u. l * u) e, mul-le-mul_right D h)) Q-pos

module _ (n d l t : ℕ) where
  -- l / t is at most 1 / (S_k and that bound of the rest), m = d·(k+1) - n
  pub record With (k : ℕ) : Type 0 where
    pub m : ℕ
    pub is : n + m ≡ d * suc k
    pub pos : 0 < m
    pub holds : l * (common_num k n d * m + n ^ suc k) ≤ t * common_den k d * m

  with-suc : (k : ℕ) → With k → With (suc k)
  unfolding common_num common_den
  with-suc k a =
      record {
        m = a.m + d;
        is = omega (arith, a.is);
        pos = omega (arith, a.pos);
        holds =
            rw (← a.is, pow-suc n (suc k))
            (rest-step l t (common_num k n d) (common_den k d) (n ^ suc k) n a.m (n + a.m)
            (a.m + d) a.pos (omega (arith, a.is)) a.holds);
      }

  with-le : (k : ℕ) → With k → l * common_num k n d ≤ t * common_den k d
  with-le k a = le_of_mul-le-mul_right {k = a.m} (omega (arith, a.holds)) a.pos

  -- so it is at every k
  common-le : 0 < d → {last : ℕ} → With last → (k : ℕ) → l * common_num k n d ≤ t * common_den k d
  common-le d-pos {last} first k =
      let high : With (k + last) =
      le_ind With first (λ m _. with-suc m) (k + last) (le-add_left last k) in
      le_of_mul-le-mul_right {k = common_den (k + last) d}
      (omega (
        arith,
        mul-le-mul_left l (common-mono n d k (k + last) (le-add_right k last)),
        mul-le-mul_right (common_den k d) (with-le (k + last) high),
      ))
      (common_den-pos d d-pos (k + last))

  module _ (d-pos : 0 < d) {last : ℕ} (first : With last) (k : ℕ) where
    terms-le : l * (series_at k n d).num ≤ (series_at k n d).den * t
    terms-le =
        cross-ge l t (common_num k n d) (common_den k d) (series_at k n d).num (series_at k n d).den
        (common_den-pos d d-pos k) (series-common d d-pos k n).cross (common-le d-pos first k)

    pub with-series : 0 < l → series_at k n d ≼ t over l
    with-series l-pos =
        let is : max 1 l ≡ l = omega arith in record { cross = rw is (omega (arith, terms-le)) }

    pub with-decay : 0 < t → l over t ≼ decay_at k n d
    unfolding decay_at
    with-decay t-pos = over-le t-pos (series-pos d d-pos k n) terms-le

  abbrev pub rest_test : ℕ → Bool
  rest_test last =
      leb (l * (common_num last n d * (d * suc last - n) + n ^ suc last))
      (t * common_den last d * (d * suc last - n))

  with-tested : (last : ℕ) → n < d * suc last → T (rest_test last) → With last
  with-tested last near test =
      record { m = d * suc last - n; is = omega arith; pos = omega arith; holds = leb→le _ _ test }

  module _ (d-pos : 0 < d) where
    pub decay_at-ge :
        0 < t → (last : ℕ) → n < d * suc last → T (rest_test last) → (k : ℕ) →
        l over t ≼ decay_at k n d
    decay_at-ge t-pos last near test k = with-decay d-pos (with-tested last near test) k t-pos

    pub series_at-le :
        0 < l → (last : ℕ) → n < d * suc last → T (rest_test last) → (k : ℕ) →
        series_at k n d ≼ t over l
    series_at-le l-pos last near test k = with-series d-pos (with-tested last near test) k l-pos
