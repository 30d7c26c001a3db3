-- Where rounded powers decide the root: l ≤ r < l·(1 + q/t), and l·(1 + q/t) is not above what
-- t + 1 gives.
use Rattle.std.proofs.Common.{◌≡◌, ℕ, ◌+◌, ◌-◌, ◌*◌, ◌/◌, ◌^◌, ◌<◌, ◌≤◌, Bool, false, T, ltb, sym}
use Rattle.std.proofs.Common.{ap, ◌∙◌, subst, le_trans, lt_of_lt_of_le, lt_of_le_of_lt}
use Rattle.std.proofs.Common.{mul-le-mul_right, mul_assoc, lt_of_mul-lt-mul_right, mul-le-mul_left}
use Rattle.std.proofs.Common.{mul-lt-mul_of_pos_right, mul-pos, div-mul-le_self}
use Rattle.std.proofs.Common.{le_of_mul-le-mul_right, arith, ltb-true}
use mathlib.Core.Path.{subst⁻¹}
use native.Mathlib.Nat.{one-le-pow}
use Rattle.exact.proofs.MeanLaws.{bernoulli}
use Rattle.std.proofs.lemmas.Nat.{mul-pow}
use Rattle.power.specs.declared.terms.Terms.{Terms}
use Rattle.power.specs.declared.rounded.Rounded.{Rounded}
use Rattle.power.specs.steps.Power.{full, StandsFor, left, right, Decided, Certain}
use Rattle.power.proofs.RoundedLaws.{full-pos}

pub undecided : (l r : Rounded) (t q : ℕ) → Decided l r t q false
undecided l r t q = record { order = λ e. absurd (subst⁻¹ T e tt) }

pub uncertain : (s : Terms) (t : ℕ) → Certain s t false
uncertain s t = record { root = λ e. absurd (subst⁻¹ T e tt) }

-- ---- two rounded numbers with one exponent: m and k of v, n and l of w, P is a power of 2, u is
-- m/t

module _ (B P m n k l v w : ℕ) (B-pos : 0 < B) where
  order_le : v * B ≤ (m + k) * P → n * P ≤ w * B → m + k ≤ n → v ≤ w
  order_le f g h =
      le_of_mul-le-mul_right {k = B} (le_trans f (le_trans (mul-le-mul_right P h) g)) B-pos

  order_lt :
      (t q u : ℕ) → 0 < P → 0 < t → u * t ≤ m → m * P ≤ v * B → w * B ≤ (n + l) * P →
      n + l < m + u * q → w * t < v * (t + q)
  order_lt t q u P_pos t-pos quotient f g h =
      lt_of_mul-lt-mul_right B
      (lt_of_le_of_lt (scaled-up w B (n + l) P t g)
      (lt_of_lt_of_le (mul-lt-mul_of_pos_right h (mul-pos P_pos t-pos))
      (scaled-down m P v B t q u quotient f)))
    where
      scaled-up : (w B a P t : ℕ) → w * B ≤ a * P → w * t * B ≤ a * (P * t)
      scaled-up w B a P t g = omega (arith, mul-le-mul_right t g)

      scaled-down :
          (m P v B t q u : ℕ) → u * t ≤ m → m * P ≤ v * B → (m + u * q) * (P * t) ≤ v * (t + q) * B
      scaled-down m P v B t q u quotient f =
          omega (arith, mul-le-mul_right (P * q) quotient, mul-le-mul_right (t + q) f)

pub room-le : (m t q : ℕ) → q ≤ t → m / t * q ≤ m
room-le m t q h = le_trans (mul-le-mul_left (m / t) h) (div-mul-le_self m t)

pub near-decides :
    (l r : Rounded) (t q : ℕ) → 0 < t → l.exponent ≡ r.exponent →
    l.mantissa + l.short ≤ r.mantissa → r.short ≤ l.mantissa / t * q →
    Decided l r t q (ltb (r.mantissa - l.mantissa) (l.mantissa / t * q - r.short))
near-decides l r t q t-pos e low high = record {
  order = λ b v w f g.
      let P : ℕ = 2 ^ r.exponent in
      let f-low : l.mantissa * P ≤ v * full =
      subst (λ (i : ℕ). l.mantissa * 2 ^ i ≤ v * full) e f.low in
      let f-high : v * full ≤ (l.mantissa + l.short) * P =
      subst (λ (i : ℕ). v * full ≤ (l.mantissa + l.short) * 2 ^ i) e f.high in
      let quotient : l.mantissa / t * t ≤ l.mantissa = div-mul-le_self l.mantissa t in (
        order_le full P l.mantissa r.mantissa l.short r.short v w full-pos f-high g.low low,
        order_lt full P l.mantissa r.mantissa l.short r.short v w full-pos t q (l.mantissa / t)
            (one-le-pow r.exponent 2 (omega arith)) t-pos
            quotient f-low g.high
            (omega (arith, ltb-true (r.mantissa - l.mantissa) (l.mantissa / t * q - r.short) b)),
      );
}

-- ---- what t + 1 gives

module _ (s : Terms) (t : ℕ) where
  abbrev dens : ℕ
  dens = s.rise ^ s.q * s.fall ^ s.p

  left-product : left s t ≡ (t * s.rise) ^ s.q * s.fall ^ s.p
  unfolding left
  left-product =
      sym (mul_assoc (t ^ s.q) (s.rise ^ s.q) (s.fall ^ s.p))
      ∙ ap (λ (m : ℕ). m * s.fall ^ s.p) (sym (mul-pow t s.rise s.q))

  right-product : right s ≡ (1000000000 * s.above) ^ s.q * s.below ^ s.p
  unfolding right
  right-product =
      sym (mul_assoc (1000000000 ^ s.q) (s.above ^ s.q) (s.below ^ s.p))
      ∙ ap (λ (m : ℕ). m * s.below ^ s.p) (sym (mul-pow 1000000000 s.above s.q))

  left-next : left s t * (t + s.q) ≤ left s (t + 1) * t
  unfolding left
  left-next = scaled (t ^ s.q) ((t + 1) ^ s.q) dens (t + s.q) t (raised (bernoulli t 1 s.q))
    where
      raised : t ^ s.q * (t + s.q * 1) ≤ t * (t + 1) ^ s.q → t ^ s.q * (t + s.q) ≤ (t + 1) ^ s.q * t
      raised h = omega (arith, h)

      scaled : (a b d c t : ℕ) → a * c ≤ b * t → a * d * c ≤ b * d * t
      scaled a b d c t h = omega (arith, mul-le-mul_right d h)

  pub decided-certain :
      {l r : Rounded} {b : Bool} → StandsFor ((t * s.rise) ^ s.q * s.fall ^ s.p) l →
      StandsFor ((1000000000 * s.above) ^ s.q * s.below ^ s.p) r →
      Decided l r t s.q b → Certain s t b
  decided-certain {l} {r} f g h = record {
    root = λ e.
        let o =
        h.order e (left s t) (right s) (subst⁻¹ (λ (m : ℕ). StandsFor m l) left-product f)
        (subst⁻¹ (λ (m : ℕ). StandsFor m r) right-product g) in
        record { under = o.0; above = lt_of_mul-lt-mul_right t (lt_of_lt_of_le o.1 left-next) };
  }
