-- The weighted mean of two factors: where u + v = a + b and p·a = q·b, u^q·v^p is at most a^q·b^p.
use Prim.Native.Nat.{ℕ, zero, suc, ◌+◌, ◌-◌, ◌*◌, ◌^◌, ◌≤◌, ◌<◌}
use mathlib.Core.Path.{◌≡◌, ap, subst}
use native.Mathlib.Omega.{arith}
use Rattle.exact.proofs.OrderLaws.{le-or-lt}
use Rattle.std.proofs.lemmas.Nat.{mul-pow}
use Rattle.exact.proofs.PowerLaws.{pow-mul}
use native.Mathlib.Nat.{
  le_of_mul-le-mul_right,
  mul-le-mul,
  mul-le-mul_left,
  mul-le-mul_right,
  mul-pos,
  mul_comm,
  pow-suc,
  pow-zero,
  pow-le-pow_left,
  one-le-pow,
}

-- Bernoulli: (1 + s/c)^n ≥ 1 + n·s/c
pub bernoulli : (c s n : ℕ) → c ^ n * (c + n * s) ≤ c * (c + s) ^ n
bernoulli c s zero = rw (pow-zero, pow-zero) (omega arith)
bernoulli c s (suc n) =
    rw (pow-suc c n, pow-suc (c + s) n) (omega (arith, mul-le-mul_right (c + s) (bernoulli c s n)))

fall-step : (c d e s m l : ℕ) → c * e ≤ (e + s) * d → m * (e + s) ≤ c * l → m * c * e ≤ c * (l * d)
fall-step c d e s m l key h = omega (arith, mul-le-mul_left m key, mul-le-mul_right d h)

-- Bernoulli: (1 - s/c)^n ≥ 1 - n·s/c, with c = d + s = e + n·s
fall : (d s e n : ℕ) → d + s ≡ e + n * s → (d + s) ^ n * e ≤ (d + s) * d ^ n
fall d s e zero h = rw (pow-zero, pow-zero) (omega arith)
fall d s e (suc n) h =
    let le : e ≤ d = omega arith in
    let key : (d + s) * e ≤ (e + s) * d = omega (arith, mul-le-mul_right s le) in
    rw (pow-suc (d + s) n, pow-suc d n)
    (fall-step (d + s) d e s ((d + s) ^ n) (d ^ n) key (fall d s (e + s) n (omega arith)))

-- raised to a common power
raise : (c m u a p q : ℕ) → c ^ p * u ≤ a * m ^ p → c ^ (p * q) * u ^ q ≤ a ^ q * m ^ (p * q)
raise c m u a p q h =
    rw (pow-mul c p q, pow-mul m p q, ← (mul-pow (c ^ p) u q), ← (mul-pow a (m ^ p) q))
    (pow-le-pow_left h q)

join :
    (x y z u v a b : ℕ) → zero < x → x * u ≤ a * y → x * v ≤ b * z → y * z ≤ x * x → u * v ≤ a * b
join x y z u v a b p h k l =
    le_of_mul-le-mul_right {k = x * x}
    (omega (arith, mul-le-mul h k, mul-le-mul_left (a * b) l)) (mul-pos p p)

-- a grows by s and b = v + s falls by s; d + s = p·a = q·b
module _ (a s v d p q : ℕ) (p-pos : zero < p) (q-pos : zero < q) (a-pos : zero < a)
    (pa : d + s ≡ p * a) (qb : d + s ≡ q * (v + s)) where
  grown : (d + s) ^ p * (a + s) ≤ a * (d + s + s) ^ p
  grown =
      le_of_mul-le-mul_right {k = p}
      (omega (
        arith,
        bernoulli (d + s) s p,
        ap (λ (m : ℕ). (d + s) ^ p * m) pa,
        ap (λ (m : ℕ). m * (d + s + s) ^ p) pa,
      ))
      p-pos

  fallen : (d + s) ^ q * v ≤ (v + s) * d ^ q
  fallen =
      le_of_mul-le-mul_right {k = q}
      (omega (arith, fall d s (q * v) q (omega (arith, qb)), ap (λ (m : ℕ). m * d ^ q) qb)) q-pos

  moved-le : (a + s) ^ q * v ^ p ≤ a ^ q * (v + s) ^ p
  moved-le =
      let n : ℕ = p * q in
      join ((d + s) ^ n) ((d + s + s) ^ n) (d ^ n) _ _ _ _
      (one-le-pow n (d + s) (rw pa (mul-pos p-pos a-pos)))
      (raise (d + s) (d + s + s) (a + s) a p q grown)
      (subst (λ (m : ℕ). (d + s) ^ m * v ^ p ≤ (v + s) ^ p * d ^ m) (mul_comm q p)
      (raise (d + s) d v (v + s) q p fallen))
      (rw (← (mul-pow (d + s + s) d n), ← (mul-pow (d + s) (d + s) n))
      (pow-le-pow_left (omega arith) n))

-- where a ≤ u, so that v ≤ b
above-le :
    (a b u v p q : ℕ) → zero < p → zero < q → zero < a → p * a ≡ q * b → u + v ≡ a + b → a ≤ u →
    u ^ q * v ^ p ≤ a ^ q * b ^ p
above-le a b u v p q p-pos q-pos a-pos ratio sum h =
    let u-is : a + (u - a) ≡ u = omega arith in
    let b-is : v + (u - a) ≡ b = omega arith in
    let c-is : (p * a - (u - a)) + (u - a) ≡ p * a = omega (arith, mul-le-mul_right b q-pos) in
    subst (λ (m : ℕ). m ^ q * v ^ p ≤ a ^ q * b ^ p) u-is
    (subst (λ (m : ℕ). (a + (u - a)) ^ q * v ^ p ≤ a ^ q * m ^ p) b-is
    (moved-le a (u - a) v (p * a - (u - a)) p q p-pos q-pos a-pos c-is (rw b-is (omega arith))))

pub mean-le :
    (a b u v p q : ℕ) → zero < p → zero < q → zero < a → zero < b → p * a ≡ q * b → u + v ≡ a + b →
    u ^ q * v ^ p ≤ a ^ q * b ^ p
mean-le a b u v p q p-pos q-pos a-pos b-pos ratio sum = grind (arith, above-le, mul_comm, le-or-lt)
