-- Powers by squares: x^q·y^p out of x^(q/2)·y^(p/2), also where the numbers are rounded.
use Rattle.std.proofs.Common.{◌≡◌, ℕ, ◌+◌, ◌*◌, ◌/◌, ◌%◌, ◌^◌, ◌<◌, sym, ap, ◌∙◌, subst, ap₂}
use Rattle.std.proofs.Common.{one-mul, pow-suc, mul-one, arith, pow-add}
use mathlib.Core.Path.{subst⁻¹}
use native.Mathlib.Nat.{pow-zero}
use native.Mathlib.Numerals.{unary_clauses}
use Rattle.power.specs.declared.rounded.Rounded.{Rounded}
use Rattle.power.specs.steps.Power.{StandsFor, IsProduct, IsOddProduct, IsStep}

-- ---- one factor more, or none

odd_power : (w n : ℕ) → n % 2 ≡ 1 → w ^ (n % 2) ≡ w
odd_power w n e = ap (λ (i : ℕ). w ^ i) e ∙ pow-suc w 0 ∙ rw pow-zero (one-mul w)

even_power : (w n : ℕ) → n % 2 ≡ 0 → w ^ (n % 2) ≡ 1
even_power w n e = ap (λ (i : ℕ). w ^ i) e ∙ simp unary_clauses

pub near-odd : {r x s : Rounded} (n : ℕ) → n % 2 ≡ 1 → IsProduct r x s → IsOddProduct r x n s
near-odd {r} {x} {s} n e h = record {
  near = λ v w f g. subst⁻¹ (λ (m : ℕ). StandsFor (v * m) s) (odd_power w n e) (h.near v w f g);
}

pub near_even : {r x : Rounded} (n : ℕ) → n % 2 ≡ 0 → IsOddProduct r x n r
near_even {r} {x} n e = record {
  near = λ v w f g.
      subst⁻¹ (λ (m : ℕ). StandsFor m r) (ap (λ (m : ℕ). v * m) (even_power w n e) ∙ mul-one v) f;
}

-- ---- a step

halves-power : (v n : ℕ) → v ^ (n / 2) * v ^ (n / 2) * v ^ (n % 2) ≡ v ^ n
halves-power v n =
    let e : n / 2 + n / 2 + n % 2 ≡ n = omega arith in
    ap (λ (m : ℕ). m * v ^ (n % 2)) (sym (pow-add v (n / 2) (n / 2)))
    ∙ sym (pow-add v (n / 2 + n / 2) (n % 2)) ∙ ap (λ (i : ℕ). v ^ i) e

sorted : (a b x y : ℕ) → a * b * (a * b) * x * y ≡ a * a * x * (b * b * y)
sorted a b x y = omega arith

step-power :
    (v w q p : ℕ) →
    v ^ (q / 2) * w ^ (p / 2) * (v ^ (q / 2) * w ^ (p / 2)) * v ^ (q % 2) * w ^ (p % 2)
    ≡ v ^ q * w ^ p
step-power v w q p =
    sorted (v ^ (q / 2)) (w ^ (p / 2)) (v ^ (q % 2)) (w ^ (p % 2))
    ∙ ap₂ (λ (m n : ℕ). m * n) (halves-power v q) (halves-power w p)

pub near_step :
    {before x y s t r : Rounded} (q p : ℕ) → IsProduct before before s → IsOddProduct s x q t →
    IsOddProduct t y p r → IsStep before x y q p r
near_step {before} {x} {y} {s} {t} {r} q p square first second = record {
  near = λ v w b f g.
      let half : ℕ = v ^ (q / 2) * w ^ (p / 2) in
      subst (λ (m : ℕ). StandsFor m r) (step-power v w q p)
      (second.near (half * half * v ^ (q % 2)) w
      (first.near (half * half) v (square.near half half b b) f) g);
}

-- ---- five steps

-- the same powers
near-powers-same :
    {s : Rounded} (x y i j k l : ℕ) → i ≡ k → j ≡ l → StandsFor (x ^ k * y ^ l) s →
    StandsFor (x ^ i * y ^ j) s
near-powers-same {s} x y i j k l e f h =
    subst⁻¹ (λ (m : ℕ). StandsFor m s) (ap₂ (λ (u v : ℕ). x ^ u * y ^ v) e f) h

pub near-powers :
    {one a b r16 r8 r4 r2 r : Rounded} (x y q p : ℕ) → q < 32 → p < 32 → StandsFor 1 one →
    StandsFor x a → StandsFor y b →
    IsStep one a b (q / 16) (p / 16) r16 → IsStep r16 a b (q / 8) (p / 8) r8 →
    IsStep r8 a b (q / 4) (p / 4) r4 →
    IsStep r4 a b (q / 2) (p / 2) r2 → IsStep r2 a b q p r → StandsFor (x ^ q * y ^ p) r
near-powers {one} x y q p q-lt p-lt o f g s16 s8 s4 s2 s1 =
    let n32 =
    near-powers-same {s = one} x y (q / 16 / 2) (p / 16 / 2) 0 0 (omega arith) (omega arith)
    (rw (pow-zero, pow-zero) o) in
    let n16 =
    near-powers-same x y (q / 8 / 2) (p / 8 / 2) (q / 16) (p / 16) (omega arith) (omega arith)
    (s16.near x y n32 f g) in
    let n8 =
    near-powers-same x y (q / 4 / 2) (p / 4 / 2) (q / 8) (p / 8) (omega arith) (omega arith)
    (s8.near x y n16 f g) in
    let n4 =
    near-powers-same x y (q / 2 / 2) (p / 2 / 2) (q / 4) (p / 4) (omega arith) (omega arith)
    (s4.near x y n8 f g) in
    s1.near x y (s2.near x y n4 f g) f g
