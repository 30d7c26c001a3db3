-- Fractions are ordered, sums and products keep the order, and the straight line lies between its
-- ends and falls from the higher to the lower.
use Prim.Native.Nat.{ℕ, ◌+◌, ◌-◌, ◌*◌, ◌≤◌, ◌<◌, max}
use mathlib.Core.Path.{◌≡◌}
use mathlib.Core.Logic.{⊎_elim}
use native.Mathlib.Nat.{le_antisymm, mul-le-mul_left, mul-le-mul_right, mul-le-mul}
use native.Mathlib.Nat.{mul-lt-mul_of_pos_right, le_of_mul-le-mul_left, lt_of_mul-lt-mul_right}
use native.Mathlib.Omega.{arith}
use borrow.Author.Tests.{lt-ltb, le-ltb}
use Rattle.exact.specs.declared.Fraction.{Fraction}
use Rattle.exact.specs.Frac.{Frac, natural, ◌over◌, ◌⊕◌, ◌⊗◌, ◌≼◌, ◌≺◌, ◌≈◌, Is, frac_of, straight}
use Rattle.exact.proofs.OrderLaws.{le-or-lt}

pub ≼_refl : (x : Frac) → x ≼ x
≼_refl x = omega arith

pub ≼_trans : {x y z : Frac} → x ≼ y → y ≼ z → x ≼ z
≼_trans {x} {y} {z} p q =
    record {
      cross =
          le_of_mul-le-mul_left {k = y.den}
          (omega (arith, mul-le-mul_right z.den p.cross, mul-le-mul_right x.den q.cross))
          y.positive;
    }

pub ≼-≺-trans : {x y z : Frac} → x ≼ y → y ≺ z → x ≺ z
≼-≺-trans {x} {y} {z} p q =
    record {
      cross =
          lt_of_mul-lt-mul_right y.den
          (omega (
            arith,
            mul-le-mul_right z.den p.cross,
            mul-lt-mul_of_pos_right q.cross x.positive,
          ));
    }

pub ≼-antisym : {x y : Frac} → x ≼ y → y ≼ x → x ≈ y
≼-antisym h k = record { cross = le_antisymm h.cross k.cross }

pub ≈-le : {x y : Frac} → x ≈ y → x ≼ y
≈-le e = omega (arith, e.cross)

pub ≈-ge : {x y : Frac} → x ≈ y → y ≼ x
≈-ge e = omega (arith, e.cross)

pub ⊕-mono : {x x' y y' : Frac} → x ≼ x' → y ≼ y' → x ⊕ y ≼ x' ⊕ y'
⊕-mono {x} {x'} {y} {y'} p q = omega (
  arith,
  mul-le-mul_right (y.den * y'.den) p.cross,
  mul-le-mul_right (x.den * x'.den) q.cross,
)

-- a sum of whole numbers against a sum of fractions
natural-⊕ : (m n : ℕ) → natural (m + n) ≈ natural m ⊕ natural n
natural-⊕ m n = record { cross = omega arith }

pub ⊕-low : {m n : ℕ} {x y : Frac} → natural m ≼ x → natural n ≼ y → natural (m + n) ≼ x ⊕ y
⊕-low {m} {n} p q = ≼_trans (≈-le (natural-⊕ m n)) (⊕-mono p q)

pub ⊕-high : {m n : ℕ} {x y : Frac} → x ≼ natural m → y ≼ natural n → x ⊕ y ≼ natural (m + n)
⊕-high {m} {n} p q = ≼_trans (⊕-mono p q) (≈-ge (natural-⊕ m n))

pub ⊗-mono : {x x' y y' : Frac} → x ≼ x' → y ≼ y' → x ⊗ y ≼ x' ⊗ y'
⊗-mono p q = omega (arith, mul-le-mul p.cross q.cross)

pub ⊗-comm : (x y : Frac) → x ⊗ y ≼ y ⊗ x
⊗-comm x y = record { cross = omega arith }

pub ⊗-le-one : {x y : Frac} → x ≼ natural 1 → y ≼ natural 1 → x ⊗ y ≼ natural 1
⊗-le-one p q = ≼_trans (⊗-mono p q) (record { cross = omega arith })

pub is-value : {r : Fraction} {x : Frac} → Is r x → frac_of r ≈ x
is-value {r} {x} i =
    let whole : max 1 r.den ≡ x.den = omega (arith, i.den, x.positive) in
    record { cross = rw (i.num, whole) }

max-is : (d : ℕ) → 0 < d → max 1 d ≡ d
max-is d h = omega arith

pub over-le : {m c n d : ℕ} → 0 < c → 0 < d → m * d ≤ n * c → m over c ≼ n over d
over-le {m} {c} {n} {d} p q h = record { cross = rw (max-is d q, max-is c p) h }

pub over-mono : {a b : ℕ} (m : ℕ) → a ≤ b → a over m ≼ b over m
over-mono m h = record { cross = mul-le-mul_right (max 1 m) h }

pub over-same : {m c n d : ℕ} → 0 < c → 0 < d → m * d ≡ n * c → m over c ≈ n over d
over-same {m} {c} {n} {d} p q h = record { cross = rw (max-is d q, max-is c p) h }

-- ---- the straight line, before its end and past it

module _ (from to d s : ℕ) where
  pub straight-along : d < s → straight from to d s ≡ ((s - d) * from + d * to) over (100 * s)
  unfolding straight
  straight-along h = rw (lt-ltb d s h)

  pub straight-end : s ≤ d → straight from to d s ≡ to over 100
  unfolding straight
  straight-end h = rw (le-ltb d s h)

pub straight-start : (from to s : ℕ) → 0 < s → straight from to 0 s ≈ from over 100
straight-start from to s h = grind (arith, straight-along, over-same)

mix-le :
    (from to top m d : ℕ) → from ≤ top → to ≤ top →
    (m * from + d * to) * 100 ≤ top * (100 * (m + d))
mix-le from to top m d p q = omega (arith, mul-le-mul_left m p, mul-le-mul_left d q)

mix-ge :
    (from to low m d : ℕ) → low ≤ from → low ≤ to →
    low * (100 * (m + d)) ≤ (m * from + d * to) * 100
mix-ge from to low m d p q = omega (arith, mul-le-mul_left m p, mul-le-mul_left d q)

module _ (from to d s : ℕ) where
  pub straight-le : (top : ℕ) → from ≤ top → to ≤ top → straight from to d s ≼ top over 100
  straight-le top p q = grind (arith, straight-end, le-or-lt, straight-along, over-le, mix-le)

  pub straight-ge : (low : ℕ) → low ≤ from → low ≤ to → low over 100 ≼ straight from to d s
  straight-ge low p q =
      ⊎_elim (λ h. rw (straight-end from to d s h) (omega arith)) along (le-or-lt s d)
    where
      along : d < s → low over 100 ≼ straight from to d s
      along h =
          let all : s - d + d ≡ s = omega arith in
          rw (straight-along from to d s h)
          (over-le {c = 100} (omega arith) (omega arith)
          (rw all at (mix-ge from to low (s - d) d p q)))

-- k more of the s steps are k more of the lower end
fall : (from to d k m : ℕ) → to ≤ from → m * from + (d + k) * to ≤ (m + k) * from + d * to
fall from to d k m h = omega (arith, mul-le-mul_left k h)

module _ (from to d d' s : ℕ) (lower : to ≤ from) (before : d ≤ d') where
  along-anti : d' < s → straight from to d' s ≼ straight from to d s
  along-anti h =
      let here : d + (d' - d) ≡ d' = omega arith in
      let ahead : s - d' + (d' - d) ≡ s - d = omega arith in
      let step = rw (here, ahead) at (fall from to d (d' - d) (s - d') lower) in
      rw (straight-along from to d' s h, straight-along from to d s (omega arith))
      (over-le (omega arith) (omega arith) (mul-le-mul_right (100 * s) step))

  pub straight-anti : straight from to d' s ≼ straight from to d s
  straight-anti = grind (arith, straight-end, straight-ge, along-anti, le-or-lt)
