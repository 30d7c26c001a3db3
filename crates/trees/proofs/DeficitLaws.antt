-- For any sound figures f_VPD lies between its limits, has its stated values at "max" and "min" and
-- falls as the deficit grows, by no more than its slope; so the factors of two deficits enclose
-- those of all between them.
use Rattle.std.proofs.lemmas.Bool.Decides.{nat_tests}
use Prim.Native.Nat.{ℕ, ◌+◌, ◌-◌, ◌*◌, ◌<◌, max}
use mathlib.Core.Path.{◌≡◌, ap}
use native.Mathlib.Nat.{mul-pos, mul_comm, mul-sub}
use native.Mathlib.Omega.{arith}
use Rattle.trees.specs.declared.Figures.{Figures}
use Rattle.trees.specs.declared.Deficits.{Deficits}
use Rattle.trees.specs.declared.FactorPair.{FactorPair}
use Rattle.trees.specs.Sound.{Sound}
use Rattle.trees.specs.Deficit.{falling, deficit_of, lower_deficit, upper_deficit, lower_factor}
use Rattle.trees.specs.Deficit.{upper_factor, IsDeficitPair}
use Rattle.trees.proofs.FactorLaws.{falling-limits, falling-anti, falling-start, falling-end}
use Rattle.exact.specs.Frac.{Frac, ◌over◌, natural, ◌⊕◌, ◌⊗◌, ◌≼◌, ◌≺◌, ◌≈◌, Between, Is}
use Rattle.exact.proofs.FracLaws.{≼_trans, ≈-le, ≈-ge, ⊕-mono, is-value}
use Rattle.exact.proofs.StraightLaws.{straight-scale, straight-near}

falling-scale : (f_min d s c : ℕ) → 0 < c → falling f_min (d * c) (s * c) ≈ falling f_min d s
unfolding falling
falling-scale f_min d s c h = straight-scale 100 f_min d s c h

-- how far n is past m, in finer steps
past-scale : (n m c : ℕ) → (n - m) * c ≡ n * c - m * c
past-scale n m c = rw (mul_comm (n - m) c, mul-sub c n m, mul_comm c n, mul_comm c m)

-- e of s steps are w of r, where each of the r is q·(w's denominator) of the s
slope-le :
    (w : Frac) (q r g : ℕ) → 0 < q → 0 < r →
    (w.num * q * g) over (100 * (r * (q * w.den))) ≼ w ⊗ g over (100 * r)
slope-le w q r g q-pos r-pos =
    let all-pos : 0 < r * (q * w.den) = mul-pos r-pos (mul-pos q-pos w.positive) in
    let all-is : max 1 (100 * (r * (q * w.den))) ≡ 100 * (r * (q * w.den)) =
    omega (arith, all-pos) in
    let r-is : max 1 (100 * r) ≡ 100 * r = omega arith in
    record { cross = rw (all-is, r-is) (omega arith) }

module _ (f : Figures) (sound : Sound f) where
  abbrev range : ℕ
  range = f.vpd_min - f.vpd_max

  range-pos : 0 < range
  range-pos = omega (arith, sound.vpd)

  steps_pos : (vpd : Frac) → 0 < range * vpd.den
  steps_pos vpd = mul-pos range-pos vpd.positive

  pub deficit-limits : (vpd : Frac) → Between (f.f_min over 100) (natural 1) (deficit_of f vpd)
  unfolding deficit_of
  deficit-limits vpd = falling-limits f sound _ _

  pub deficit-max : (vpd : Frac) → vpd ≼ natural f.vpd_max → deficit_of f vpd ≈ natural 1
  unfolding deficit_of
  deficit-max vpd h = falling-start f sound _ _ (omega (arith, h.cross)) (steps_pos vpd)

  pub deficit-min : (vpd : Frac) → natural f.vpd_min ≼ vpd → deficit_of f vpd ≈ f.f_min over 100
  unfolding deficit_of
  deficit-min vpd h = grind (arith, nat_tests, falling-end, past-scale)

  -- ---- in p steps a Pa, c times as many as the deficit's own

  deficit-fine :
      (x : Frac) (c p : ℕ) → 0 < c → x.den * c ≡ p →
      falling f.f_min (x.num * c - f.vpd_max * p) (range * p) ≈ deficit_of f x
  unfolding deficit_of
  deficit-fine x c p c_pos e =
      let d-is : x.num * c - f.vpd_max * p ≡ (x.num - f.vpd_max * x.den) * c =
      omega (arith, past-scale x.num (f.vpd_max * x.den) c, ap (λ t. f.vpd_max * t) e) in
      let s-is : range * p ≡ range * x.den * c = omega (arith, ap (λ t. range * t) e) in
      rw (d-is, s-is) (falling-scale f.f_min (x.num - f.vpd_max * x.den) (range * x.den) c c_pos)

  pub deficit-anti : (x y : Frac) → x ≼ y → deficit_of f y ≼ deficit_of f x
  deficit-anti x y h =
      let p : ℕ = x.den * y.den in
      ≼_trans (≈-ge (deficit-fine y x.den p x.positive (omega arith)))
      (≼_trans (falling-anti f sound (x.num * y.den - f.vpd_max * p) (y.num * x.den - f.vpd_max * p)
      (range * p) (omega (arith, h.cross)))
      (≈-le (deficit-fine x y.den p y.positive (omega arith))))

  -- ---- two deficits that are w apart: at most w/(min - max) of the fall from 1 to f_min

  falling-near :
      (d e s : ℕ) → 0 < s →
      falling f.f_min d s ≼ falling f.f_min (d + e) s ⊕ (e * (100 - f.f_min)) over (100 * s)
  unfolding falling
  falling-near d e s s-pos =
      let all : f.f_min + (100 - f.f_min) ≡ 100 = omega (arith, sound.f_min) in
      rw all at (straight-near f.f_min (100 - f.f_min) d e s s-pos)

  pub deficit-near :
      (x y w : Frac) → y ≼ x ⊕ w →
      deficit_of f x ≼ deficit_of f y ⊕ w ⊗ (100 - f.f_min) over (100 * range)
  deficit-near x y w h =
      let p : ℕ = x.den * y.den * w.den in
      let dx : ℕ = x.num * (y.den * w.den) - f.vpd_max * p in
      let dy : ℕ = y.num * (x.den * w.den) - f.vpd_max * p in
      let e : ℕ = w.num * (x.den * y.den) in
      let p-pos : 0 < x.den * y.den * w.den = mul-pos (mul-pos x.positive y.positive) w.positive in
      ≼_trans (≈-ge (deficit-fine x (y.den * w.den) p
      (mul-pos y.positive w.positive) (omega arith)))
      (≼_trans (falling-near dx e (range * p) (mul-pos range-pos p-pos))
      (⊕-mono
      (≼_trans (falling-anti f sound dy (dx + e) (range * p) (omega (arith, h.cross)))
      (≈-le (deficit-fine y (x.den * w.den) p (mul-pos x.positive w.positive) (omega arith))))
      (slope-le w (x.den * y.den) range (100 - f.f_min) (mul-pos x.positive y.positive) range-pos)))

  -- ---- the two factors

  module _ (vpd : Deficits) where
    deficit-encloses :
        (x : Frac) → Between (lower_deficit vpd) (upper_deficit vpd) x →
        Between (lower_factor f vpd) (upper_factor f vpd) (deficit_of f x)
    deficit-encloses x b = grind (arith, nat_tests, deficit-anti)

    deficit-crossed :
        upper_deficit vpd ≺ lower_deficit vpd → upper_factor f vpd ≼ lower_factor f vpd
    deficit-crossed h =
        deficit-anti (upper_deficit vpd) (lower_deficit vpd) (omega (arith, h.cross))

pub deficit-pair :
    (f : Figures) (vpd : Deficits) (r : FactorPair) → Is r.lower (lower_factor f vpd) →
    Is r.upper (upper_factor f vpd) → IsDeficitPair f vpd r
deficit-pair f vpd r l u = record {
  lower = l;
  upper = u;
  encloses = λ sound x b.
      let e = deficit-encloses f sound vpd x b in
      record {
        above = ≼_trans (≈-le (is-value l)) e.above;
        below = ≼_trans e.below (≈-ge (is-value u));
      };
  crossed = λ sound h.
      ≼_trans (≈-le (is-value u)) (≼_trans (deficit-crossed f sound vpd h) (≈-ge (is-value l)));
}
