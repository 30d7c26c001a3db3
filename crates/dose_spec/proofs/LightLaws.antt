-- f_light at k never falls as k grows, is at most 1 and in the dark 0; light_low and light_up
-- enclose it and are at most 7 apart, in units of 10⁻⁹.
use Rattle.std.proofs.lemmas.Bool.Decides.{nat_tests}
use Prim.Native.Nat.{ℕ, ◌+◌, ◌-◌, ◌*◌, ◌^◌, ◌≤◌, ◌<◌}
use native.Mathlib.Nat.{mul-le-mul, mul-sub, mul_comm, mul-zero}
use native.Mathlib.Omega.{arith}
use lib.Dec.{lit<}
use Rattle.exact.specs.Frac.{Frac, natural, ◌over◌, ◌⊖◌, ◌≼◌}
use Rattle.exact.specs.Series.{decay_at}
use Rattle.exact.proofs.FracLaws.{≼_trans, ≼-antisym, over-mono}
use Rattle.exact.proofs.SeriesLaws.{decay_at-anti, decay_at-zero}
use Rattle.trees.specs.declared.Figures.{Figures}
use Rattle.dose_spec.specs.Light.{light_at, digit_terms, light_low_of, light_up_of, light_low}
use Rattle.dose_spec.specs.Light.{light_up}
use Rattle.dose_spec.specs.Facts.{LightFacts}
use Rattle.dose_spec.proofs.DecayLaws.{decay_low-near}

-- ---- 1 less a fraction

left_le : (a b s t : ℕ) → s * b ≤ a * t → (b - a) * t ≤ (t - s) * b
left_le a b s t h = grind (arith, mul_comm, mul-sub)

rest-anti : {x y : Frac} → y ≼ x → natural 1 ⊖ x ≼ natural 1 ⊖ y
rest-anti {x} {y} h = grind (arith, left_le x.num x.den y.num y.den h.cross)

rest_le : (x : Frac) → natural 1 ⊖ x ≼ natural 1
rest_le x = omega arith

module _ (x : Frac) (s : ℕ) where
  rest_under : x ≼ s over 10 ^ 9 → (10 ^ 9 - s) over 10 ^ 9 ≼ natural 1 ⊖ x
  rest_under h = grind (arith, left_le)

  rest-above : s over 10 ^ 9 ≼ x → natural 1 ⊖ x ≼ (10 ^ 9 - s) over 10 ^ 9
  rest-above h = omega (arith, left_le x.num x.den s (10 ^ 9) h.cross)

-- ---- at k

module _ (f : Figures) (ppfd : ℕ) where
  pub light_at-mono : {k l : ℕ} → k ≤ l → light_at k f ppfd ≼ light_at l f ppfd
  unfolding light_at
  light_at-mono h = rest-anti (decay_at-anti 10000 (lit< tt) (f.light_a * ppfd) h)

  light_at-le : (k : ℕ) → light_at k f ppfd ≼ natural 1
  unfolding light_at
  light_at-le k = rest_le (decay_at k (f.light_a * ppfd) 10000)

light_at-dark : (k : ℕ) (f : Figures) → light_at k f 0 ≼ natural 0
unfolding light_at
light_at-dark k f =
    rw (mul-zero f.light_a) (≼_trans (rest-anti (decay_at-zero 10000 (lit< tt) k)) (omega arith))

pub light-facts : (f : Figures) → LightFacts f
light-facts f = grind (arith, nat_tests, light_at-le, ≼-antisym, light_at-dark, light_at-mono)

-- ---- the pair

-- the k at which f_light is not below its lower number
abbrev pub light_terms : ℕ
light_terms = digit_terms + digit_terms + digit_terms

module _ (f : Figures) (ppfd : ℕ) (steep : f.light_a ≤ 200) (bright : ppfd ≤ 3000) where
  small : f.light_a * ppfd < 650000
  small = omega (arith, mul-le-mul steep bright)

  pub light-low : light_low f ppfd over 10 ^ 9 ≼ light_at light_terms f ppfd
  unfolding light_at light_low light_low_of
  light-low = grind (arith, mul-le-mul steep bright, rest_under, ≼_trans, decay_low-near, over-mono)

  pub light-high : (k : ℕ) → light_at k f ppfd ≼ light_up f ppfd over 10 ^ 9
  unfolding light_at light_up light_up_of
  light-high k = rest-above _ _ ((decay_low-near _ small).low k)

module _ (f : Figures) (ppfd : ℕ) where
  pub light-gap : light_up f ppfd ≤ light_low f ppfd + 7
  unfolding light_low light_up light_low_of light_up_of
  light-gap = omega arith

  pub light-order : light_low f ppfd ≤ light_up f ppfd
  unfolding light_low light_up light_low_of light_up_of
  light-order = omega arith

  pub light_up-le : light_up f ppfd ≤ 10 ^ 9
  unfolding light_up light_up_of
  light_up-le = omega arith
