-- f_VPD out of humidity, for any sound figures: it never falls as k grows, the factors of the two
-- deficits enclose it, and a number times them stays as close as the deficit's range allows.
use Prim.Native.Nat.{ℕ, ◌+◌, ◌-◌, ◌*◌, ◌^◌, ◌≤◌, max}
use mathlib.Core.Path.{◌≡◌}
use native.Mathlib.Nat.{mul-le-mul_right}
use native.Mathlib.Omega.{arith}
use Rattle.exact.specs.Frac.{◌over◌, ◌⊕◌, ◌⊗◌, ◌≼◌}
use Rattle.exact.specs.Rounding.{times_up, times_down}
use Rattle.exact.proofs.TimesLaws.{times-near}
use Rattle.trees.specs.declared.Figures.{Figures}
use Rattle.trees.specs.Sound.{Sound}
use Rattle.trees.specs.Temperature.{highest_reading}
use Rattle.trees.specs.Deficit.{deficit_of, lower_deficit, upper_deficit, lower_factor}
use Rattle.trees.specs.Deficit.{upper_factor}
use Rattle.trees.proofs.DeficitLaws.{deficit-limits, deficit-anti, deficit-near}
use Rattle.dose_spec.specs.Vapour.{vpd_at}
use Rattle.dose_spec.specs.HumidityPair.{entry_k, deficit_pair}
use Rattle.dose_spec.proofs.FactsLaws.{humidity-facts}

module _ (f : Figures) (sound : Sound f) (h x : ℕ) where
  module _ (highest : x ≤ highest_reading) where
    pub factor-mono : {k l : ℕ} → k ≤ l → deficit_of f (vpd_at k h x) ≼ deficit_of f (vpd_at l h x)
    factor-mono {k} {l} j =
        deficit-anti f sound (vpd_at l h x) (vpd_at k h x)
        ((humidity-facts.deficit h x highest).falls k l j)

    pub factor-low : lower_factor f (deficit_pair h x) ≼ deficit_of f (vpd_at entry_k h x)
    factor-low =
        deficit-anti f sound (vpd_at entry_k h x) (upper_deficit (deficit_pair h x))
        (humidity-facts.deficit h x highest).high

    pub factor-high : (k : ℕ) → deficit_of f (vpd_at k h x) ≼ upper_factor f (deficit_pair h x)
    factor-high k =
        deficit-anti f sound (lower_deficit (deficit_pair h x)) (vpd_at k h x)
        ((humidity-facts.deficit h x highest).low k)

  -- ---- the two deficits are at most 1/200000 Pa apart

  deficits-near :
      upper_deficit (deficit_pair h x) ≼ lower_deficit (deficit_pair h x) ⊕ 1 over 200000
  deficits-near = record { cross = omega arith }

  pub factor-gap :
      (l u c e : ℕ) → u ≤ l + c → u ≤ 10 ^ 9 + 1 →
      (10 ^ 9 + 1) * (100 - f.f_min) ≤ e * (20000000 * (f.vpd_min - f.vpd_max)) →
      times_up u (upper_factor f (deficit_pair h x))
      ≤ times_down l (lower_factor f (deficit_pair h x)) + (c + e + 1)
  factor-gap l u c e j few wide =
      let steps : max 1 (100 * (f.vpd_min - f.vpd_max)) ≡ 100 * (f.vpd_min - f.vpd_max) =
      omega (arith, sound.vpd) in
      times-near l u c (lower_factor f (deficit_pair h x)) j
      (deficit-limits f sound (upper_deficit (deficit_pair h x))).below e
      (upper_factor f (deficit_pair h x))
      (1 over 200000 ⊗ (100 - f.f_min) over (100 * (f.vpd_min - f.vpd_max)))
      (deficit-near f sound (lower_deficit (deficit_pair h x)) (upper_deficit (deficit_pair h x))
      (1 over 200000) deficits-near)
      (record { cross = rw steps (omega (arith, mul-le-mul_right (100 - f.f_min) few, wide)) })
