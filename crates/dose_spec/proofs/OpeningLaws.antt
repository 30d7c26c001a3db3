-- max(f_min, f_temp·f_VPD·f_SW), for any sound figures and hour: at most 1, never falling as k
-- grows, and enclosed by its pair, which is at most 3 apart and as much more as f_VPD's two
-- fractions bring.
use Rattle.std.proofs.lemmas.Bool.Decides.{nat_tests}
use Prim.Native.Nat.{ℕ, ◌+◌, ◌*◌, ◌^◌, ◌≤◌, max}
use native.Mathlib.Omega.{arith}
use Rattle.exact.specs.Frac.{Frac, natural, ◌over◌, ◌⊗◌, ◌≼◌}
use Rattle.exact.specs.Rounding.{times_up, times_down}
use Rattle.exact.proofs.FracLaws.{≼_refl, ≼_trans, ⊗-mono, ⊗-le-one, over-mono}
use Rattle.exact.proofs.GreaterLaws.{greater-left, greater-right, greater-least, greater-mono}
use Rattle.exact.proofs.GreaterLaws.{max-over-least}
use Rattle.exact.proofs.RoundingLaws.{times_down_lem, times-up, times-order, times-gap}
use Rattle.exact.proofs.RoundingLaws.{times_down-le, times_up-le}
use Rattle.trees.specs.declared.Figures.{Figures}
use Rattle.trees.specs.Sound.{Sound}
use Rattle.trees.specs.Temperature.{temperature_at, temperature_pair}
use Rattle.trees.specs.SoilWater.{soil_water_of}
use Rattle.trees.proofs.FactorLaws.{soil_water-limits}
use Rattle.trees.proofs.TemperatureLaws.{temperature_at-le, temperature_at-mono}
use Rattle.trees.proofs.TemperatureLaws.{temperature_pair-low, temperature_pair-high}
use Rattle.trees.proofs.TemperatureLaws.{temperature_pair-gap, temperature_pair-order}
use Rattle.trees.proofs.TemperatureLaws.{temperature_pair-le}
use Rattle.frames.specs.declared.records.Hour.{Hour}
use Rattle.dose_spec.specs.HumidityPair.{entry_k}
use Rattle.frames.specs.Layout.{soil_number}
use Rattle.dose_spec.specs.Deficit.{HasVpd, deficit_at, deficit_low, deficit_up}
use Rattle.dose_spec.specs.Conductance.{above_of, opening_at}
use Rattle.dose_spec.specs.Pair.{opening_low, opening_up}
use Rattle.dose_spec.proofs.BudgetLaws.{is_steep, width_in}
use Rattle.dose_spec.proofs.DeficitLaws.{deficit_at-le, deficit_low-le, deficit_up-le}
use Rattle.dose_spec.proofs.DeficitLaws.{deficit_at-mono, deficit-low, deficit-high, deficit-order}
use Rattle.dose_spec.proofs.DeficitLaws.{deficit-gap}

module _ (f : Figures) (s : Sound f) (h : Hour) where
  abbrev x : ℕ
  x = above_of h.temperature

  abbrev f_min : Frac
  f_min = f.f_min over 100

  abbrev floor : ℕ
  floor = f.f_min * 10 ^ 7

  abbrev sw : Frac
  sw = soil_water_of f (soil_number h.soil)

  abbrev product : ℕ → Frac
  product k = temperature_at k f x ⊗ deficit_at k f h.air x ⊗ sw

  sw-le : sw ≼ natural 1
  sw-le = (soil_water-limits f s (soil_number h.soil)).below

  -- f_temp, then with f_VPD, then with f_SW, in units of 10⁻⁹
  abbrev low₀ : ℕ
  low₀ = (temperature_pair f x).lower

  abbrev up₀ : ℕ
  up₀ = (temperature_pair f x).upper

  abbrev low₁ : ℕ
  low₁ = times_down low₀ (deficit_low f h.air x)

  abbrev up₁ : ℕ
  up₁ = times_up up₀ (deficit_up f h.air x)

  abbrev low₂ : ℕ
  low₂ = times_down low₁ sw

  abbrev up₂ : ℕ
  up₂ = times_up up₁ sw

  -- ---- at k

  pub opening_at-le : (k : ℕ) → opening_at k f h ≼ natural 1
  unfolding opening_at
  opening_at-le k =
      greater-least f_min (product k) (record { cross = omega (arith, s.f_min) })
      (⊗-le-one (⊗-le-one (temperature_at-le f s x k) (deficit_at-le f s k h.air x)) sw-le)

  module _ (has : HasVpd h.air x) where
    pub opening_at-mono : {k l : ℕ} → k ≤ l → opening_at k f h ≼ opening_at l f h
    unfolding opening_at
    opening_at-mono j =
        greater-mono f_min
        (⊗-mono (⊗-mono (temperature_at-mono f s x j) (deficit_at-mono f s h.air x has j))
        (≼_refl sw))

    -- ---- the pair encloses it

    product-low : (k : ℕ) → 9 ≤ k → entry_k ≤ k → low₂ over 10 ^ 9 ≼ product k
    product-low k i j =
        times_down_lem low₁ (10 ^ 9) sw
        (times_down_lem low₀ (10 ^ 9) (deficit_low f h.air x)
        (≼_trans (temperature_pair-low f s x) (temperature_at-mono f s x i))
        (≼_trans (deficit-low f s h.air x has) (deficit_at-mono f s h.air x has j)))
        (≼_refl sw)

    product_high : (k : ℕ) → product k ≼ up₂ over 10 ^ 9
    product_high k =
        times-up up₁ (10 ^ 9) sw
        (times-up up₀ (10 ^ 9) (deficit_up f h.air x) (temperature_pair-high f s x k)
        (deficit-high f s h.air x has k))
        (≼_refl sw)

    pub opening-low : (k : ℕ) → 9 ≤ k → entry_k ≤ k → opening_low f h over 10 ^ 9 ≼ opening_at k f h
    unfolding opening_at opening_low
    opening-low k i j =
        max-over-least floor low₂ (10 ^ 9)
        (≼_trans (record { cross = omega arith }) (greater-left f_min (product k)))
        (≼_trans (product-low k i j) (greater-right f_min (product k)))

    pub opening-high : (k : ℕ) → opening_at k f h ≼ opening_up f h over 10 ^ 9
    unfolding opening_at opening_up
    opening-high k =
        let top = max floor up₂ in
        greater-least f_min (product k)
        (≼_trans (record { cross = omega arith })
        (over-mono {a = floor} {b = top} (10 ^ 9) (omega arith)))
        (≼_trans (product_high k) (over-mono {b = top} (10 ^ 9) (omega arith)))

    pub opening-order : opening_low f h ≤ opening_up f h
    unfolding opening_low opening_up
    opening-order = omega (
      arith,
      times-order low₁ up₁ sw
          (deficit-order f s h.air x has low₀ up₀ (temperature_pair-order f s x)),
    )

  -- ---- the pair

  up₀-le : up₀ ≤ 10 ^ 9 + 1
  up₀-le = omega (arith, temperature_pair-gap f s x, temperature_pair-le f s x)

  pub opening-gap : opening_up f h ≤ opening_low f h + (3 + width_in (is_steep f h.air))
  unfolding opening_low opening_up
  opening-gap =
      omega (
        arith,
        times-gap low₁ up₁ sw _ sw-le
            (deficit-gap f s x low₀ up₀ 1 (temperature_pair-gap f s x) up₀-le h.air),
      )

  pub opening_low-le : opening_low f h ≤ 10 ^ 9
  unfolding opening_low
  opening_low-le = omega (
    arith,
    times_down-le low₁ sw-le,
    times_down-le low₀ (deficit_low-le f s h.air x),
    temperature_pair-le f s x,
    s.f_min,
  )

  pub opening_up-le : opening_up f h ≤ 10 ^ 9 + 1
  unfolding opening_up
  opening_up-le = grind (arith, nat_tests, times_up-le, sw-le, deficit_up-le, up₀-le)
