-- The code's numbers: what it computes from the terms of f_VPD, f_SW and f_phen is the opening's
-- pair and the share's, and fits 64 bits.
use Rattle.std.proofs.Common.{◌≡◌, ℕ, ◌+◌, ◌-◌, ◌*◌, ◌/◌, ◌^◌, ◌<◌, ◌≤◌, max, ap, ◌∙◌, ap₂}
use Rattle.std.proofs.Common.{div-mul-le_self, arith}
use Rattle.trees.specs.declared.Figures.{Figures}
use Rattle.trees.specs.Sound.{Sound}
use Rattle.trees.specs.Temperature.{temperature_pair}
use Rattle.trees.specs.Deficit.{deficit_of, lower_deficit, upper_deficit, lower_factor}
use Rattle.trees.specs.Deficit.{upper_factor}
use Rattle.trees.specs.SoilWater.{soil_water_of}
use Rattle.trees.proofs.DeficitLaws.{deficit-limits}
use Rattle.trees.proofs.FactorLaws.{soil_water-limits}
use Rattle.trees.proofs.TermLaws.{deficit-small, soil_water-small}
use Rattle.dose.specs.steps.Flux.{Factor}
use Rattle.dose_spec.specs.declared.Stand.{Stand}
use Rattle.dose_spec.specs.Light.{light_low, light_up}
use Rattle.dose_spec.specs.Deficit.{air_deficits, deficit_low, deficit_up}
use Rattle.dose_spec.specs.Conductance.{above_of, phenology_in}
use Rattle.dose_spec.specs.Pair.{opening_low, opening_up, share_low, share_up}
use Rattle.dose_spec.proofs.PhenologyLaws.{phenology_in-limits, phenology_in-den}
use Rattle.exact.specs.declared.Fraction.{Fraction}
use Rattle.exact.specs.Frac.{Frac, Is, natural, ◌over◌, ◌≼◌}
use Rattle.exact.specs.Rounding.{round_up, round_down, times_up, times_down}
use Rattle.exact.proofs.RoundingLaws.{round_whole, round-rest, times_down-is, times_up-is}
use Rattle.frames.specs.declared.records.Air.{Air}
use Rattle.frames.specs.declared.records.Air.TheVariants.{Deficit, Pressure, Humidity}
use Rattle.frames.specs.declared.records.Hour.{Hour}
use Rattle.frames.specs.Layout.{soil_number}

-- ---- n/d, by one division
module _ (n d : ℕ) (pos : 0 < d) where
  pub over-down : round_down (n over d) ≡ n / d
  unfolding round_down
  over-down = let is : max 1 d ≡ d = omega arith in rw is

  times-is : round_down (n over d) * (n over d).den ≡ n / d * d
  times-is = ap₂ (λ q m. q * m) over-down (omega arith)

  pub over-whole : n ≤ n / d * d → round_up (n over d) ≡ n / d
  over-whole h = round_whole (n over d) (omega (arith, times-is, div-mul-le_self n d)) ∙ over-down

  pub over-rest : n / d * d < n → round_up (n over d) ≡ n / d + 1
  over-rest h = round-rest (n over d) (omega (arith, times-is)) ∙ ap (λ (q : ℕ). q + 1) over-down

-- ---- the factors

factor-is :
    {r : Fraction} {x : Frac} {most : ℕ} → Is r x → x ≼ natural 1 → x.den ≤ most → Factor most r
factor-is {r} {x} i below small = record {
  whole = omega (arith, i.den, x.positive);
  below = omega (arith, i.num, i.den, below.cross);
  small = omega (arith, i.den, small);
}

-- one Pa, or 5·10⁻⁶ Pa
deficits-den : (a : Air) (x : ℕ) → (air_deficits a x).den ≤ 2 * 10 ^ 8
deficits-den (Deficit vpd) x = omega arith
deficits-den (Pressure vpd p) x = omega arith
deficits-den (Humidity rh) x = omega arith

module _ (f : Figures) (s : Sound f) {r : Fraction} where
  deficit-factor :
      (vpd : Frac) → vpd.den ≤ 2 * 10 ^ 8 → Is r (deficit_of f vpd) → Factor (2 * 10 ^ 14) r
  deficit-factor vpd h i =
      factor-is i (deficit-limits f s vpd).below (omega (arith, deficit-small f s vpd))

  pub lower-factor :
      (a : Air) (x : ℕ) → Is r (lower_factor f (air_deficits a x)) → Factor (2 * 10 ^ 14) r
  lower-factor a x i =
      deficit-factor (upper_deficit (air_deficits a x)) (omega (arith, deficits-den a x)) i

  pub upper-factor :
      (a : Air) (x : ℕ) → Is r (upper_factor f (air_deficits a x)) → Factor (2 * 10 ^ 14) r
  upper-factor a x i =
      deficit-factor (lower_deficit (air_deficits a x)) (omega (arith, deficits-den a x)) i

  pub soil_water-factor : (reading : ℕ) → Is r (soil_water_of f reading) → Factor (2 * 10 ^ 9) r
  soil_water-factor reading i =
      factor-is i (soil_water-limits f s reading).below
      (omega (arith, (soil_water-small f s reading).den))

module _ (stand : Stand) (s : Sound stand.figures) (h : Hour) {r : Fraction} where
  pub phenology-factor :
      stand.age.warmth.rise < 65536 → stand.age.warmth.fall < 65536 → Is r (phenology_in stand h) →
      Factor (2 * 10 ^ 9) r
  phenology-factor rise fall i =
      factor-is i (phenology_in-limits stand s h).below (phenology_in-den stand s h rise fall)

-- ---- the pairs

module _ (n : ℕ) {r : Fraction} {x : Frac} (i : Is r x) where
  down_is : n * r.num / r.den ≡ times_down n x
  down_is = rw (times_down-is n x, i.num, i.den)

  up_is : (n * r.num + (r.den - 1)) / r.den ≡ times_up n x
  up_is = rw (times_up-is n x, i.num, i.den)

module _ (f : Figures) (h : Hour) {vpd sw : Fraction} where
  module _ (w : Is sw (soil_water_of f (soil_number h.soil))) where
    pub opening_low-is :
        {t : ℕ} → Is vpd (lower_factor f (air_deficits h.air (above_of h.temperature))) →
        t ≡ (temperature_pair f (above_of h.temperature)).lower →
        max (f.f_min * 10 ^ 7) (t * vpd.num / vpd.den * sw.num / sw.den) ≡ opening_low f h
    unfolding opening_low deficit_low
    opening_low-is {t} v e = rw (down_is t v, down_is _ w, e)

    pub opening_up-is :
        {t : ℕ} → Is vpd (upper_factor f (air_deficits h.air (above_of h.temperature))) →
        t ≡ (temperature_pair f (above_of h.temperature)).upper →
        max (f.f_min * 10 ^ 7)
        (((t * vpd.num + (vpd.den - 1)) / vpd.den * sw.num + (sw.den - 1)) / sw.den)
        ≡ opening_up f h
    unfolding opening_up deficit_up
    opening_up-is {t} v e = rw (up_is t v, up_is _ w, e)

module _ (stand : Stand) (h : Hour) {phen : Fraction} {light opening : ℕ} where
  module _ (p : Is phen (phenology_in stand h)) where
    pub share_low-is :
        light ≡ light_low stand.figures h.ppfd → opening ≡ opening_low stand.figures h →
        light * phen.num / phen.den * opening / 10 ^ 11 ≡ share_low stand h
    unfolding share_low round_down
    share_low-is l o = rw (down_is light p, l, o)

    pub share_up-is :
        light ≡ light_up stand.figures h.ppfd → opening ≡ opening_up stand.figures h →
        ((light * phen.num + (phen.den - 1)) / phen.den * opening + (10 ^ 11 - 1)) / 10 ^ 11
        ≡ share_up stand h
    unfolding share_up round_up
    share_up-is l o = rw (up_is light p, l, o)
