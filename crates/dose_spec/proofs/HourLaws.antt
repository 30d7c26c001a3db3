-- The hour's two numbers enclose its dose, for any sound figures.
use Rattle.std.proofs.lemmas.Bool.Decides.{nat_tests}
use Prim.Native.Nat.{ℕ, ◌+◌, ◌*◌, ◌^◌, ◌≤◌}
use mathlib.Core.Path.{◌≡◌}
use native.Mathlib.Omega.{arith}
use Rattle.trees.specs.declared.Figures.{Figures}
use Rattle.trees.specs.Sound.{Sound}
use Rattle.dose_spec.specs.declared.Stand.{Stand}
use Rattle.dose_spec.specs.Light.{light_at}
use Rattle.dose_spec.specs.Deficit.{HasVpd}
use Rattle.dose_spec.specs.Conductance.{above_of, share_at}
use Rattle.dose_spec.specs.Dose.{flux_at, dose_at}
use Rattle.dose_spec.specs.Pair.{lower_of, upper_of, share_low, share_up}
use Rattle.dose_spec.specs.Enclosure.{gap_dose, HourEnclosed}
use Rattle.exact.specs.Frac.{natural, ◌over◌, ◌≼◌}
use Rattle.exact.proofs.FracLaws.{≼_refl}
use Rattle.frames.specs.declared.records.Hour.{Hour}
use Rattle.frames.specs.declared.records.Record.{Record}
use Rattle.frames.specs.Answers.{accepted}
use Rattle.frames.specs.Ranges.{checked}
use Rattle.frames.proofs.RangeLaws.{HourIn, checked-passed}
use Rattle.dose_spec.specs.HumidityPair.{entry_k}
use Rattle.dose_spec.proofs.BudgetLaws.{is_steep, near_in, gap_dose-le}
use Rattle.dose_spec.proofs.DeficitLaws.{above-highest, has-vpd}
use Rattle.dose_spec.proofs.LightLaws.{light_at-mono, light_terms, light-low, light-high, light-gap}
use Rattle.dose_spec.proofs.LightLaws.{light-order, light_up-le}
use Rattle.dose_spec.proofs.BoundaryLaws.{root_up_at-anti}
use Rattle.dose_spec.proofs.FluxLaws.{dose_at-is, dose-mono}
use Rattle.dose_spec.proofs.ShareLaws.{share_at-mono, share-low, share-high, share-order, share-gap}
use Rattle.dose_spec.proofs.ShareLaws.{share_up-le}
use Rattle.dose_spec.proofs.PairLaws.{lower_of-under, upper_of-over, lower_of-le, upper_of-le}
use Rattle.dose_spec.proofs.PairLaws.{upper_of-gap, pair-none}

-- a k from which on the lower number is not above the dose
abbrev hour_terms : ℕ
hour_terms = light_terms + entry_k

module _ (stand : Stand) (s : Sound stand.figures) (h : Hour) where
  abbrev f : Figures
  f = stand.figures

  light-mono : (k l : ℕ) → k ≤ l → light_at k f h.ppfd ≼ light_at l f h.ppfd
  light-mono k l j = light_at-mono f h.ppfd j

  dose_at-mono :
      HasVpd h.air (above_of h.temperature) → (k l : ℕ) → k ≤ l →
      dose_at k stand h ≼ dose_at l stand h
  dose_at-mono has k l j = grind (
    arith,
    nat_tests,
    dose_at-is,
    dose-mono,
    ≼_refl,
    share_at-mono,
    light-mono,
    root_up_at-anti,
  )

  module _ (passed : checked (Record.Hour h) ≡ accepted tt) where
    range : HourIn h
    range = checked-passed (Record.Hour h) passed

    has : HasVpd h.air (above_of h.temperature)
    has = has-vpd h.air (above-highest h.temperature range.temperature)

    steep : f.light_a ≤ 200
    steep = s.light_a.1

    share-under : share_low stand h over 10 ^ 7 ≼ share_at hour_terms stand h
    share-under = grind (
      arith,
      share-low stand s h has light-mono light_terms,
      light-low f h.ppfd steep range.ppfd,
    )

    lower-under : natural (lower_of stand h) ≼ dose_at hour_terms stand h
    lower-under = lower_of-under stand h hour_terms (omega arith) share-under

    upper-over : (k : ℕ) → dose_at k stand h ≼ natural (upper_of stand h)
    upper-over k =
        upper_of-over stand h k (share-high stand s h has (light-high f h.ppfd steep range.ppfd) k)

    pub shares-order : share_low stand h ≤ share_up stand h
    shares-order = share-order stand s h has (light-order f h.ppfd)

    pub shares-top : share_up stand h ≤ 10000003
    shares-top = omega (arith, share_up-le stand s h (light_up-le f h.ppfd))

    near : share_up stand h ≤ share_low stand h + near_in (is_steep f h.air)
    near = share-gap stand s h (light_up-le f h.ppfd) (light-gap f h.ppfd) (light-order f h.ppfd)

    no-dose :
        (m : ℕ) → m + gap_dose f h.air ≤ 3600 * f.y → ((k : ℕ) → flux_at k stand h ≼ m over 3600) →
        (lower_of stand h ≡ 0) × (upper_of stand h ≡ 0)
    no-dose m le few =
        pair-none stand h s.g_max range shares-top shares-order near m hour_terms le
        (omega arith) share-under (few hour_terms)

    pub hour-enclosed : HourEnclosed stand h
    hour-enclosed = grind (
      arith,
      nat_tests,
      lower-under,
      upper-over,
      lower_of-le,
      shares-order,
      upper_of-gap,
      range,
      shares-top,
      near,
      upper_of-le,
      dose_at-mono,
      has,
      no-dose,
      gap_dose-le,
    )
