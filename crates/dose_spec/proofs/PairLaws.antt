-- The hour's pair encloses its dose and is at most as far apart as its gap says, where the bounds
-- of the share enclose the share and are within its budget.
-- It never falls with a higher reading of ozone.
use Rattle.std.proofs.lemmas.Bool.Decides.{nat_tests}
use Prim.Native.Nat.{ℕ, ◌+◌, ◌*◌, ◌^◌, ◌≤◌}
use mathlib.Core.Path.{◌≡◌, refl}
use mathlib.Core.Bool.{Bool}
use native.Mathlib.Nat.{le_refl}
use native.Mathlib.Omega.{arith}
use Rattle.exact.specs.Frac.{natural, ◌over◌, ◌≼◌}
use Rattle.exact.proofs.FracLaws.{≼_refl, ≼_trans, over-mono}
use Rattle.trees.specs.declared.Figures.{Figures}
use Rattle.frames.specs.declared.records.Air.{Air}
use Rattle.frames.specs.declared.records.Hour.{Hour}
use Rattle.frames.specs.Ozone.{with_ozone}
use Rattle.frames.proofs.RangeLaws.{HourIn}
use Rattle.dose_spec.specs.declared.Stand.{Stand}
use Rattle.dose_spec.specs.BoundaryLayer.{wind_read, root_up_at}
use Rattle.dose_spec.specs.Conductance.{phenology_in, opening_at, share_at}
use Rattle.dose_spec.specs.Dose.{flux_at, dose_at}
use Rattle.dose_spec.specs.Pair.{concentration_low, concentration_up, opening_low, opening_up}
use Rattle.dose_spec.specs.Pair.{share_low, share_up, root_low, quotient, lower_of, upper_of}
use Rattle.dose_spec.specs.Pair.{most_concentration}
use Rattle.dose_spec.specs.Enclosure.{most_dose, gap_dose, OzoneGrows}
use Rattle.dose_spec.proofs.ShareLaws.{share_at-is}
use Rattle.dose_spec.proofs.BudgetLaws.{is_steep, near_in, step_in, gap_dose-is}
use Rattle.dose_spec.proofs.BoundaryLaws.{root_up_at-anti, root_low-le, root_up_at-le}
use Rattle.dose_spec.proofs.ConcentrationLaws.{
  top_of,
  concentration-low,
  concentration-high,
  concentration-order,
  concentration-gap,
  concentration_up-most,
  concentration_up-top,
  concentration-mono,
  concentration_low-mono,
  concentration_up-mono,
}
use Rattle.dose_spec.proofs.FluxLaws.{flux_at-is, dose_at-is, dose-mono}
use Rattle.dose_spec.proofs.QuotientLaws.{quotient-few, quotient-under, quotient-over}
use Rattle.dose_spec.proofs.QuotientLaws.{lower-le-upper}
use Rattle.dose_spec.proofs.QuotientSizes.{quotient-mono, quotient-most, quotient-near}

module _ (stand : Stand) (h : Hour) where
  abbrev f : Figures
  f = stand.figures

  -- from 7 decimals of the root on
  root-under :
      (k : ℕ) → 7 ≤ k →
      root_up_at k f.leaf (wind_read h.wind) over 10 ^ k ≼ (root_low f.leaf h.wind + 1) over 10 ^ 7
  root-under k from7 =
      ≼_trans (root_up_at-anti f.leaf (wind_read h.wind) (omega arith) from7)
      (root_up_at-le f.leaf h.wind)

  pub lower_of-under :
      (k : ℕ) → 7 ≤ k → share_low stand h over 10 ^ 7 ≼ share_at k stand h →
      natural (lower_of stand h) ≼ dose_at k stand h
  unfolding lower_of
  lower_of-under k from7 share = grind (
    arith,
    nat_tests,
    dose_at-is,
    quotient-under,
    ≼_trans,
    over-mono,
    concentration-low,
    root-under,
  )

  pub upper_of-over :
      (k : ℕ) → share_at k stand h ≼ share_up stand h over 10 ^ 7 →
      dose_at k stand h ≼ natural (upper_of stand h)
  unfolding upper_of
  upper_of-over k share = grind (
    arith,
    nat_tests,
    dose_at-is,
    quotient-over,
    ≼_trans,
    concentration-high,
    over-mono,
    root_low-le,
  )

  pub lower_of-le : share_low stand h ≤ share_up stand h → lower_of stand h ≤ upper_of stand h
  unfolding lower_of upper_of
  lower_of-le order =
      lower-le-upper f.g_max _ _ _ (concentration-order h) order (omega arith) (omega arith)

  module _ (g_max : (1 ≤ f.g_max) × (f.g_max ≤ 500)) (range : HourIn h)
      (share-le : share_up stand h ≤ 10000003) where
    quotient-in :
        (top each : ℕ) → top * 10000003 ≤ each * 2050000000000 → concentration_up h ≤ top →
        upper_of stand h ≤ each * f.g_max + 1
    unfolding upper_of
    quotient-in top each room few = grind (arith, nat_tests, quotient-most)

    upper_of-by : (a : Air) → concentration_up h ≤ top_of a → upper_of stand h ≤ most_dose f.g_max a
    upper_of-by a few =
        grind (arith, quotient-in 374040000 1825, quotient-in most_concentration 2603, g_max)

    pub upper_of-le : upper_of stand h ≤ most_dose f.g_max h.air
    upper_of-le = upper_of-by h.air (concentration_up-most h range h.air refl)

    abbrev steep : Bool
    steep = is_steep f h.air

    module _ (order : share_low stand h ≤ share_up stand h)
        (near : share_up stand h ≤ share_low stand h + near_in steep) where
      quotients-near :
          quotient f.g_max (concentration_up h) (share_up stand h) (root_low f.leaf h.wind) 0
          ≤ quotient f.g_max (concentration_low h) (share_low stand h)
          (root_low f.leaf h.wind + 1) 1
          + step_in steep
      quotients-near = grind (
        arith,
        quotient-near steep f.g_max,
        concentration_up-top,
        concentration-gap,
        concentration-order,
        le_refl,
      )

      pub upper_of-gap : upper_of stand h ≤ lower_of stand h + gap_dose f h.air
      unfolding lower_of upper_of
      upper_of-gap = rw (gap_dose-is f h.air) (omega (arith, quotients-near))

      -- 3600·F is at most m at some k, so the lower quotient is, and the upper one not much more
      pub pair-none :
          (m k : ℕ) → m + gap_dose f h.air ≤ 3600 * f.y → 7 ≤ k →
          share_low stand h over 10 ^ 7 ≼ share_at k stand h → flux_at k stand h ≼ m over 3600 →
          (lower_of stand h ≡ 0) × (upper_of stand h ≡ 0)
      unfolding lower_of upper_of
      pair-none m k few-enough from7 share few =
          let low =
          quotient-few f.g_max (concentration_low h) (share_low stand h)
          (root_low f.leaf h.wind + 1) _ _ _ (concentration-low h) share (root-under k from7) m
          (rw (flux_at-is k stand h) at few) in
          (omega (arith, gap_dose-is f h.air), omega (arith, quotients-near, gap_dose-is f h.air))

-- ---- with another reading of ozone, and with a higher one

-- the share is the same
module _ (stand : Stand) (n : ℕ) (h : Hour) where
  pub share_low-same : share_low stand (with_ozone n h) ≡ share_low stand h
  unfolding share_low opening_low phenology_in
  share_low-same = refl

  pub share_up-same : share_up stand (with_ozone n h) ≡ share_up stand h
  unfolding share_up opening_up phenology_in
  share_up-same = refl

  share_at-same : (k : ℕ) → share_at k stand (with_ozone n h) ≡ share_at k stand h
  unfolding opening_at phenology_in
  share_at-same k = rw (share_at-is stand (with_ozone n h) k, share_at-is stand h k) refl

module _ (stand : Stand) (h : Hour) {m n : ℕ} (more : m ≤ n) where
  lower_of-mono : lower_of stand (with_ozone m h) ≤ lower_of stand (with_ozone n h)
  unfolding lower_of
  lower_of-mono = grind (arith, nat_tests, share_low-same, quotient-mono, concentration_low-mono)

  upper_of-mono : upper_of stand (with_ozone m h) ≤ upper_of stand (with_ozone n h)
  unfolding upper_of
  upper_of-mono = grind (arith, nat_tests, share_up-same, quotient-mono, concentration_up-mono)

  dose_at-more : (k : ℕ) → dose_at k stand (with_ozone m h) ≼ dose_at k stand (with_ozone n h)
  dose_at-more k =
      grind (arith, nat_tests, share_at-same, dose_at-is, dose-mono, concentration-mono, ≼_refl)

pub ozone-grows : (stand : Stand) (h : Hour) → OzoneGrows stand h
ozone-grows stand h = grind (arith, nat_tests, lower_of-mono, upper_of-mono, dose_at-more)
