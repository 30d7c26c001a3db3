-- The hour's pair encloses the dose of each of its fillings, for any sound figures: its ozone read
-- as one number or another.
use Prim.Native.Nat.{ℕ, ◌+◌, ◌≤◌}
use mathlib.Core.Path.{◌≡◌, sym, ap₂, subst}
use mathlib.Core.Bool.{false}
use native.Mathlib.Nat.{le_trans}
use native.Mathlib.Omega.{arith}
use Rattle.trees.specs.Sound.{Sound}
use Rattle.dose_spec.specs.declared.Stand.{Stand}
use Rattle.dose_spec.specs.Dose.{concentration, dose_at, NotAbove, NotBelow}
use Rattle.dose_spec.specs.Pair.{lower_of, upper_of, hour_pair}
use Rattle.dose_spec.specs.Enclosure.{most_dose, gap_dose, HourEnclosed, OzoneGrows, PairEnclosed}
use Rattle.exact.specs.declared.Bounds.{Bounds}
use Rattle.exact.specs.Frac.{natural, ◌≼◌}
use Rattle.exact.proofs.FracLaws.{≼_trans}
use Rattle.frames.specs.declared.records.Hour.{Hour}
use Rattle.frames.specs.declared.records.Record.{Record}
use Rattle.frames.specs.Answers.{accepted}
use Rattle.frames.specs.Ozone.{is_missing, tenths_or, with_ozone, read_as, Fills}
use Rattle.frames.specs.Ranges.{checked}
use Rattle.frames.proofs.OzoneLaws.{tenths_or-mono, missing-is, read_is, read-passed, Within}
use Rattle.frames.proofs.OzoneLaws.{filling-within, filling-passed}
use Rattle.dose_spec.proofs.FluxLaws.{dose_at-is, dose-none}
use Rattle.dose_spec.proofs.PairLaws.{ozone-grows}
use Rattle.dose_spec.proofs.HourLaws.{hour-enclosed}

module _ (stand : Stand) (s : Sound stand.figures) (h : Hour)
    (passed : checked (Record.Hour h) ≡ accepted tt) where
  grown : OzoneGrows stand h
  grown = ozone-grows stand h

  module _ (m : ℕ) (small : m ≤ 5000) where
    read-enclosed : HourEnclosed stand (read_as m h)
    read-enclosed = hour-enclosed stand s (read_as m h) (read-passed m h small passed)

    read_under :
        (n : ℕ) → tenths_or m h.ozone ≤ n →
        NotAbove (lower_of stand (read_as m h)) (λ k. dose_at k stand (with_ozone n h))
    read_under n more =
        let low = read-enclosed.low in
        record { at = low.at; under = ≼_trans low.under (grown.dose _ n more low.at) }

    read-over :
        (n : ℕ) → n ≤ tenths_or m h.ozone →
        NotBelow (upper_of stand (read_as m h)) (λ k. dose_at k stand (with_ozone n h))
    read-over n less =
        record { every = λ k. ≼_trans (grown.dose n _ less k) (read-enclosed.high.every k) }

    read-most : upper_of stand (read_as m h) ≤ most_dose stand.figures.g_max h.air
    read-most = read-enclosed.most

  read-order :
      (m n : ℕ) → m ≤ n → n ≤ 5000 → lower_of stand (read_as m h) ≤ upper_of stand (read_as n h)
  read-order m n more small =
      le_trans (grown.lower _ _ (tenths_or-mono h.ozone more)) (read-enclosed n small).order

  -- without ozone there is no dose
  dose_at-none : (k : ℕ) → dose_at k stand (with_ozone 0 h) ≼ natural 0
  unfolding concentration
  dose_at-none k =
      rw (dose_at-is k stand (with_ozone 0 h))
      (dose-none stand.figures.g_max
      (concentration (with_ozone 0 h)) _ _ stand.figures.y (omega arith))

  read_none : (m : ℕ) → tenths_or m h.ozone ≡ 0 → m ≤ 5000 → lower_of stand (read_as m h) ≡ 0
  read_none m none small =
      let low = read_under m small 0 (omega arith) in
      let least = ≼_trans low.under (dose_at-none low.at) in
      omega (arith, least.cross)

  module _ (few : stand.ceiling ≤ 5000) where
    fill : (f : Hour) → Fills stand.ceiling h f → Within stand.ceiling h f
    fill f = filling-within stand.ceiling h f

    low-filled :
        (f : Hour) → Fills stand.ceiling h f →
        NotAbove (hour_pair stand h).lower (λ k. dose_at k stand f)
    low-filled f fills =
        let w = fill f fills in
        rw w.is (read_under _ (omega arith) w.ozone (omega (arith, w.above)))

    high-filled :
        (f : Hour) → Fills stand.ceiling h f →
        NotBelow (hour_pair stand h).upper (λ k. dose_at k stand f)
    high-filled f fills =
        let w = fill f fills in
        rw w.is (read-over _ (omega (arith, few)) w.ozone (omega (arith, w.below)))

    pair_is :
        is_missing h.ozone ≡ false →
        hour_pair stand h ≡ record { lower = lower_of stand h; upper = upper_of stand h }
    pair_is given =
        ap₂ (λ a b. record { lower = lower_of stand a; upper = upper_of stand b })
        (read_is _ h given) (read_is _ h given)

    pair-gap :
        is_missing h.ozone ≡ false →
        (hour_pair stand h).upper ≤ (hour_pair stand h).lower + gap_dose stand.figures h.air
    pair-gap given =
        subst (λ (p : Bounds). p.upper ≤ p.lower + gap_dose stand.figures h.air)
        (sym (pair_is given)) (hour-enclosed stand s h passed).gap

    pub pair-enclosed : PairEnclosed stand h
    pair-enclosed = record {
      low = low-filled;
      high = high-filled;
      order = read-order _ _ (omega arith) (omega (arith, few));
      gap = pair-gap;
      most = read-most _ (omega (arith, few));
      grows = λ f fills.
          (hour-enclosed stand s f (filling-passed stand.ceiling h f few fills passed)).grows;
      read = pair_is;
      none = λ missing. read_none _ (omega (arith, missing-is 0 h.ozone missing)) (omega arith);
    }
