-- The sums of filled hours: the lower figures do not fall and the upper ones do not rise; filled
-- with 0 the lower ones stay, filled with the ceiling the upper ones.
use Prim.Native.Nat.{ℕ, ◌≤◌}
use mathlib.Core.Path.{◌≡◌, refl, sym, subst}
use mathlib.Core.List.{List}
use native.Mathlib.Omega.{arith}
use Rattle.std.specs.Prelude.{codes}
use Rattle.std.proofs.lemmas.Bool.Decides.{nat_tests}
use Rattle.frames.specs.declared.records.Hour.{Hour}
use Rattle.frames.specs.Answers.{Outcome, accepted}
use Rattle.dose_spec.specs.declared.Stand.{Stand}
use Rattle.dose_spec.proofs.EnclosureLaws.{enclosure}
use Rattle.account_spec.specs.declared.Phase.{Phase}
use Rattle.account_spec.specs.declared.Season.{Season}
use Rattle.account_spec.specs.declared.Sums.{Sums}
use Rattle.account_spec.specs.declared.Carried.{Carried}
use Rattle.account_spec.specs.Hours.{no_sums, plus, stand_in, stand_at, carried_after, pair_of}
use Rattle.account_spec.specs.Hours.{hour_sums, sums_of}
use Rattle.account_spec.specs.Enclosed.{HasDose, AllDosed}
use Rattle.account_spec.specs.Reading.{word_of, verdict_of}
use Rattle.account_spec.proofs.SumsLaws.{carried-ozone}
use Rattle.account_spec.proofs.HourLaws.{season-stand}
use Rattle.account_spec.proofs.BesideLaws.{FilledHour, FilledHours}

-- sums of hours, and of these filled with a number from low to high
pub record Narrowed (low high ceiling : ℕ) (s t : Sums) : Type 0 where
  pub hours : t.hours ≡ s.hours
  pub counted : t.counted ≡ s.counted
  pub lower : s.lower ≤ t.lower
  pub upper : t.upper ≤ s.upper
  pub least : s.least ≤ t.least
  pub most : t.most ≤ s.most
  pub zero : high ≡ 0 → (t.lower ≡ s.lower) × (t.least ≡ s.least)
  pub full : ceiling ≡ low → (t.upper ≡ s.upper) × (t.most ≡ s.most)

module _ {low high ceiling : ℕ} where
  same-narrowed : (s : Sums) → Narrowed low high ceiling s s
  same-narrowed s = grind arith

  plus-narrowed :
      {s t x y : Sums} → Narrowed low high ceiling s t → Narrowed low high ceiling x y →
      Narrowed low high ceiling (plus s x) (plus t y)
  plus-narrowed a b = grind arith

-- ---- one hour

module _ {low high ceiling : ℕ} (within : high ≤ ceiling) where
  hour-narrowed :
      (stand : Stand) → stand.ceiling ≡ ceiling → (c : Carried) {h f : Hour} →
      FilledHour low high h f →
      Narrowed low high ceiling (hour_sums (accepted stand) c h) (hour_sums (accepted stand) c f)
  unfolding hour_sums pair_of
  hour-narrowed stand e c FilledHour.same = same-narrowed _
  hour-narrowed stand e c {h = h} (FilledHour.filled missing n above below) =
      let grows = enclosure.ozone (stand_at stand c) h in
      grind (arith, grows.lower 0 n, grows.upper n stand.ceiling)

  -- what is carried does not go by ozone
  carried-filled :
      (stand : Outcome Stand) (c : Carried) {h f : Hour} → FilledHour low high h f →
      carried_after stand c f ≡ carried_after stand c h
  carried-filled stand c FilledHour.same = refl
  carried-filled stand c {h = h} (FilledHour.filled missing n above below) =
      carried-ozone stand c n h

  -- ---- hours in a row

  has-narrowed :
      (season : Season) → season.ceiling ≡ ceiling → (c : Carried) {h f : Hour} → HasDose season h →
      FilledHour low high h f →
      Narrowed low high ceiling (hour_sums (stand_in season) c h) (hour_sums (stand_in season) c f)
  has-narrowed season e c {h} {f} has one =
      subst (λ (s : Outcome Stand). Narrowed low high ceiling (hour_sums s c h) (hour_sums s c f))
      (sym has.1)
      (hour-narrowed has.0 (omega (arith, (season-stand season has.0 has.1).ceiling)) c one)

  pub hours-narrowed :
      (season : Season) → season.ceiling ≡ ceiling → (c : Carried) {hs fs : List Hour} →
      AllDosed season hs → FilledHours low high hs fs →
      Narrowed low high ceiling (sums_of (stand_in season) c hs) (sums_of (stand_in season) c fs)
  unfolding sums_of
  hours-narrowed season e c all FilledHours.none = same-narrowed no_sums
  hours-narrowed season e c all (FilledHours.hours {h = h} one rest) =
      let stand = stand_in season in
      rw (carried-filled stand c one)
      (plus-narrowed (has-narrowed season e c all.0 one)
      (hours-narrowed season e (carried_after stand c h) all.1 rest))

-- ---- the verdict

module _ (phase : Phase) (season : Season) (s t : Sums) where
  pub exceeded-kept :
      s.lower ≤ t.lower → word_of (verdict_of phase season s) ≡ codes "exceeded" →
      word_of (verdict_of phase season t) ≡ codes "exceeded"
  unfolding verdict_of
  exceeded-kept grows says = grind (arith, nat_tests)

  pub below-kept :
      t.lower ≤ t.upper → t.upper ≤ s.upper → word_of (verdict_of phase season s) ≡ codes "below" →
      word_of (verdict_of phase season t) ≡ codes "below"
  unfolding verdict_of
  below-kept order falls says = grind (arith, nat_tests)
