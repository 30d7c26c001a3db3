-- AOT40's two numbers over hours in a row: a missing ozone is read as 0 for the lower one, as the
-- ceiling for the upper one; what they are at most.
use Rattle.std.specs.Prelude.{Option}
use Prim.Native.Nat.{ℕ, ◌+◌, ◌-◌, ◌*◌, ◌≤◌}
use mathlib.Core.Path.{◌≡◌, refl}
use mathlib.Core.Bool.{cond}
use mathlib.Core.List.{List, [], ◌∷◌}
use native.Mathlib.Omega.{arith}
use Rattle.frames.specs.declared.records.Hour.{Hour}
use Rattle.frames.specs.declared.records.Record.{Record}
use Rattle.frames.specs.Answers.{Outcome, accepted}
use Rattle.frames.specs.Ozone.{is_missing, tenths_or, read_as, all_read_as}
use Rattle.frames.specs.Ranges.{checked}
use Rattle.frames.proofs.OzoneLaws.{tenths_or-mono, read-passed}
use Rattle.frames.proofs.RangeLaws.{checked-passed}
use Rattle.dose_spec.specs.declared.Stand.{Stand}
use Rattle.dose_spec.specs.Dose.{is_counted, excess}
use Rattle.account_spec.specs.declared.Season.{Season}
use Rattle.account_spec.specs.declared.Sums.{Sums}
use Rattle.account_spec.specs.Limits.{most_aot40}
use Rattle.account_spec.specs.declared.Carried.{Carried}
use Rattle.account_spec.specs.Hours.{ceiling_in, carried_after, hour_sums, sums_of}
use Rattle.account_spec.specs.Enclosed.{AllChecked}
use Rattle.account_spec.specs.Book.{counted_of, excess_over}

-- ---- what they are

-- AOT40 of an hour and the next ones
pub excess-cons :
    (h : Hour) (hs : List Hour) →
    excess_over (counted_of (h ∷ hs))
    ≡ cond (is_counted h) (excess h) 0 + excess_over (counted_of hs)
unfolding counted_of excess_over
excess-cons h hs = grind arith

module _ (stand : Outcome Stand) where
  pub least-is :
      (c : Carried) (hs : List Hour) →
      (sums_of stand c hs).least ≡ excess_over (counted_of (all_read_as 0 hs))
  unfolding sums_of counted_of excess_over hour_sums
  least-is c [] = refl
  least-is c (h ∷ hs) = grind (arith, least-is (carried_after stand c h) hs)

  pub most-is :
      (c : Carried) (hs : List Hour) →
      (sums_of stand c hs).most ≡ excess_over (counted_of (all_read_as (ceiling_in stand) hs))
  unfolding sums_of counted_of excess_over hour_sums
  most-is c [] = refl
  most-is c (h ∷ hs) = grind (arith, most-is (carried_after stand c h) hs)

-- ---- what they are at most

-- by the counted hours, and those of them without ozone
pub record Aot40In (season : Season) (s : Sums) : Type 0 where
  pub order : s.least ≤ s.most
  pub most : s.most ≤ most_aot40 season * s.counted
  pub width : s.most ≤ s.least + most_aot40 season * s.missing

pub excess-le :
    (season : Season) (m : ℕ) (h : Hour) → m ≤ 5000 → checked (Record.Hour h) ≡ accepted tt →
    excess (read_as m h) ≤ most_aot40 season
excess-le season m h few passed =
    omega (arith, (checked-passed (Record.Hour (read_as m h)) (read-passed m h few passed)).ozone)

width-le :
    (m : ℕ) (o : Option ℕ) → m ≤ 5000 →
    tenths_or m o - 400 ≤ tenths_or 0 o - 400 + 4600 * cond (is_missing o) 1 0
width-le m o few = grind arith

module _ (season : Season) (stand : Outcome Stand) (few : ceiling_in stand ≤ 5000) where
  hour-aot40 :
      (c : Carried) (h : Hour) → checked (Record.Hour h) ≡ accepted tt →
      Aot40In season (hour_sums stand c h)
  unfolding hour_sums
  hour-aot40 c h passed =
      let nothing : 0 ≤ ceiling_in stand = omega arith in
      let order = tenths_or-mono h.ozone nothing in
      let most = excess-le season (ceiling_in stand) h few passed in
      let width = width-le (ceiling_in stand) h.ozone few in
      record { order = grind arith; most = grind arith; width = grind arith }

  pub aot40-in :
      (c : Carried) (hs : List Hour) → AllChecked hs → Aot40In season (sums_of stand c hs)
  unfolding sums_of
  aot40-in c [] all = grind arith
  aot40-in c (h ∷ hs) all =
      grind (arith, hour-aot40 c h all.0, aot40-in (carried_after stand c h) hs all.1)
