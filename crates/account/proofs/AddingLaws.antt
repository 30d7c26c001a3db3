-- The pair of an hour by what `hour_dose` says, and the account with an hour added by whether it is
-- counted.
use Rattle.std.specs.Prelude.{Option, Some}
use Prim.Native.Nat.{ℕ}
use mathlib.Core.Path.{◌≡◌, refl, sym, ap, ◌∙◌}
use Rattle.std.proofs.Common.{ap₂}
use mathlib.Core.Bool.{Bool, true, false}
use native.Mathlib.Omega.{arith}
use Rattle.exact.specs.declared.Bounds.{Bounds}
use Rattle.frames.specs.declared.records.Hour.{Hour}
use Rattle.frames.specs.declared.records.Record.{Record}
use Rattle.frames.specs.Temperature.{temperature_out}
use Rattle.frames.specs.Answers.{accepted}
use Rattle.frames.specs.Ranges.{checked}
use Rattle.frames.proofs.RangeLaws.{checked-passed}
use Rattle.dose_spec.specs.declared.Stand.{Stand}
use Rattle.dose_spec.specs.Dose.{is_counted}
use Rattle.dose_spec.specs.Pair.{hour_pair}
use Rattle.dose_spec.specs.HourDose.{stand_of}
use Rattle.dose_spec.proofs.HourDoseLaws.{stand-passed}
use Rattle.dose.specs.steps.Given.{counted_pair}
use Rattle.account_spec.specs.declared.Season.{Season}
use Rattle.account_spec.specs.declared.HourKind.{HourKind}
use Rattle.account_spec.specs.declared.Sums.{Sums}
use Rattle.account_spec.specs.declared.Carried.{Carried}
use Rattle.account_spec.specs.declared.Account.{Account}
use Rattle.account_spec.specs.Account.{impossible}
use Rattle.account_spec.specs.HourKinds.{hour_kind}
use Rattle.account_spec.specs.Hours.{
  plus,
  stand_in,
  stand_at,
  carried_after,
  pair_of,
  counted_sums,
  hour_sums,
}
use Rattle.account_spec.specs.Rules.{with_hour}
use Rattle.account_spec.specs.steps.Account.{Dosable}
use Rattle.account_spec.proofs.HourLaws.{season-stand, dosable-stand}
use Rattle.account_spec.proofs.PossibleLaws.{most_hour-le, room-is}
use Rattle.account.specs.steps.Account.{HasStand, PairAfter, carried_by, added, Grown}

-- the sums of an account that row 13 lets pass have room for an hour
pub possible-grown : (a : Account) → impossible a ≡ false → Grown a.sums
possible-grown a possible =
    let room = room-is a possible in
    let most = most_hour-le a.season in
    record {
      hours = omega (arith, room.hours);
      counted = omega (arith, room.counted);
      missing = omega (arith, room.missing);
      lower = omega (arith, room.lower, most);
      upper = omega (arith, room.upper, most);
      least = omega (arith, room.least);
      most = omega (arith, room.most);
    }

-- ---- an hour that no row refuses

module _ (season : Season) (h : Hour) (d : Dosable season h) where
  pub has-stand : HasStand season
  has-stand =
      let p = stand-passed _ _ _ _ _ h d.0 d.1 in
      record { figures = d.0.figures; named = p.named; few = p.within }

  hour-passes : checked (Record.Hour h) ≡ accepted tt
  hour-passes = (stand-passed _ _ _ _ _ h d.0 d.1).checks

  pub hour-temperate : temperature_out h.temperature ≡ false
  hour-temperate = (checked-passed (Record.Hour h) hour-passes).temperature

  carried-is : (c : Carried) → carried_by season.warmth c h ≡ carried_after (stand_in season) c h
  carried-is c =
      let stand = dosable-stand season h d in
      rw (stand, (season-stand season d.0 stand).warmth) refl

  module _ (c : Carried) where
    -- the season's stand on the day
    abbrev stand : Stand
    stand =
        stand_of d.0.figures (record { warmth = season.warmth; sum = c.sum }) season.header.first
        season.header.last season.ceiling

    day-stand : stand_at d.0 c ≡ stand
    day-stand =
        let p = stand-passed _ _ _ _ _ h d.0 d.1 in ap (λ (s : Stand). stand_at s c) p.is

    sums-by :
        (t : Bool) → is_counted h ≡ t →
        added (counted_pair stand h) season.ceiling h ≡ hour_sums (stand_in season) c h
    unfolding hour_sums pair_of
    sums-by true e =
        let p = stand-passed _ _ _ _ _ h d.0 d.1 in
        let ceiling = ap (λ (s : Stand). s.ceiling) p.is in
        rw (dosable-stand season h d, e)
        (ap₂ (λ (s : Stand) (n : ℕ). counted_sums (hour_pair s h) n h)
        (sym day-stand) (sym ceiling))
    sums-by false e = rw e refl

    sums_is :
        (pair : Option Bounds) → PairAfter season c.sum h pair →
        added pair season.ceiling h ≡ hour_sums (stand_in season) c h
    sums_is pair by =
        let p = stand-passed _ _ _ _ _ h d.0 d.1 in
        rw (by d.0.figures p.named) (sums-by (is_counted h) refl)

module _ (a : Account) (h : Hour) (d : Dosable a.season h) where
  pub hour-is :
      (kind : HourKind) (sums : Sums) (carried : Carried) (pair : Option Bounds) →
      kind ≡ hour_kind h.air → PairAfter a.season a.carried.sum h pair →
      sums ≡ plus a.sums (added pair a.season.ceiling h) →
      carried ≡ carried_by a.season.warmth a.carried h →
      record {
        phase = a.phase;
        season = a.season;
        kind = Some kind;
        sums = sums;
        carried = carried;
      }
      ≡ with_hour a h
  hour-is kind sums carried pair k p s c =
      rw (
        k,
        s,
        c,
        sums_is a.season h d a.carried pair p,
        carried-is a.season h d a.carried,
      )
      refl
