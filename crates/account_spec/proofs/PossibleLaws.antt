-- An account that row 13 lets pass: what each of the row's conditions says of it, and that it has
-- room for another hour.
use Prim.Native.Nat.{◌+◌, ◌-◌, ◌*◌, ◌≤◌}
use mathlib.Core.Path.{◌≡◌, ap}
use mathlib.Core.Bool.{Bool, true, false, not, ◌&&◌, ◌||◌}
use native.Mathlib.Nat.{mul-le-mul_left}
use native.Mathlib.Omega.{arith}
use lib.Dec.{ltb}
use Rattle.std.proofs.lemmas.Bool.Decides.{nat_tests}
use borrow.Author.Tests.{ltb-false, le-ltb}
use Rattle.frames.specs.declared.records.Record.{Record}
use Rattle.frames.specs.Answers.{Outcome, accepted}
use Rattle.frames.specs.Ranges.{checked, ceiling_out, warmth_broken}
use Rattle.frames.specs.Period.{period_hours, all_given}
use Rattle.frames.proofs.RangeLaws.{period-le}
use Rattle.account_spec.specs.declared.Season.{Season}
use Rattle.account_spec.specs.declared.Sums.{Sums}
use Rattle.account_spec.specs.declared.Account.{Account}
use Rattle.account_spec.specs.Limits.{most_hour, gap_each, most_aot40}
use Rattle.account_spec.specs.HourKinds.{kind_out}
use Rattle.account_spec.specs.Account.{is_fresh, is_closed, is_begun, is_refused, parameters_broken}
use Rattle.account_spec.specs.Account.{is_broken, unmeasured_in, warmth_alone, carried_out}
use Rattle.account_spec.specs.Account.{is_blank, any_of, sums_out, impossible}
use Rattle.account_spec.specs.steps.Account.{Room}
use Rattle.account_spec.proofs.CarriedLaws.{sum-le, total-in}

-- sums that hours can give
pub record SumsIn (season : Season) (s : Sums) : Type 0 where
  pub counted : s.counted ≤ s.hours
  pub missing : s.missing ≤ s.counted
  pub bounded : season.ceiling ≡ 0 → s.missing ≡ 0
  pub order : s.lower ≤ s.upper
  pub most : s.upper ≤ most_hour season * s.counted
  pub gap :
      s.upper ≤ s.lower + (gap_each season * (s.counted - s.missing) + most_hour season * s.missing)
  pub aot40-order : s.least ≤ s.most
  pub aot40-most : s.most ≤ most_aot40 season * s.counted
  pub aot40-width : s.most ≤ s.least + most_aot40 season * s.missing

pub record PossibleFacts (a : Account) : Type 0 where
  pub header : is_begun a.phase ≡ true → checked (Record.Header a.season.header) ≡ accepted tt
  pub ceiling : is_begun a.phase ≡ true → ceiling_out a.season.ceiling ≡ false
  pub parameters : is_begun a.phase ≡ true → parameters_broken a.season ≡ false
  pub warmth : is_begun a.phase ≡ true → warmth_broken a.season.warmth ≡ false
  pub measured : unmeasured_in a.season a.kind a.sums.hours ≡ false
  pub alone : warmth_alone a.season ≡ false
  pub carried : carried_out a.season a.sums.hours a.carried ≡ false
  pub hours : a.sums.hours ≤ period_hours a.season.header
  pub sums : SumsIn a.season a.sums
  pub kind : kind_out a.kind a.sums.hours ≡ false
  pub blank : is_fresh a.phase ≡ true → is_blank a ≡ true
  pub given : is_closed a.phase ≡ true → all_given a.season.header a.sums.hours ≡ true

-- ---- tests

accepted-is : (o : Outcome Unit) → is_refused o ≡ false → o ≡ accepted tt
accepted-is o e = grind arith

all-false : (b p s k u w c x y : Bool) → (b || p || s || k || u || w || c || x || y) ≡ false
    → (b ≡ false) × (p ≡ false) × (s ≡ false) × (k ≡ false) × (u ≡ false) × (w ≡ false)
    × (c ≡ false) × (x ≡ false) × (y ≡ false)
all-false b p s k u w c x y e = grind arith

then-false :
    (t r c p w : Bool) → (t && (r || c || p || w)) ≡ false → t ≡ true →
    (r ≡ false) × (c ≡ false) × (p ≡ false) × (w ≡ false)
then-false t r c p w e h = grind arith

then-true : (a b : Bool) → (a && not b) ≡ false → a ≡ true → b ≡ true
then-true a b e h = grind arith

false-and : (a b : Bool) → (a ≡ true → b ≡ false) → (a && b) ≡ false
false-and a b f = grind arith

-- ---- row 13, one condition after the other

module _ (season : Season) (s : Sums) where
  sums-in : any_of (sums_out season s) ≡ false → SumsIn season s
  sums-in e = record {
    counted = grind (arith, nat_tests);
    missing = grind (arith, nat_tests);
    bounded = λ none. grind (arith, nat_tests);
    order = grind (arith, nat_tests);
    most = grind (arith, nat_tests);
    gap = grind (arith, nat_tests);
    aot40-order = grind (arith, nat_tests);
    aot40-most = grind (arith, nat_tests);
    aot40-width = grind (arith, nat_tests);
  }

  in-sums : SumsIn season s → any_of (sums_out season s) ≡ false
  in-sums p = grind (arith, nat_tests)

module _ (a : Account) where
  pub possible-is : impossible a ≡ false → PossibleFacts a
  unfolding impossible
  possible-is e =
      let season = a.season in
      let rows = all-false _ (ltb (period_hours season.header) a.sums.hours) _ _ _ _ _ _ _ e in
      let sound =
      then-false (is_begun a.phase) (is_refused (checked (Record.Header season.header)))
      (ceiling_out season.ceiling) (parameters_broken season) (warmth_broken season.warmth) rows.0
      in
      record {
        header = λ h. accepted-is (checked (Record.Header season.header)) (sound h).0;
        ceiling = λ h. (sound h).1;
        parameters = λ h. (sound h).2;
        warmth = λ h. (sound h).3;
        measured = rows.4;
        alone = rows.5;
        carried = rows.6;
        hours = ltb-false _ _ rows.1;
        sums = sums-in season a.sums rows.2;
        kind = rows.3;
        blank = then-true (is_fresh a.phase) (is_blank a) rows.7;
        given = then-true (is_closed a.phase) (all_given season.header a.sums.hours) rows.8;
      }

  pub possible-false : PossibleFacts a → impossible a ≡ false
  unfolding impossible
  possible-false p =
      simp (
        false-and (is_begun a.phase) (is_broken a.season)
            (λ h. simp (p.header h, p.ceiling h, p.parameters h, p.warmth h)),
        le-ltb (period_hours a.season.header) a.sums.hours p.hours,
        in-sums a.season a.sums p.sums,
        p.kind,
        p.measured,
        p.alone,
        p.carried,
        false-and (is_fresh a.phase) (not (is_blank a)) (λ h. ap not (p.blank h)),
        false-and (is_closed a.phase) (not (all_given a.season.header a.sums.hours))
            (λ h. ap not (p.given h)),
      )

-- ---- the most that an hour can bring, whatever the tree

pub most_hour-le : (season : Season) → most_hour season ≤ 1500000
most_hour-le season = grind arith

-- ---- room: a header that rows 5 to 8 let pass has a period of a year at most

blank-last : (a : Account) → is_blank a ≡ true → a.season.header.last ≡ 0
blank-last a e = grind (arith, nat_tests)

hours-le : (a : Account) → PossibleFacts a → period_hours a.season.header ≤ 8784
hours-le a p = grind (arith, blank-last a, period-le a.season.header, p.blank, p.header)

pub room-is : (a : Account) → impossible a ≡ false → Room a
room-is a e =
    let p = possible-is a e in
    let period = hours-le a p in
    let counted : a.sums.counted ≤ 8784 = omega arith in
    record {
      hours = omega arith;
      counted = counted;
      missing = omega arith;
      lower = omega (arith, mul-le-mul_left (most_hour a.season) counted);
      upper = omega (arith, mul-le-mul_left (most_hour a.season) counted);
      least = omega (arith, mul-le-mul_left (most_aot40 a.season) counted);
      most = omega (arith, mul-le-mul_left (most_aot40 a.season) counted);
      sum = omega (arith, sum-le a.season a.sums.hours a.carried p.carried, p.hours, period);
      total = total-in a.season a.sums.hours a.carried p.carried;
    }
