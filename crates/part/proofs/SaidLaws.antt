-- An hour of floats that an account takes is an hour of kind 02 that says them, and the account
-- takes its line; whatever it answers to such an hour, it answers to the line.
use Rattle.std.proofs.lemmas.Bool.Decides.{nat_tests}
use Prim.Native.Nat.{ℕ, zero, suc, ◌+◌, ◌*◌, ◌/◌, ◌%◌, ◌<◌}
use mathlib.Core.Path.{◌≡◌, refl, sym, subst, ◌∙◌}
use mathlib.Core.Bool.{Bool, true, false, true≢false, not, cond}
use native.Mathlib.Omega.{arith}
use lib.Dec.{eqb}
use lib.IntN.{ℤ}
use lib.Ieee.{Float, nan, inf, fin, up, down}
use Rattle.trees.specs.declared.Measure.{Measure}
use Rattle.trees.specs.Parameters.{no_parameters}
use Rattle.trees.specs.MeasuredFigures.{figures_in}
use Rattle.frames.specs.declared.records.Hour.{Hour}
use Rattle.frames.specs.declared.records.RawHour.{RawHour}
use Rattle.frames.specs.declared.records.Raw.{Raw}
use Rattle.frames.specs.declared.records.Record.{Record}
use Rattle.frames.specs.Answers.{Outcome, accepted}
use Rattle.frames.specs.Ranges.{checked, lacks_ceiling}
use Rattle.frames.proofs.AnswerLaws.{refused-not-accepted, accepted-same, row-passed}
use Rattle.frames.proofs.AnswerLaws.{onward-passed, on_tree-passed}
use Rattle.frames.specs.Layout.{ozone_of, frame_line, hour_of}
use Rattle.frames.specs.Frames.{sound_of, record_of}
use Rattle.frames.proofs.RangeLaws.{period-le, checked-passed}
use Rattle.account_spec.specs.declared.Account.{Account}
use Rattle.account_spec.specs.declared.State.{State}
use Rattle.account_spec.specs.declared.Phase.{Phase}
use Rattle.account_spec.specs.declared.Phase.TheVariants.{Fresh, Open, Closed}
use Rattle.account_spec.specs.HourKinds.{is_mixed}
use Rattle.account_spec.specs.Account.{is_begun, impossible}
use Rattle.account_spec.specs.Rules.{turn_in, out_of_turn, is_due, due_of, turn_of, state_of}
use Rattle.account_spec.specs.Rules.{feed_of, feed_frame_of}
use Rattle.account_spec.specs.Timely.{timely_of}
use Rattle.account_spec.proofs.PossibleLaws.{PossibleFacts, possible-is}
use Rattle.floats.specs.declared.FloatReadings.{FloatReadings}
use Rattle.floats.specs.Whole.{signed, IsWhole, Wholeness, whole, broken, whole_of}
use Rattle.floats.specs.Numbers.{Wholes, raw_of}
use Rattle.floats.specs.Feeding.{in_field, wholes_of, hour_at, feed_floats_of}
use Rattle.floats.specs.Promise.{AreWhole, SaidBy, ranges_of}
use Rattle.floats.proofs.WholeLaws.{divided-back}
use Rattle.floats.proofs.PromiseLaws.{float-promise}
use Rattle.part.specs.Promise.{SaysHour}

-- ---- a float that is taken as a number is that number

whole-same : {y z : ℤ} → whole y ≡ whole z → y ≡ z
whole-same e = cc

broken-not-whole : {A : Type 0} {z : ℤ} → broken ≡ whole z → A
broken-not-whole e = let n : ◌≡◌ {A = ℕ} 0 1 = cc in absurd (omega arith)

remainder-broken : (x : Wholeness) {z : ℤ} (r : ℕ) → cond (eqb (suc r) 0) x broken ≡ whole z → ⊥
remainder-broken x r e = grind (arith, nat_tests)

by-rest : (s : Bool) (v d r : ℕ) (z : ℤ) → v % d ≡ r
    → cond (eqb r 0) (whole (signed s (v / d))) broken ≡ whole z
    → (n : ℕ) × (v ≡ n * d) × (signed s n ≡ z)
by-rest s v d zero z e f = (v / d, divided-back v d e, whole-same f)
by-rest s v d (suc r) z e f = absurd (remainder-broken _ r f)

whole-back : (x : Float) (z : ℤ) → whole_of x ≡ whole z → IsWhole x z
unfolding whole_of
whole-back nan z e = broken-not-whole e
whole-back (inf s) z e = broken-not-whole e
whole-back (fin s m e) z f = by-rest s (m * up e) (down e) (m * up e % down e) z refl f

field-passed : {A : Type 0} (f : ℕ) (x : Float) (next : ℤ → Outcome A) (a : A)
    → in_field f (whole_of x) next ≡ accepted a → (z : ℤ) × IsWhole x z × (next z ≡ accepted a)
field-passed f x next a e = by (whole_of x) refl e
  where
    by : (o : Wholeness) → whole_of x ≡ o → in_field f o next ≡ accepted a
        → (z : ℤ) × IsWhole x z × (next z ≡ accepted a)
    by (whole z) is e = (z, whole-back x z is, e)
    by broken is e = refused-not-accepted e

wholes-back : (r : FloatReadings) (w : Wholes) → wholes_of r ≡ accepted w → AreWhole r w
unfolding wholes_of
wholes-back r w e =
    let a = field-passed 1 r.ozone _ w e in
    let b = field-passed 2 r.ppfd _ w a.2 in
    let c = field-passed 3 r.radiation _ w b.2 in
    let d = field-passed 4 r.temperature _ w c.2 in
    let f = field-passed 5 r.vpd _ w d.2 in
    let g = field-passed 6 r.wind _ w f.2 in
    let h = field-passed 7 r.soil _ w g.2 in
    subst (AreWhole r) (accepted-same h.2)
    (record {
      ozone = a.1;
      ppfd = b.1;
      radiation = c.1;
      temperature = d.1;
      vpd = f.1;
      wind = g.1;
      soil = h.1;
    })

-- ---- the frame that the account takes

raw-day : (day hour : ℕ) (w : Wholes) → (raw_of day hour w).day ≡ day
unfolding raw_of
raw-day day hour w = refl

raw-hour : (day hour : ℕ) (w : Wholes) → (raw_of day hour w).hour ≡ hour
unfolding raw_of
raw-hour day hour w = refl

not-false : (t : Bool) → not t ≡ false → t ≡ true
not-false t e = grind arith

-- an hour comes in an open season
hour-begun : (p : Phase) (s : State) (raw : RawHour) → turn_in p s (Raw.Hour raw) ≡ false
    → is_begun p ≡ true
hour-begun Fresh s raw e = absurd (true≢false e)
hour-begun Open s raw e = refl
hour-begun Closed s raw e = absurd (true≢false e)

due-is : (s : State) (raw : RawHour) → is_due s raw ≡ true
    → (raw.day ≡ s.season.header.first + s.hours / 24) × (raw.hour ≡ s.hours % 24)
due-is s raw e = grind (arith, nat_tests)

-- it is at most the last day of a year, whose hours are 24
due-width : (a : Account) → PossibleFacts a → checked (Record.Header a.season.header) ≡ accepted tt
    → (day hour : ℕ) → day ≡ a.season.header.first + a.sums.hours / 24
    → hour ≡ a.sums.hours % 24 → (day < 65536) × (hour < 256)
due-width a p passed day hour e f =
    let header = checked-passed (Record.Header a.season.header) passed in
    let period = period-le a.season.header passed in
    (omega (arith, header.first.below, header.last, header.days.below, p.hours), omega arith)

-- what the frame of seven whole numbers says, where it is taken
record Taken (a : Account) (day hour : ℕ) (w : Wholes) : Type 0 where
  width : (day < 65536) × (hour < 256)
  measure : Measure
  ranges : ranges_of measure w ≡ accepted tt

frame-taken : (a b : Account) (day hour : ℕ) (w : Wholes)
    → feed_frame_of a (Raw.Hour (raw_of day hour w)) ≡ accepted b → Taken a day hour w
unfolding feed_frame_of turn_of due_of record_of sound_of
frame-taken a b day hour w e =
    let raw = raw_of day hour w in
    let s = state_of a in
    let possible = row-passed (impossible a) _ _ b e in
    let read = onward-passed (turn_of s (Raw.Hour raw)) _ b possible.1 in
    let turn = row-passed (out_of_turn s (Raw.Hour raw)) _ _ read.0 read.1 in
    let mixed = row-passed (is_mixed s.kind raw.air) _ _ read.0 turn.1 in
    let due = row-passed (not (is_due s raw)) _ _ read.0 mixed.1 in
    let has = row-passed (lacks_ceiling s.season.ceiling (ozone_of raw.ozone)) _ _ read.0 due.1 in
    let tree = on_tree-passed (figures_in no_parameters s.season.header.tree) _ read.0 has.1 in
    let sound =
    onward-passed (checked (Record.Hour (hour_of raw tree.0.measure))) _ read.0 tree.2 in
    let p = possible-is a possible.0 in
    let at = due-is s raw (not-false (is_due s raw) due.0) in
    record {
      width =
          due-width a p (p.header (hour-begun a.phase s raw turn.0)) day hour
          (sym (raw-day day hour w) ∙ at.0) (sym (raw-hour day hour w) ∙ at.1);
      measure = tree.0.measure;
      ranges = sym (float-promise.ranges day hour w tree.0.measure) ∙ sound.1;
    }

-- ---- the hour

module _ (a : Account) (day hour : ℕ) (r : FloatReadings) where
  -- it is the line that says it, for every account
  pub floats-as : (h : Hour) → SaysHour day hour r h
      → feed_floats_of a day hour r ≡ feed_of a (frame_line (Record.Hour h))
  floats-as h s =
      let at : feed_floats_of a h.day h.hour r ≡ feed_floats_of a day hour r =
      rw (s.at_day, s.at_hour) refl in
      sym at ∙ float-promise.line a h r s.numbers s.kind s.in_width s.in_range

  says : (w : Wholes) → AreWhole r w → (h : Hour) → SaidBy day hour w h
      → (day < 65536) × (hour < 256) → SaysHour day hour r h
  says w are h s width = record {
    at_day = s.at_day;
    at_hour = s.at_hour;
    numbers = subst (AreWhole r) (sym s.numbers) are;
    kind = s.kind;
    in_range = s.in_range;
    in_width = (rw s.at_day width.0, rw s.at_hour width.1);
  }

  pub floats-said : (b : Account) → feed_floats_of a day hour r ≡ accepted b
      → (h : Hour) × SaysHour day hour r h × (feed_of a (frame_line (Record.Hour h)) ≡ accepted b)
  unfolding feed_floats_of
  floats-said b e =
      let timely = onward-passed (timely_of a (hour_at day hour)) _ b e in
      let wholes = onward-passed (wholes_of r) _ b timely.2 in
      let taken = frame-taken a b day hour wholes.0 wholes.2 in
      let said = float-promise.said day hour wholes.0 taken.measure taken.ranges in
      let s = says wholes.0 (wholes-back r wholes.0 wholes.1) said.0 said.1 taken.width in
      (said.0, s, sym (floats-as said.0 s) ∙ e)
