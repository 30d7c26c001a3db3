-- An hour of whole floats is fed as the frame of kind 02 that says their numbers, and as its line;
-- row 26 comes before both.
use Rattle.std.proofs.lemmas.Bool.Decides.{nat_tests}
use mathlib.Core.Path.{◌≡◌, refl, ap, ◌∙◌}
use Prim.Native.Nat.{ℕ}
use lib.IntN.{ℤ}
use lib.Ieee.{Float}
use mathlib.Core.Bool.{Bool, true, false}
use Rattle.frames.specs.declared.records.Air.{Air}
use Rattle.frames.specs.declared.records.Hour.{Hour}
use Rattle.frames.specs.declared.records.Raw.{Raw}
use Rattle.frames.specs.declared.records.RawHour.{RawHour}
use Rattle.frames.specs.declared.records.Record.{Record}
use Rattle.frames.specs.Answers.{Outcome, accepted, refused, row, onward}
use Rattle.frames.specs.Ranges.{checked}
use native.Mathlib.Omega.{arith}
use Rattle.frames.specs.Layout.{hour_numbers, frame_of, air_kind, frame_line}
use Rattle.frames.proofs.RangeLaws.{HourIn, checked-passed}
use Rattle.frames.specs.RoundTrip.{InWidth}
use Rattle.frames.proofs.WrittenOzoneLaws.{ozone-lt}
use Rattle.frames.proofs.WidthLaws.{range-fits}
use Rattle.frames.proofs.LineLaws.{line-parsed, line_frame}
use Rattle.account_spec.specs.declared.Phase.{Phase}
use Rattle.account_spec.specs.declared.Phase.TheVariants.{Fresh, Open, Closed}
use Rattle.account_spec.specs.declared.Account.{Account}
use Rattle.account_spec.specs.declared.State.{State}
use Rattle.account_spec.specs.Rules.{out_of_turn, due_of, turn_of, answer_of, feed_of}
use Rattle.account_spec.specs.Rules.{feed_frame_of}
use Rattle.account_spec.specs.Timely.{timely_in, timely_of}
use Rattle.floats.specs.declared.FloatReadings.{FloatReadings}
use Rattle.floats.specs.Numbers.{Wholes, wholes_in, raw_of}
use Rattle.floats.specs.Whole.{whole_of, IsWhole}
use Rattle.floats.specs.Feeding.{in_field, wholes_of, hour_at, feed_floats_of}
use Rattle.floats.specs.Promise.{AreWhole, floats_in, FirstBroken, here, later}
use Rattle.floats.proofs.WholeLaws.{whole-taken, whole-broken}
use Rattle.floats.proofs.RangeLaws.{natural-is, bytes-complement}

-- ---- row 26

taken :
    {A : Type 0} (f : ℕ) (x : Float) (z : ℤ) (next : ℤ → Outcome A) {o : Outcome A} →
    IsWhole x z → next z ≡ o → in_field f (whole_of x) next ≡ o
taken f x z next h e = rw (whole-taken x z h) e

lost :
    {A : Type 0} (f : ℕ) (x : Float) (next : ℤ → Outcome A) →
    ((z : ℤ) → IsWhole x z → ⊥) → in_field f (whole_of x) next ≡ refused (26, f)
lost f x next b = rw (whole-broken x b) refl

wholes-broken :
    (r : FloatReadings) (f : ℕ) → FirstBroken f (floats_in r) → wholes_of r ≡ refused (26, f)
unfolding wholes_of
wholes-broken r f (here b) = lost 1 r.ozone _ b
wholes-broken r f (later z1 h1 (here b)) = taken 1 r.ozone z1 _ h1 (lost 2 r.ppfd _ b)
wholes-broken r f (later z1 h1 (later z2 h2 (here b))) =
    taken 1 r.ozone z1 _ h1 (taken 2 r.ppfd z2 _ h2 (lost 3 r.radiation _ b))
wholes-broken r f (later z1 h1 (later z2 h2 (later z3 h3 (here b)))) =
    taken 1 r.ozone z1 _ h1
    (taken 2 r.ppfd z2 _ h2 (taken 3 r.radiation z3 _ h3 (lost 4 r.temperature _ b)))
wholes-broken r f (later z1 h1 (later z2 h2 (later z3 h3 (later z4 h4 (here b))))) =
    taken 1 r.ozone z1 _ h1
    (taken 2 r.ppfd z2 _ h2
    (taken 3 r.radiation z3 _ h3 (taken 4 r.temperature z4 _ h4 (lost 5 r.vpd _ b))))
wholes-broken r f (later z1 h1 (later z2 h2 (later z3 h3 (later z4 h4 (later z5 h5 (here b)))))) =
    taken 1 r.ozone z1 _ h1
    (taken 2 r.ppfd z2 _ h2
    (taken 3 r.radiation z3 _ h3
    (taken 4 r.temperature z4 _ h4 (taken 5 r.vpd z5 _ h5 (lost 6 r.wind _ b)))))
wholes-broken r f
    (later z1 h1 (later z2 h2 (later z3 h3 (later z4 h4 (later z5 h5 (later z6 h6 (here b))))))) =
    taken 1 r.ozone z1 _ h1
    (taken 2 r.ppfd z2 _ h2
    (taken 3 r.radiation z3 _ h3
    (taken 4 r.temperature z4 _ h4
    (taken 5 r.vpd z5 _ h5 (taken 6 r.wind z6 _ h6 (lost 7 r.soil _ b))))))
wholes-broken r _
    (later z1 h1
    (later z2 h2 (later z3 h3 (later z4 h4 (later z5 h5 (later z6 h6 (later {f = f} z _ k))))))) =
    elim k [ ]

pub feed-broken :
    (a : Account) (day hour : ℕ) (r : FloatReadings) (f : ℕ) →
    timely_of a (hour_at day hour) ≡ accepted tt → FirstBroken f (floats_in r)
    → feed_floats_of a day hour r ≡ refused (26, f)
unfolding feed_floats_of
feed-broken a day hour r f e k =
    rw e
    (ap (λ (o : Outcome Wholes). onward o (λ w. feed_frame_of a (Raw.Hour (raw_of day hour w))))
    (wholes-broken r f k))

pub feed-untimely :
    (a : Account) (day hour : ℕ) (r : FloatReadings) (w : ℕ × ℕ) →
    timely_of a (hour_at day hour) ≡ refused w → feed_floats_of a day hour r ≡ refused w
unfolding feed_floats_of
feed-untimely a day hour r w e = rw e refl

-- ---- rows 13, 4, 15 and 9 look at no reading

turn_by :
    (s : State) (x y : RawHour) (p : Phase) → s.phase ≡ p →
    out_of_turn s (Raw.Hour x) ≡ out_of_turn s (Raw.Hour y)
turn_by s x y Fresh e = rw e refl
turn_by s x y Open e = rw e refl
turn_by s x y Closed e = rw e refl

-- four rows that a first step has passed hold of no second one
passed-again : {A B : Type 0} (i t m d : Bool) (due : Outcome A) (next : A → Outcome B)
    → onward (row {A = Unit} 13 i (row 4 t (row 15 m (row 9 d (accepted tt)))))
    (λ _. row 13 i (onward (row 4 t (row 15 m (row 9 d due))) next))
    ≡ row 13 i (onward (row 4 t (row 15 m (row 9 d due))) next)
passed-again true t m d due next = refl
passed-again false true m d due next = refl
passed-again false false true d due next = refl
passed-again false false false true due next = refl
passed-again false false false false due next = refl

module _ (a : Account) (day hour : ℕ) (w : Wholes) where
  timely-again :
      onward (timely_of a (hour_at day hour)) (λ _. feed_frame_of a (Raw.Hour (raw_of day hour w)))
      ≡ feed_frame_of a (Raw.Hour (raw_of day hour w))
  unfolding timely_of timely_in feed_frame_of turn_of due_of raw_of
  timely-again = grind (arith, turn_by, passed-again)

  pub feed-whole :
      (r : FloatReadings) → wholes_of r ≡ accepted w →
      feed_floats_of a day hour r ≡ feed_frame_of a (Raw.Hour (raw_of day hour w))
  unfolding feed_floats_of
  feed-whole r e = rw e timely-again

-- ---- seven whole numbers

pub wholes-are : (r : FloatReadings) (w : Wholes) → AreWhole r w → wholes_of r ≡ accepted w
unfolding wholes_of
wholes-are r w k = grind (arith, nat_tests, whole-taken)

-- ---- the line

module _ (h : Hour) (i : HourIn h) where
  frame-says :
      (v : ℕ) → h.air ≡ Air.Deficit v →
      frame_of (air_kind h.air) (hour_numbers h) ≡ Raw.Hour (raw_of h.day h.hour (wholes_in h))
  unfolding frame_of raw_of
  frame-says v e = grind (arith, nat_tests, ozone-lt, natural-is, bytes-complement)

-- an air of kind 02
deficit-is : (a : Air) → air_kind a ≡ 2 → (v : ℕ) × (a ≡ Air.Deficit v)
deficit-is (Air.Deficit v) e = (v, refl)
deficit-is (Air.Pressure v p) e = absurd (omega (arith, e))
deficit-is (Air.Humidity v) e = absurd (omega (arith, e))

pub line-fed :
    (a : Account) (h : Hour) (r : FloatReadings) → AreWhole r (wholes_in h) → air_kind h.air ≡ 2 →
    InWidth (Record.Hour h)
    → checked (Record.Hour h) ≡ accepted tt →
    feed_floats_of a h.day h.hour r ≡ feed_of a (frame_line (Record.Hour h))
unfolding feed_of answer_of feed_frame_of
line-fed a h r are kind width e =
    let i = checked-passed (Record.Hour h) e in
    let fits = range-fits (Record.Hour h) i width in
    let air = deficit-is h.air kind in
    feed-whole a h.day h.hour (wholes_in h) r (wholes-are r (wholes_in h) are)
    ∙ rw (
      line-parsed (Record.Hour h) fits,
      line_frame (Record.Hour h) fits,
      frame-says h i air.0 air.1,
    )
    refl
