-- What holds of every float and of every hour of floats ("Loggers that hold floats").
use Rattle.std.specs.Prelude.{ℕ, suc, ◌+◌, ◌*◌, ◌^◌, ◌≤◌, ◌<◌, ◌≡◌, Bool, true, not, ◌&&◌, List, []}
use Rattle.std.specs.Prelude.{◌==◌, nat_lt}
use Rattle.std.specs.Prelude.{◌∷◌, ℤ, pos, negsuc, Float}
use Rattle.std.specs.Float.{binary32}
use Rattle.std.specs.Float.Ieee.{of_int, of_bits, of_fields}
use Rattle.std.specs.Float.Ieee.Exact.{HasValue}
use Rattle.trees.specs.declared.Measure.{Measure}
use Rattle.frames.specs.declared.records.Hour.{Hour}
use Rattle.frames.specs.declared.records.Raw.{Raw}
use Rattle.frames.specs.declared.records.Record.{Record}
use Rattle.frames.specs.Answers.{Outcome, accepted, refused, field}
use Rattle.frames.specs.Temperature.{temperature_out}
use Rattle.frames.specs.Ranges.{checked}
use Rattle.frames.specs.Layout.{air_kind, hour_of, frame_line}
use Rattle.frames.specs.RoundTrip.{InWidth}
use Rattle.account_spec.specs.declared.Account.{Account}
use Rattle.account_spec.specs.Rules.{feed_of, feed_frame_of}
use Rattle.account_spec.specs.Timely.{timely_of}
use Rattle.floats.specs.declared.FloatReadings.{FloatReadings}
use Rattle.floats.specs.Whole.{IsWhole, whole, broken, whole_of, units_in_one}
use Rattle.floats.specs.Numbers.{Wholes, wholes_in, raw_of}
use Rattle.floats.specs.Feeding.{hour_at, feed_floats_of}

-- ---- the seven floats

-- they are these whole numbers
pub record AreWhole (r : FloatReadings) (w : Wholes) : Type 0 where
  pub ozone : IsWhole r.ozone w.ozone
  pub ppfd : IsWhole r.ppfd w.ppfd
  pub radiation : IsWhole r.radiation w.radiation
  pub temperature : IsWhole r.temperature w.temperature
  pub vpd : IsWhole r.vpd w.vpd
  pub wind : IsWhole r.wind w.wind
  pub soil : IsWhole r.soil w.soil

abbrev pub floats_in : FloatReadings → List Float
floats_in r = r.ozone ∷ r.ppfd ∷ r.radiation ∷ r.temperature ∷ r.vpd ∷ r.wind ∷ r.soil ∷ []

-- the float at place f, from 1 on, is no whole number, and all before it are
pub data FirstBroken : ℕ → List Float → Type 0 where
  here : {x : Float} {xs : List Float} → ((z : ℤ) → IsWhole x z → ⊥) → FirstBroken 1 (x ∷ xs)
  later :
      {f : ℕ} {x : Float} {xs : List Float} (z : ℤ) → IsWhole x z → FirstBroken f xs →
      FirstBroken (suc f) (x ∷ xs)

-- ---- row 10 of whole numbers

-- not from 0 to high
abbrev pub number_out : ℕ → ℤ → Bool
number_out high (pos n) = nat_lt high n
number_out high (negsuc n) = true

-- 65535 stands for a missing one
abbrev pub ozone_number_out : ℤ → Bool
ozone_number_out (pos n) = nat_lt 5000 n && not (n == 65535)
ozone_number_out (negsuc n) = true

abbrev pub soil_most : Measure → ℕ
soil_most Measure.Suction = 10000
soil_most Measure.Water = 1000

abbrev pub ranges_of : Measure → Wholes → Outcome Unit
ranges_of m w =
    field 1 (ozone_number_out w.ozone)
    (field 2 (number_out 3000 w.ppfd)
    (field 3 (number_out 1500 w.radiation)
    (field 4 (temperature_out w.temperature)
    (field 5 (number_out 10000 w.vpd)
    (field 6 (number_out 6000 w.wind)
    (field 7 (number_out (soil_most m) w.soil)
    (accepted tt)))))))

-- an hour of kind 02 at this day and hour that says these numbers, in range
pub record SaidBy (day hour : ℕ) (w : Wholes) (h : Hour) : Type 0 where
  pub at_day : h.day ≡ day
  pub at_hour : h.hour ≡ hour
  pub kind : air_kind h.air ≡ 2
  pub numbers : wholes_in h ≡ w
  pub in_range : checked (Record.Hour h) ≡ accepted tt

pub record FloatPromise : Type 0 where
  -- a float that is a whole number is taken as it, every other is row 26's, and it is one number at
  -- most
  pub taken : (x : Float) (z : ℤ) → IsWhole x z → whole_of x ≡ whole z
  pub refused26 : (x : Float) → ((z : ℤ) → IsWhole x z → ⊥) → whole_of x ≡ broken
  pub unique : (x : Float) (y z : ℤ) → IsWhole x y → IsWhole x z → y ≡ z
  -- the f32 of every number from -65535 to 65535 is that number
  pub positive : (n : ℕ) → n ≤ 65535 → IsWhole (of_int binary32 (pos n)) (pos n)
  pub negative : (n : ℕ) → suc n ≤ 65535 → IsWhole (of_int binary32 (negsuc n)) (negsuc n)
  -- minus zero, the pattern 80000000, is 0
  pub minus_zero : IsWhole (of_bits binary32 0x80000000) (pos 0)
  -- the value by the pattern, in subnormal units: with the exponent's field e + 1 up to 254 and the
  -- 23 digits t it is (2 ^ 23 + t) * 2 ^ e of them, with the field 0 it is t, with 255 it is none
  pub normal :
      (s : Bool) (e t : ℕ) → suc e < 255 →
      HasValue (of_fields binary32 s (suc e) t) s ((8388608 + t) * 2 ^ e) units_in_one
  pub subnormal : (s : Bool) (t : ℕ) → HasValue (of_fields binary32 s 0 t) s t units_in_one
  pub unbounded : (s : Bool) (t : ℕ) (z : ℤ) → IsWhole (of_fields binary32 s 255 t) z → ⊥
  -- the hour, all of its numbers in range or ozone missing, is as the kind 02 line of these
  -- numbers, for every account
  pub line :
      (a : Account) (h : Hour) (r : FloatReadings) → AreWhole r (wholes_in h) → air_kind h.air ≡ 2 →
      InWidth (Record.Hour h) →
      checked (Record.Hour h) ≡ accepted tt →
      feed_floats_of a h.day h.hour r ≡ feed_of a (frame_line (Record.Hour h))
  -- and any seven whole numbers in range are those of such an hour
  pub said :
      (day hour : ℕ) (w : Wholes) (m : Measure) → ranges_of m w ≡ accepted tt →
      (h : Hour) × SaidBy day hour w h
  -- an hour of any whole numbers is as their frame; row 10 finds in the frame what it would find in
  -- the numbers
  pub frame :
      (a : Account) (day hour : ℕ) (r : FloatReadings) (w : Wholes) → AreWhole r w →
      feed_floats_of a day hour r ≡ feed_frame_of a (Raw.Hour (raw_of day hour w))
  pub ranges :
      (day hour : ℕ) (w : Wholes) (m : Measure) →
      checked (Record.Hour (hour_of (raw_of day hour w) m)) ≡ ranges_of m w
  -- rows 13, 4, 15 and 9 come before row 26, and row 26 with the first such field before every
  -- other
  pub untimely :
      (a : Account) (day hour : ℕ) (r : FloatReadings) (w : ℕ × ℕ) →
      timely_of a (hour_at day hour) ≡ refused w → feed_floats_of a day hour r ≡ refused w
  pub first :
      (a : Account) (day hour : ℕ) (r : FloatReadings) (f : ℕ) →
      timely_of a (hour_at day hour) ≡ accepted tt → FirstBroken f (floats_in r) →
      feed_floats_of a day hour r ≡ refused (26, f)
