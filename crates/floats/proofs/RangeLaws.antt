-- Row 10 finds in a frame what it would find in the whole numbers that the frame says, numbers in
-- range stand there as they are, and an hour says them.
use mathlib.Core.Path.{◌≡◌, refl, ap, ◌∙◌}
use Prim.Native.Nat.{ℕ, ◌<◌}
use native.Mathlib.Omega.{arith}
use mathlib.Core.Bool.{false, true≢false}
use Rattle.std.proofs.lemmas.Bool.Decides.{nat_tests}
use lib.Dec.{ltb}
use lib.IntN.{ℤ, pos, negsuc}
use Rattle.trees.specs.declared.Measure.{Measure}
use Rattle.frames.specs.declared.records.Hour.{Hour}
use Rattle.frames.specs.declared.records.Record.{Record}
use Rattle.frames.specs.Answers.{accepted}
use Rattle.frames.specs.Temperature.{signed_of, complement_of, temperature_out}
use Rattle.frames.specs.Ranges.{ozone_out, soil_out, checked}
use Rattle.frames.specs.Layout.{ozone_number, ozone_of, soil_number, soil_of, hour_of}
use Rattle.frames.proofs.TemperatureLaws.{signed-complement}
use Rattle.frames.proofs.WrittenOzoneLaws.{ozone-number}
use Rattle.frames.proofs.AnswerLaws.{row-passed}
use Rattle.floats.specs.Numbers.{Wholes, natural_bytes, complement_bytes, raw_of}
use Rattle.floats.specs.Promise.{number_out, ozone_number_out, soil_most, ranges_of, SaidBy}

number-out : (high : ℕ) (z : ℤ) → high < 65534 → ltb high (natural_bytes z) ≡ number_out high z
unfolding natural_bytes
number-out high (pos n) h = grind (arith, nat_tests)
number-out high (negsuc n) h = grind (arith, nat_tests)

ozone-out : (z : ℤ) → ozone_out (ozone_of (natural_bytes z)) ≡ ozone_number_out z
unfolding natural_bytes
ozone-out (pos n) = grind (arith, nat_tests)
ozone-out (negsuc n) = refl

temperature-out : (z : ℤ) → temperature_out (signed_of (complement_bytes z)) ≡ temperature_out z
unfolding complement_bytes signed_of temperature_out
temperature-out (pos n) = grind (arith, nat_tests)
temperature-out (negsuc n) = grind (arith, nat_tests)

soil-out :
    (m : Measure) (z : ℤ) → soil_out (soil_of m (natural_bytes z)) ≡ number_out (soil_most m) z
soil-out Measure.Suction z = number-out 10000 z (omega arith)
soil-out Measure.Water z = number-out 1000 z (omega arith)

pub ranges-same :
    (day hour : ℕ) (w : Wholes) (m : Measure) →
    checked (Record.Hour (hour_of (raw_of day hour w) m)) ≡ ranges_of m w
unfolding checked hour_of raw_of
ranges-same day hour w m =
    grind (arith, nat_tests, ozone-out, number-out, temperature-out, soil-out)

-- ---- numbers in range

pub natural-is : (n : ℕ) → n < 65536 → natural_bytes (pos n) ≡ n
unfolding natural_bytes
natural-is n h = grind (arith, nat_tests)

pub bytes-complement : (t : ℤ) → temperature_out t ≡ false → complement_bytes t ≡ complement_of t
unfolding complement_bytes complement_of temperature_out
bytes-complement (pos n) e = grind (arith, nat_tests)
bytes-complement (negsuc n) e = grind (arith, nat_tests)

-- ---- an hour of given numbers in range

number-back :
    (high : ℕ) (z : ℤ) → high < 65534 → number_out high z ≡ false → pos (natural_bytes z) ≡ z
number-back high (pos n) h e = grind (arith, nat_tests, natural-is)
number-back high (negsuc n) h e = absurd (true≢false e)

ozone-back :
    (z : ℤ) → ozone_number_out z ≡ false → pos (ozone_number (ozone_of (natural_bytes z))) ≡ z
ozone-back (pos n) e = grind (arith, nat_tests, ozone-number, natural-is)
ozone-back (negsuc n) e = absurd (true≢false e)

temperature-back : (z : ℤ) → temperature_out z ≡ false → signed_of (complement_bytes z) ≡ z
temperature-back z e = ap signed_of (bytes-complement z e) ∙ signed-complement z e

soil-back :
    (m : Measure) (z : ℤ) → number_out (soil_most m) z ≡ false →
    pos (soil_number (soil_of m (natural_bytes z))) ≡ z
soil-back Measure.Suction z e = number-back 10000 z (omega arith) e
soil-back Measure.Water z e = number-back 1000 z (omega arith) e

pub hour-said :
    (day hour : ℕ) (w : Wholes) (m : Measure) → ranges_of m w ≡ accepted tt →
    (h : Hour) × SaidBy day hour w h
unfolding hour_of raw_of
hour-said day hour w m e =
    let o = row-passed (ozone_number_out w.ozone) _ _ tt e in
    let p = row-passed (number_out 3000 w.ppfd) _ _ tt o.1 in
    let g = row-passed (number_out 1500 w.radiation) _ _ tt p.1 in
    let t = row-passed (temperature_out w.temperature) _ _ tt g.1 in
    let v = row-passed (number_out 10000 w.vpd) _ _ tt t.1 in
    let u = row-passed (number_out 6000 w.wind) _ _ tt v.1 in
    let s = row-passed (number_out (soil_most m) w.soil) _ _ tt u.1 in (
      hour_of (raw_of day hour w) m,
      record {
        at_day = refl;
        at_hour = refl;
        kind = refl;
        numbers = λ i. record {
          ozone = ozone-back w.ozone o.0 i;
          ppfd = number-back 3000 w.ppfd (omega arith) p.0 i;
          radiation = number-back 1500 w.radiation (omega arith) g.0 i;
          temperature = temperature-back w.temperature t.0 i;
          vpd = number-back 10000 w.vpd (omega arith) v.0 i;
          wind = number-back 6000 w.wind (omega arith) u.0 i;
          soil = soil-back m w.soil s.0 i;
        };
        in_range = ranges-same day hour w m ∙ e;
      },
    )
