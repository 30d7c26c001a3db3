-- Feeding an hour of floats ("Loggers that hold floats"): rows 13, 4, 15 and 9, then row 26 for all
-- seven fields, then as the line of kind 02 that says their numbers, rows 18 and 10.
use Rattle.std.specs.Prelude.{ℕ, ℤ}
use Rattle.frames.specs.declared.records.Air.{Air}
use Rattle.frames.specs.declared.records.Raw.{Raw}
use Rattle.frames.specs.declared.records.RawHour.{RawHour}
use Rattle.frames.specs.Answers.{Outcome, accepted, refused, onward}
use Rattle.account_spec.specs.declared.Account.{Account}
use Rattle.account_spec.specs.Rules.{feed_frame_of}
use Rattle.account_spec.specs.Timely.{timely_of}
use Rattle.floats.specs.declared.FloatReadings.{FloatReadings}
use Rattle.floats.specs.Whole.{Wholeness, whole, broken, whole_of}
use Rattle.floats.specs.Numbers.{Wholes, raw_of}

-- row 26 with its field, else what follows of the number
abbrev pub in_field : {A : Type 0} → ℕ → Wholeness → (ℤ → Outcome A) → Outcome A
in_field f (whole z) next = next z
in_field f broken next = refused (26, f)

-- row 26 by the first field that is not finite or not whole
unfoldable pub wholes_of : FloatReadings → Outcome Wholes
wholes_of r =
    in_field 1 (whole_of r.ozone) (λ ozone.
    in_field 2 (whole_of r.ppfd) (λ ppfd.
    in_field 3 (whole_of r.radiation) (λ radiation.
    in_field 4 (whole_of r.temperature) (λ temperature.
    in_field 5 (whole_of r.vpd) (λ vpd.
    in_field 6 (whole_of r.wind) (λ wind.
    in_field 7 (whole_of r.soil) (λ soil.
    accepted
    (record {
      ozone = ozone;
      ppfd = ppfd;
      radiation = radiation;
      temperature = temperature;
      vpd = vpd;
      wind = wind;
      soil = soil;
    }))))))))

-- an hour of kind 02 by its day and hour alone: `timely_of` looks at no reading
abbrev pub hour_at : ℕ → ℕ → RawHour
hour_at day hour = record {
  day = day;
  hour = hour;
  ozone = 0;
  ppfd = 0;
  radiation = 0;
  temperature = 0;
  air = Air.Deficit 0;
  wind = 0;
  soil = 0;
}

-- the frame meets rows 13, 4, 15 and 9 as the hour did; 18 and 10 are left
unfoldable pub feed_floats_of : Account → ℕ → ℕ → FloatReadings → Outcome Account
feed_floats_of a day hour r =
    onward (timely_of a (hour_at day hour)) (λ _.
    onward (wholes_of r) (λ w.
    feed_frame_of a (Raw.Hour (raw_of day hour w))))
