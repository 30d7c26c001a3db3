-- What a line says ("Frames"): each kind's fields as a record, the frame of a line, the line of a
-- record.
use Rattle.std.specs.Prelude.{ℕ, List, [], ◌∷◌, Option, Some, None, ◌==◌, slice_index}
use Rattle.std.specs.Prelude.{if◌then◌else◌}
use Rattle.trees.specs.declared.Measure.{Measure}
use Rattle.trees.specs.Parameters.{parameter_numbers, parameters_of}
use Rattle.trees.specs.Warmth.{warmth_numbers, warmth_of}
use Rattle.frames.specs.Digits.{byte_at}
use Rattle.frames.specs.Kinds.{one, widths_of}
use Rattle.frames.specs.Fields.{digits_of, fields_at}
use Rattle.frames.specs.Temperature.{signed_of, complement_of}
use Rattle.frames.specs.declared.records.Header.{Header}
use Rattle.frames.specs.declared.records.Air.{Air}
use Rattle.frames.specs.declared.records.Air.TheVariants.{Deficit, Pressure, Humidity}
use Rattle.frames.specs.declared.records.Soil.{Soil}
use Rattle.frames.specs.declared.records.Soil.TheVariants.{Suction, Water}
use Rattle.frames.specs.declared.records.Hour.{Hour}
use Rattle.frames.specs.declared.records.RawHour.{RawHour}
use Rattle.frames.specs.declared.records.End.{End}
use Rattle.frames.specs.declared.records.Ceiling.{Ceiling}
use Rattle.frames.specs.declared.records.Raw.{Raw}
use Rattle.frames.specs.declared.records.Record.{Record}

-- ---- a record's numbers in the order of the line, and the record of such numbers

abbrev header_numbers : Header → List ℕ
header_numbers h = h.tree ∷ h.days ∷ h.first ∷ h.last ∷ h.level ∷ []

abbrev pub header_of : List ℕ → Header
header_of ns = record {
  tree = slice_index ns 0;
  days = slice_index ns 1;
  first = slice_index ns 2;
  last = slice_index ns 3;
  level = slice_index ns 4;
}

abbrev pub soil_number : Soil → ℕ
soil_number (Suction n) = n
soil_number (Water n) = n

-- FFFF is missing ("Hours without ozone")
abbrev pub ozone_number : Option ℕ → ℕ
ozone_number (Some n) = n
ozone_number None = 65535

abbrev pub ozone_of : ℕ → Option ℕ
ozone_of n = if n == 65535 then None else Some n

-- what the air says in VPD's place, and past soil
abbrev pub vapour_number : Air → ℕ
vapour_number (Deficit n) = n
vapour_number (Pressure n p) = n
vapour_number (Humidity n) = n

abbrev pub past_soil : Air → List ℕ
past_soil (Deficit n) = []
past_soil (Pressure n p) = p ∷ []
past_soil (Humidity n) = []

abbrev pub hour_numbers : Hour → List ℕ
hour_numbers h =
    h.day ∷ h.hour ∷ ozone_number h.ozone ∷ h.ppfd ∷ h.radiation ∷ complement_of h.temperature
    ∷ vapour_number h.air ∷ h.wind ∷ soil_number h.soil ∷ past_soil h.air

-- the air of an hour frame's numbers, by its kind, 04, 05 or 02
abbrev pub air_of : ℕ → List ℕ → Air
air_of kind ns =
    if kind == 4 then Pressure (slice_index ns 6) (slice_index ns 9)
    else (if kind == 5 then Humidity (slice_index ns 6) else Deficit (slice_index ns 6))

abbrev pub raw_hour_of : Air → List ℕ → RawHour
raw_hour_of air ns = record {
  day = slice_index ns 0;
  hour = slice_index ns 1;
  ozone = slice_index ns 2;
  ppfd = slice_index ns 3;
  radiation = slice_index ns 4;
  temperature = slice_index ns 5;
  air = air;
  wind = slice_index ns 7;
  soil = slice_index ns 8;
}

abbrev pub end_of : List ℕ → End
end_of ns = record { hours = slice_index ns 0 }

abbrev pub ceiling_of : List ℕ → Ceiling
ceiling_of ns = record { ozone = slice_index ns 0 }

-- the soil number n in a measure, and the hour of a frame's numbers, its soil in that measure
abbrev pub soil_of : Measure → ℕ → Soil
soil_of Measure.Suction n = Suction n
soil_of Measure.Water n = Water n

unfoldable pub hour_of : RawHour → Measure → Hour
hour_of raw m = record {
  day = raw.day;
  hour = raw.hour;
  ozone = ozone_of raw.ozone;
  ppfd = raw.ppfd;
  radiation = raw.radiation;
  temperature = signed_of raw.temperature;
  air = raw.air;
  wind = raw.wind;
  soil = soil_of m raw.soil;
}

-- ---- a kind's frame and its line: a case for each kind

-- the frame of a kind with these numbers: a header, an end, a ceiling, parameters, warmth, else an
-- hour
unfoldable pub frame_of : ℕ → List ℕ → Raw
frame_of kind ns =
    if kind == 1 then Raw.Header (header_of ns)
    else (if kind == 3 then Raw.End (end_of ns)
    else (if kind == 6 then Raw.Ceiling (ceiling_of ns)
    else (if kind == 7 then Raw.Parameters (parameters_of ns)
    else (if kind == 8 then Raw.Warmth (warmth_of ns)
    else Raw.Hour (raw_hour_of (air_of kind ns) ns)))))

unfoldable pub frame_at : List ℕ → Raw
frame_at l = frame_of (byte_at 0 l) (fields_at (byte_at 0 l) l)

-- a record's kind, an hour's by its air, and its numbers
abbrev pub air_kind : Air → ℕ
air_kind (Deficit n) = 2
air_kind (Pressure n p) = 4
air_kind (Humidity n) = 5

abbrev pub kind_of : Record → ℕ
kind_of (Record.Header h) = 1
kind_of (Record.Hour h) = air_kind h.air
kind_of (Record.End e) = 3
kind_of (Record.Ceiling c) = 6
kind_of (Record.Parameters p) = 7
kind_of (Record.Warmth w) = 8

abbrev pub numbers_of : Record → List ℕ
numbers_of (Record.Header h) = header_numbers h
numbers_of (Record.Hour h) = hour_numbers h
numbers_of (Record.End e) = e.hours ∷ []
numbers_of (Record.Ceiling c) = c.ozone ∷ []
numbers_of (Record.Parameters p) = parameter_numbers p
numbers_of (Record.Warmth w) = warmth_numbers w

-- the line of a record
unfoldable pub frame_line : Record → List ℕ
frame_line r = digits_of (one ∷ widths_of (kind_of r)) (kind_of r ∷ numbers_of r)
