-- The records that a maker's numbers say, and the line of a place's header.
use Rattle.std.specs.Prelude.{ℕ, List, ◌==◌, if◌then◌else◌}
use Rattle.trees.specs.declared.measured.Parameters.{Parameters}
use Rattle.frames.specs.Answers.{Outcome, onward}
use Rattle.frames.specs.Temperature.{complement_of}
use Rattle.frames.specs.declared.records.Air.{Air}
use Rattle.frames.specs.declared.records.Hour.{Hour}
use Rattle.frames.specs.declared.records.Record.{Record}
use Rattle.frames.specs.declared.records.Soil.{Soil}
use Rattle.frames.specs.Layout.{ozone_of}
use Rattle.frames.specs.Writer.{text_of}
use Rattle.dates.specs.Rules.{placed_of}
use Rattle.part.specs.declared.HourReadings.{HourReadings}
use Rattle.part.specs.declared.TreeParameters.{TreeParameters}

-- ---- an hour

-- 0 is suction, anything else water
abbrev pub soil_from : ℕ → ℕ → Soil
soil_from water n = if water == 0 then Soil.Suction n else Soil.Water n

-- 65535 is missing ozone; the air is given apart, by the kind
abbrev pub hour_from : HourReadings → Air → Hour
hour_from r air = record {
  day = r.day;
  hour = r.hour;
  ozone = ozone_of r.ozone;
  ppfd = r.ppfd;
  radiation = r.radiation;
  temperature = r.temperature;
  air = air;
  wind = r.wind;
  soil = soil_from r.water r.soil;
}

-- ---- a measured tree

-- temperatures in two's complement, as its frame holds them
abbrev pub parameters_from : TreeParameters → Parameters
parameters_from p = record {
  g_max = p.g_max;
  f_min = p.f_min;
  light_a = p.light_a;
  t_min = complement_of p.t_min;
  t_opt = complement_of p.t_opt;
  t_max = complement_of p.t_max;
  vpd_max = p.vpd_max;
  vpd_min = p.vpd_min;
  soil_max = p.soil_max;
  soil_min = p.soil_min;
  leaf = p.leaf;
  a = p.a;
  e = p.e;
  f1 = p.f1;
  f4 = p.f4;
  y = p.y;
}

-- ---- a place

-- rows 5, 6, 14, 7, 8, else its header's line
unfoldable pub placed_text : ℕ → ℕ → ℕ → ℕ → ℕ → Outcome (List ℕ)
placed_text tree days level latitude height =
    onward (placed_of tree days level latitude height) (λ h. text_of (Record.Header h))
