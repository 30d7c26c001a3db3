-- Seven whole numbers, and the hour frame of kind 02 that says them ("Loggers that hold floats").
use Rattle.std.specs.Prelude.{ℕ, ◌-◌, ℤ, pos, negsuc, nat_lt, if◌then◌else◌}
use Rattle.frames.specs.declared.records.Air.{Air}
use Rattle.frames.specs.declared.records.Hour.{Hour}
use Rattle.frames.specs.declared.records.RawHour.{RawHour}
use Rattle.frames.specs.Layout.{ozone_number, vapour_number, soil_number}

-- in kind 02's units and order
pub record Wholes : Type 0 where
  pub ozone : ℤ
  pub ppfd : ℤ
  pub radiation : ℤ
  pub temperature : ℤ
  pub vpd : ℤ
  pub wind : ℤ
  pub soil : ℤ

-- those of an hour, a missing ozone as 65535
abbrev pub wholes_in : Hour → Wholes
wholes_in h = record {
  ozone = pos (ozone_number h.ozone);
  ppfd = pos h.ppfd;
  radiation = pos h.radiation;
  temperature = h.temperature;
  vpd = pos (vapour_number h.air);
  wind = pos h.wind;
  soil = pos (soil_number h.soil);
}

-- ---- two bytes each; a number that they cannot hold stands there as one that row 10 refuses in
-- every field

-- 0 to 65535
unfoldable pub natural_bytes : ℤ → ℕ
natural_bytes (pos n) = if nat_lt n 65536 then n else 65534
natural_bytes (negsuc n) = 65534

-- -32768 to 32767, in two's complement: negsuc n is -(n + 1)
unfoldable pub complement_bytes : ℤ → ℕ
complement_bytes (pos n) = if nat_lt n 32768 then n else 32767
complement_bytes (negsuc n) = if nat_lt n 32768 then 65535 - n else 32767

unfoldable pub raw_of : ℕ → ℕ → Wholes → RawHour
raw_of day hour w = record {
  day = day;
  hour = hour;
  ozone = natural_bytes w.ozone;
  ppfd = natural_bytes w.ppfd;
  radiation = natural_bytes w.radiation;
  temperature = complement_bytes w.temperature;
  air = Air.Deficit (natural_bytes w.vpd);
  wind = natural_bytes w.wind;
  soil = natural_bytes w.soil;
}
