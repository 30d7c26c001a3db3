-- "Hours without ozone", and the ways to fill them.
use Rattle.std.specs.Prelude.{ℕ, ◌≤◌, ◌≡◌, Bool, true, false, List, [], ◌∷◌, Option, Some, None}
use Rattle.frames.specs.declared.records.Hour.{Hour}

abbrev pub is_missing : Option ℕ → Bool
is_missing (Some n) = false
is_missing None = true

-- tenths of ppb; a number in the place of a missing reading
abbrev pub tenths_or : ℕ → Option ℕ → ℕ
tenths_or m (Some n) = n
tenths_or m None = m

-- the same hour with another reading of ozone
abbrev pub with_ozone : ℕ → Hour → Hour
with_ozone n h = record {
  day = h.day;
  hour = h.hour;
  ozone = Some n;
  ppfd = h.ppfd;
  radiation = h.radiation;
  temperature = h.temperature;
  air = h.air;
  wind = h.wind;
  soil = h.soil;
}

-- the hour with its ozone, where that is missing with a number in its place
abbrev pub read_as : ℕ → Hour → Hour
read_as m h = with_ozone (tenths_or m h.ozone) h

abbrev pub all_read_as : ℕ → List Hour → List Hour
all_read_as m [] = []
all_read_as m (h ∷ hs) = read_as m h ∷ all_read_as m hs

-- ---- fillings

-- a filling of an hour agrees with it but for a missing ozone, which is any number up to the
-- ceiling
pub data Fills (ceiling : ℕ) (h : Hour) : Hour → Type 0 where
  given : is_missing h.ozone ≡ false → Fills ceiling h h
  filled : is_missing h.ozone ≡ true → (n : ℕ) → n ≤ ceiling → Fills ceiling h (with_ozone n h)

-- hour by hour
pub data AllFill (ceiling : ℕ) : List Hour → List Hour → Type 0 where
  none : AllFill ceiling [] []
  hours :
      {h f : Hour} {hs fs : List Hour} → Fills ceiling h f → AllFill ceiling hs fs →
      AllFill ceiling (h ∷ hs) (f ∷ fs)
