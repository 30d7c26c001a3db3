-- A run that shows the promise, by each kind of call: a header's line, the same refused as a second
-- one, an hour of floats, the next hour tried and taken, one more as a line to a list that has this
-- account alone, a reading, the account's line.
use Rattle.std.specs.Prelude.{ℕ, ◌≡◌, List, [], ◌∷◌, ◌++◌, length, drop, pos, Some, Float, codes}
use Rattle.std.specs.Float.{binary32}
use Rattle.std.specs.Float.Ieee.{of_int}
use Rattle.frames.specs.declared.records.Air.{Air}
use Rattle.frames.specs.declared.records.Header.{Header}
use Rattle.frames.specs.declared.records.Hour.{Hour}
use Rattle.frames.specs.declared.records.Record.{Record}
use Rattle.frames.specs.declared.records.Soil.{Soil}
use Rattle.frames.specs.Layout.{frame_line}
use Rattle.account_spec.specs.Account.{fresh_account}
use Rattle.floats.specs.declared.FloatReadings.{FloatReadings}
use Rattle.text_spec.specs.Lines.{line_feed}
use Rattle.stored.specs.Layout.{account_width}
use Rattle.stored.specs.Reading.{no_readout}
use Rattle.stored.specs.declared.answers.Readout.{Readout}
use Rattle.stored.specs.declared.answers.Tried.{Tried}
use Rattle.part.specs.Calls.{Stores}
use Rattle.part.specs.Told.{Told, line_told, floats_told, trial_told, take_told, list_told}
use Rattle.part.specs.Told.{reading_told, print_told, front, Calls}

-- ---- an evergreen day in the dark

abbrev pub dark_header : Header
dark_header = record { tree = 6; days = 365; first = 1; last = 1; level = 520 }

abbrev pub dark_hour : ℕ → Hour
dark_hour hour = record {
  day = 1;
  hour = hour;
  ozone = Some 500;
  ppfd = 0;
  radiation = 0;
  temperature = pos 230;
  air = Air.Deficit 1000;
  wind = 300;
  soil = Soil.Suction 1000;
}

abbrev pub float : ℕ → Float
float n = of_int binary32 (pos n)

abbrev pub dark_floats : FloatReadings
dark_floats = record {
  ozone = float 500;
  ppfd = float 0;
  radiation = float 0;
  temperature = float 230;
  vpd = float 1000;
  wind = float 300;
  soil = float 1000;
}

-- ---- what the calls tell

abbrev pub dark_reading : ℕ → Readout
dark_reading hours = record (no_readout 0) { verdict = 3; hours = hours }

-- 18 bytes
abbrev pub dark_text : List ℕ
dark_text = codes "3 0 0 0 0 0 below" ++ line_feed ∷ []

abbrev pub dark_trial : Tried
dark_trial = record { code = 0; answer = 0; reading = dark_reading 2 }

abbrev pub shown_told : (buffer paper trial alone : List ℕ) → List Told
shown_told buffer paper trial alone =
    line_told (frame_line (Record.Header dark_header)) 0
    ∷ line_told (frame_line (Record.Header dark_header)) 4
    ∷ floats_told 1 0 dark_floats 0
    ∷ trial_told (frame_line (Record.Hour (dark_hour 1))) buffer dark_trial trial
    ∷ take_told trial 0
    ∷ list_told alone (frame_line (Record.Hour (dark_hour 2))) 0
    ∷ reading_told (dark_reading 3)
    ∷ print_told paper (record { code = 0; length = 18 }) (dark_text ++ drop 18 paper)
    ∷ []

-- with any buffers that have room
pub record ShownRun (room buffer paper : List ℕ) : Type 0 where
  pub begun : List ℕ
  pub trial : List ℕ
  pub alone : List ℕ
  pub left : List ℕ
  pub one : length alone ≡ account_width
  pub stores : Stores fresh_account room 0 begun
  pub calls : Calls (front begun) (shown_told buffer paper trial alone) left
