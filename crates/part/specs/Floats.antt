-- An hour of floats to the account that stands in bytes ("Loggers that hold floats").
use Rattle.std.specs.Prelude.{ℕ, ◌≡◌, List}
use Rattle.frames.specs.declared.records.Hour.{Hour}
use Rattle.frames.specs.declared.records.Record.{Record}
use Rattle.frames.specs.Answers.{Outcome, accepted, onward}
use Rattle.frames.specs.Ranges.{checked}
use Rattle.frames.specs.Layout.{air_kind, frame_line}
use Rattle.frames.specs.RoundTrip.{InWidth}
use Rattle.account_spec.specs.declared.Account.{Account}
use Rattle.floats.specs.declared.FloatReadings.{FloatReadings}
use Rattle.floats.specs.Numbers.{wholes_in}
use Rattle.floats.specs.Feeding.{feed_floats_of}
use Rattle.floats.specs.Promise.{AreWhole}
use Rattle.stored.specs.Layout.{take_up_of}
use Rattle.part.specs.Calls.{LeavesBytes, FeedsBytes}

unfoldable pub floats_fed_in : List ℕ → ℕ → ℕ → FloatReadings → Outcome Account
floats_fed_in before day hour readings =
    onward (take_up_of before) (λ a. feed_floats_of a day hour readings)

abbrev pub FloatsBytes : List ℕ → ℕ → ℕ → FloatReadings → ℕ → List ℕ → Type 0
FloatsBytes before day hour readings answer after =
    LeavesBytes before (floats_fed_in before day hour readings) answer after

pub record FloatBytesPromise : Type 0 where
  -- the whole numbers of an hour, all in range or ozone missing: `pod1_feed` of the kind 02 line
  -- that says them, so that the season's promise ("The book") speaks of it
  pub line :
      (before : List ℕ) (h : Hour) (r : FloatReadings) (answer : ℕ) (after : List ℕ) →
      AreWhole r (wholes_in h) → air_kind h.air ≡ 2 → InWidth (Record.Hour h) →
      checked (Record.Hour h) ≡ accepted tt → FloatsBytes before h.day h.hour r answer after →
      FeedsBytes before (frame_line (Record.Hour h)) answer after
