-- The rows of an hour that look at no reading: 13, 4, 15 and 9. An hour of floats is tested by row
-- 26 between these and row 18 ("Loggers that hold floats").
use Rattle.std.specs.Prelude.{not}
use Rattle.frames.specs.declared.records.Raw.{Raw}
use Rattle.frames.specs.declared.records.RawHour.{RawHour}
use Rattle.frames.specs.Answers.{Outcome, accepted, row}
use Rattle.account_spec.specs.declared.Account.{Account}
use Rattle.account_spec.specs.declared.State.{State}
use Rattle.account_spec.specs.HourKinds.{is_mixed}
use Rattle.account_spec.specs.Account.{impossible}
use Rattle.account_spec.specs.Rules.{out_of_turn, is_due, state_of}

unfoldable pub timely_in : State → RawHour → Outcome Unit
timely_in s raw =
    row 4 (out_of_turn s (Raw.Hour raw))
    (row 15 (is_mixed s.kind raw.air)
    (row 9 (not (is_due s raw))
    (accepted tt)))

unfoldable pub timely_of : Account → RawHour → Outcome Unit
timely_of a raw = row 13 (impossible a) (timely_in (state_of a) raw)
