-- What reading a line as an hour of a kind, 02, 04 or 05, gives ("Frames"): the hour of a line of
-- that kind, else nothing.
use Rattle.std.specs.Prelude.{ℕ, Option, Some, None, ◌==◌, if◌then◌else◌}
use Rattle.frames.specs.declared.records.RawHour.{RawHour}
use Rattle.frames.specs.Answers.{Outcome, accepted, refused}
use Rattle.frames.specs.declared.records.Raw.{Raw}
use Rattle.frames.specs.Layout.{air_kind}

-- of what rows 1 to 3 make of the line
unfoldable pub hour_read_of : ℕ → Outcome Raw → Option RawHour
hour_read_of kind (accepted (Raw.Hour raw)) = if air_kind raw.air == kind then Some raw else None
hour_read_of kind (accepted (Raw.Header h)) = None
hour_read_of kind (accepted (Raw.End e)) = None
hour_read_of kind (accepted (Raw.Ceiling c)) = None
hour_read_of kind (accepted (Raw.Parameters p)) = None
hour_read_of kind (accepted (Raw.Warmth w)) = None
hour_read_of kind (refused r) = None
