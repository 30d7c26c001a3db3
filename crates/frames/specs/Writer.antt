-- The writer ("Frames"): rows 5 to 8, 10, 17, 24 or 25, then 12; the line at the buffer's front and
-- the bytes past it untouched; on a refusal all of it.
use Rattle.std.specs.Prelude.{ℕ, List}
use Rattle.frames.specs.Answers.{Outcome, accepted, onward}
use Rattle.frames.specs.Buffer.{put_of}
use Rattle.frames.specs.Ranges.{checked}
use Rattle.frames.specs.declared.records.Record.{Record}
use Rattle.frames.specs.Layout.{frame_line}

-- a record's line, unless one of rows 5 to 8, 10, 17, 24 and 25 refuses it
unfoldable pub text_of : Record → Outcome (List ℕ)
text_of r = onward (checked r) (λ _. accepted (frame_line r))

-- what writing it answers, for a buffer of `room` bytes: those rows, then row 12
unfoldable pub write_of : Record → ℕ → Outcome ℕ
write_of r room = onward (text_of r) (λ t. put_of t room)
