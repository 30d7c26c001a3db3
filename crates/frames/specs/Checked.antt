-- What reading a frame answers ("Frames"): a record that its own rows let pass, or a refusal.
use Rattle.std.specs.Prelude.{Result, Ok, Err}
use Rattle.frames.specs.declared.records.Record.{Record}
use Rattle.frames.specs.declared.records.Refusal.{Refusal}
use Rattle.frames.specs.declared.passed.Checked.{Checked}
use Rattle.frames.specs.Answers.{Outcome, accepted, refused, row_of}

-- a record that its own rows let pass, or the row that refuses it
abbrev pub checked_as : Result Checked Refusal → Outcome Record
checked_as (Ok c) = accepted c.record
checked_as (Err w) = refused (row_of w)
