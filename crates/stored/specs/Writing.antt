-- What writing gives, as numbers: the bytes written, or the code of a refusal and 0.
use Rattle.std.specs.Prelude.{ℕ}
use Rattle.frames.specs.Answers.{Outcome, accepted, refused}
use Rattle.stored.specs.declared.answers.Printed.{Printed}
use Rattle.stored.specs.Code.{code_of_row}

abbrev pub printed_of : Outcome ℕ → Printed
printed_of (accepted n) = record { code = 0; length = n }
printed_of (refused r) = record { code = code_of_row r; length = 0 }
