-- What the worst stretch gives, as numbers: found 1, the sum and its first day; zeros where there
-- is none yet; or the code of a refusal with the text's line, and zeros.
use Rattle.std.specs.Prelude.{ℕ}
use Rattle.frames.specs.Answers.{Outcome, accepted, refused}
use Rattle.stretch.specs.Worst.{Worst, found, none_yet, stopped_by}
use Rattle.stored.specs.declared.stretching.StretchNumbers.{StretchNumbers}
use Rattle.stored.specs.Code.{code_of_row}

abbrev pub no_stretch : ℕ → ℕ → StretchNumbers
no_stretch code line = record { code = code; found = 0; line = line; sum = 0; day = 0 }

-- a line that ends the text: the row alone is the code, as in the report
abbrev pub stretch_of : Outcome Worst → StretchNumbers
stretch_of (accepted (found sum day)) =
    record { code = 0; found = 1; line = 0; sum = sum; day = day }
stretch_of (accepted none_yet) = no_stretch 0 0
stretch_of (accepted (stopped_by row line)) = no_stretch row.0 line
stretch_of (refused r) = no_stretch (code_of_row r) 0
