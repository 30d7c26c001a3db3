-- `frames::digits::line_of_length` meets its contract: what is read and what is left of the line
-- have the answer of the whole.
use mathlib.Core.Path.{◌≡◌}
use mathlib.Core.Bool.{◌&&◌}
use lib.ListN.{drop}
use Rattle.frames.specs.Digits.{all_digits}
use Rattle.frames.proofs.ValueLaws.{ReadValues}
use Rattle.frames.proofs.digits.line_of_length.Given as goal

abbrev pub invariant-loop-i : goal.invariant-loop-i
invariant-loop-i l =
    ((l.digits && all_digits (drop l.i l.s)) ≡ all_digits l.s) × ReadValues l.s l.i l.values
