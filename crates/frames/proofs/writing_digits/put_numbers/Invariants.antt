-- `frames::writing_digits::put_numbers` meets its contract.
use Rattle.std.specs.Prelude.{◌≡◌, [], length, take}
use Rattle.std.proofs.lemmas.List.Edits.{sets}
use Rattle.frames.specs.steps.Writer.{numbers}
use Rattle.frames.proofs.writing_digits.put_numbers.Given as goal

abbrev pub invariant-loop-i : goal.invariant-loop-i
invariant-loop-i l =
    (l.buf ≡ sets l.initial.buf 0 (numbers (take l.i l.ns) []))
    × (length l.buf ≡ length l.initial.buf)
