-- `frames::hour_lines::chunk` meets its contract: so many of its characters are read.
use Rattle.frames.specs.steps.HourLines.{ReadTo}
use Rattle.frames.proofs.hour_lines.chunk.Given as goal

abbrev pub invariant-loop-i : goal.invariant-loop-i
invariant-loop-i l = ReadTo l.line l.from l.i l.digits l.bytes
