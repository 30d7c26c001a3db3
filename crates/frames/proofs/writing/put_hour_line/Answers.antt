-- `frames::writing::put_hour_line` meets its contract.
use mathlib.Core.Path.{refl}
use Rattle.std.proofs.Common.{rules, ◌≤◌, length}
use Rattle.frames.proofs.WriterLaws.{prints-set}
use Rattle.frames.proofs.writing.put_hour_line.Goals as goal

pub returns : goal.returns
returns c = let room : 36 ≤ length c.args.buf.now = search rules in
    prints-set _ _ _ _ refl room c.put_hour_fields.ensures
