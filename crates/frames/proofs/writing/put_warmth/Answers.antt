-- `frames::writing::put_warmth` meets its contract.
use mathlib.Core.Path.{refl}
use mathlib.Core.List.{[]}
use native.Mathlib.Omega.{arith}
use Rattle.std.proofs.Common.{rules, ◌≤◌, length}
use Rattle.frames.specs.Digits.{byte, number}
use Rattle.frames.specs.Layout.{frame_line}
use Rattle.frames.proofs.WriterLaws.{prints-set, set-next}
use Rattle.frames.proofs.writing.put_warmth.Goals as goal

pub returns : goal.returns
unfolding frame_line
returns c = let room : 14 ≤ length c.args.buf.now = search rules in
    let w = c.args.w in
    let two =
    set-next _ (byte 8 []) (number w.rise (number w.fall [])) _ _ _ c.put_byte.ensures refl
    (omega (arith, room)) c.put_numbers.ensures in
    prints-set _ _ _ _ refl (omega (arith, room))
    (set-next _ (byte 8 (number w.rise (number w.fall []))) (number w.end []) _ _ _ two refl
    (omega (arith, room)) c.put_number.ensures)
