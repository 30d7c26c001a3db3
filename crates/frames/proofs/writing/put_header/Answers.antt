-- `frames::writing::put_header` meets its contract.
use mathlib.Core.Path.{refl}
use mathlib.Core.List.{[]}
use native.Mathlib.Omega.{arith}
use Rattle.std.proofs.Common.{rules, ◌≤◌, length}
use Rattle.frames.specs.Digits.{byte, number}
use Rattle.frames.specs.Layout.{frame_line}
use Rattle.frames.proofs.WriterLaws.{prints-set, set-next}
use Rattle.frames.proofs.writing.put_header.Goals as goal

pub returns : goal.returns
unfolding frame_line
returns c = let room : 20 ≤ length c.args.buf.now = search rules in
    let h = c.args.h in
    let tree =
    set-next _ (byte 1 []) (byte h.tree []) _ _ _ c.put_byte.ensures refl
    (omega (arith, room)) c.put_byte-2.ensures in
    prints-set _ _ _ _ refl (omega (arith, room))
    (set-next _ (byte 1 (byte h.tree []))
    (number h.days (number h.first (number h.last (number h.level [])))) _ _ _ tree refl
    (omega (arith, room)) c.put_numbers.ensures)
