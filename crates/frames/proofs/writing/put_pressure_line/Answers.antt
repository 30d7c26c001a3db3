-- `frames::writing::put_pressure_line` meets its contract.
use mathlib.Core.Path.{refl}
use mathlib.Core.List.{[], ◌∷◌}
use native.Mathlib.Omega.{arith}
use Rattle.std.proofs.Common.{rules, ◌≤◌, length}
use Rattle.frames.specs.Digits.{number}
use Rattle.frames.specs.Kinds.{one, widths_of}
use Rattle.frames.specs.Fields.{digits_of}
use Rattle.frames.specs.Layout.{air_kind, hour_numbers}
use Rattle.frames.proofs.WriterLaws.{prints-set, set-next}
use Rattle.frames.proofs.writing.put_pressure_line.Goals as goal

pub returns : goal.returns
returns c = let room : 40 ≤ length c.args.buf.now = search rules in
    let h = c.args.h in
    let fields = digits_of (one ∷ widths_of 2) (air_kind h.air ∷ hour_numbers h) in
    prints-set _ _ _ _ refl (omega (arith, room))
    (set-next _ fields (number c.args.pressure []) _ _ _ c.put_hour_fields.ensures refl
    (omega (arith, room)) c.put_number.ensures)
