-- `frames::writing::put_parameters` meets its contract.
use Prim.Native.Nat.{ℕ}
use mathlib.Core.Path.{refl}
use mathlib.Core.List.{List, []}
use native.Mathlib.Omega.{arith}
use Rattle.std.proofs.Common.{rules, ◌≤◌, length}
use Rattle.frames.specs.Digits.{byte, number}
use Rattle.frames.specs.Layout.{frame_line}
use Rattle.frames.proofs.WriterLaws.{prints-set, set-next}
use Rattle.frames.proofs.writing.put_parameters.Goals as goal

abbrev four : ℕ → ℕ → ℕ → ℕ → List ℕ → List ℕ
four a b c d rest = number a (number b (number c (number d rest)))

pub returns : goal.returns
unfolding frame_line
returns c = let room : 66 ≤ length c.args.buf.now = search rules in
    let p = c.args.p in
    let first = byte 7 (four p.g_max p.f_min p.light_a p.t_min []) in
    let second =
    byte 7 (four p.g_max p.f_min p.light_a p.t_min (four p.t_opt p.t_max p.vpd_max p.vpd_min [])) in
    let third =
    byte 7
    (four p.g_max p.f_min p.light_a p.t_min
    (four p.t_opt p.t_max p.vpd_max p.vpd_min (four p.soil_max p.soil_min p.leaf p.a []))) in
    let one =
    set-next _ (byte 7 []) (four p.g_max p.f_min p.light_a p.t_min []) _ _ _ c.put_byte.ensures refl
    (omega (arith, room)) c.put_numbers.ensures in
    let two =
    set-next _ first (four p.t_opt p.t_max p.vpd_max p.vpd_min []) _ _ _ one refl
    (omega (arith, room)) c.put_numbers-2.ensures in
    let three =
    set-next _ second (four p.soil_max p.soil_min p.leaf p.a []) _ _ _ two refl
    (omega (arith, room)) c.put_numbers-3.ensures in
    prints-set _ _ _ _ refl (omega (arith, room))
    (set-next _ third (four p.e p.f1 p.f4 p.y []) _ _ _ three refl
    (omega (arith, room)) c.put_numbers-4.ensures)
