-- `power::rounded::decides` meets its contract.
use Rattle.std.proofs.Common.{arith, ltb-false}
use Rattle.power.proofs.CertainLaws.{room-le, undecided, near-decides}
use Rattle.power.proofs.rounded.decides.Goals as goal

pub overflow_mul-room : goal.overflow_mul-room
overflow_mul-room c = let a = c.args in
    record { fits = omega (arith, room-le a.l.mantissa a.t a.q (omega arith)) }

pub returns : goal.returns
returns c = let a = c.args in
    near-decides a.l a.r a.t a.q (omega arith) (omega arith) (omega (arith, ltb-false))
    (omega (arith, ltb-false))

pub returns-then-l-r : goal.returns-then-l-r
returns-then-l-r c = undecided _ _ _ _

pub returns-then-above-short : goal.returns-then-above-short
returns-then-above-short c = undecided _ _ _ _
