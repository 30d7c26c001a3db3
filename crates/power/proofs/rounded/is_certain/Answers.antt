-- `power::rounded::is_certain` meets its contract.
use Rattle.std.proofs.Common.{◌≤◌, mul-le-mul, mul-pos, arith}
use Rattle.power.proofs.CertainLaws.{uncertain, decided-certain}
use Rattle.power.proofs.rounded.is_certain.Goals as goal

pub overflow_mul-t : goal.overflow_mul-t
overflow_mul-t c = let pre = c.requires in
    let rise : c.args.s.rise ≤ 2200 = omega arith in
    record { fits = omega (arith, mul-le-mul pre.1 rise) }

pub powers_of-l-requires : goal.powers_of-l-requires
powers_of-l-requires c = (mul-pos c.requires.0 (omega arith), omega arith, omega arith, omega arith)

pub returns : goal.returns
returns c = decided-certain _ _ c.powers_of-l.ensures c.powers_of-r.ensures c.decides.ensures

pub returns-then-t-lt22 : goal.returns-then-t-lt22
returns-then-t-lt22 c = uncertain _ _
