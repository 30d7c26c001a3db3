-- `power::rounded::whole` meets its contract.
use Rattle.std.proofs.Common.{arith}
use Rattle.power.proofs.RoundedLaws.{zeros-lt, whole-near}
use Rattle.power.proofs.rounded.whole.Goals as goal

pub overflow_cast-result : goal.overflow_cast-result
overflow_cast-result c =
    record { fits = omega (arith, zeros-lt c.args.c (omega arith) (omega arith)) }

pub overflow_shl-result : goal.overflow_shl-result
overflow_shl-result c = zeros-lt c.args.c (omega arith) (omega arith)

pub overflow_cast-result-2 : goal.overflow_cast-result-2
overflow_cast-result-2 c =
    record { fits = omega (arith, zeros-lt c.args.c (omega arith) (omega arith)) }

pub overflow_sub-result : goal.overflow_sub-result
overflow_sub-result c = omega (arith, zeros-lt c.args.c (omega arith) (omega arith))

pub returns : goal.returns
returns c = let lt = zeros-lt c.args.c (omega arith) (omega arith) in (
  whole-near c.args.c (omega arith) (omega arith),
  record { short = omega arith; positive = omega arith; exponent = omega arith },
)
