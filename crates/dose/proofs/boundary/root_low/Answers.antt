-- `dose::boundary::root_low` meets its contract.
use Rattle.dose_spec.specs.Pair.{root_low}
use Rattle.exact.proofs.SquareLaws.{square_root-is}
use Rattle.dose.proofs.boundary.root_low.Goals as goal

pub returns-then-has_root : goal.returns-then-has_root
unfolding root_low
returns-then-has_root c = rw c.max-w.ensures at (c.has_root.ensures c.if-has_root.true)

pub returns : goal.returns
unfolding root_low
returns c =
    rw c.max-w.ensures
    at (square_root-is _ _ c.isqrt.ensures.square_le c.isqrt.ensures.next_square_gt)
