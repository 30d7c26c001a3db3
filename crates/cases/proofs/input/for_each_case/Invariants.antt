-- `cases::input::for_each_case` is safe and ends: each turn leaves a shorter rest.
use Rattle.std.proofs.Common.{length}
use Rattle.cases.proofs.input.for_each_case.Given as goal

abbrev pub decreases-loop-head : goal.decreases-loop-head
decreases-loop-head g l = length l.rest
