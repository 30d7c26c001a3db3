-- `power::root::search` meets its contract: what passes stays at or below the root, what does not
-- above it.
use Rattle.std.proofs.Common.{◌-◌, ◌<◌, ◌≤◌}
use Rattle.power.specs.steps.Power.{left, right, IsInterior}
use Rattle.power.proofs.root.search.Given as goal

abbrev pub invariant-loop-high : goal.invariant-loop-high
invariant-loop-high l =
    (l.low < l.high) × (l.high ≤ 1000000001) × (0 < l.step) × IsInterior l.low l.high l.probe
    × (left l.s l.low ≤ right l.s) × (right l.s < left l.s l.high)

abbrev pub decreases-loop-high : goal.decreases-loop-high
decreases-loop-high l = l.high - l.low
