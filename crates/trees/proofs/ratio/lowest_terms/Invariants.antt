-- `trees::ratio::lowest_terms` meets its contract: p·rise and r are q·fall, and no smaller q leaves
-- 0.
use Rattle.std.proofs.Common.{◌≡◌, ◌+◌, ◌*◌, ◌<◌, ◌≤◌}
use Rattle.trees.proofs.LowestLaws.{NoneBelow}
use Rattle.trees.proofs.ratio.lowest_terms.Given as goal

abbrev pub invariant-loop-q : goal.invariant-loop-q
invariant-loop-q l =
    (l.p ≤ l.q * 65536) × (l.p * l.rise + l.r ≡ l.q * l.fall) × (l.r < l.rise)
    × NoneBelow l.rise l.fall l.q
