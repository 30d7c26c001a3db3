-- `stand::tally::of`: the tally and what is left to see make the whole list's tally.
use Rattle.frames.specs.Answers.{outcome_of}
use Rattle.std.proofs.Common.{◌≡◌, drop, length}
use Rattle.stand.specs.steps.ListSteps.{tallied_as, tally_start, seen_all}
use Rattle.stand.proofs.tally.of.Given as goal

abbrev pub invariant-loop-account : goal.invariant-loop-account
invariant-loop-account l =
    seen_all (outcome_of l.parsed) (tallied_as l.seen) (drop l.account-index l.accounts)
    ≡ seen_all (outcome_of l.parsed) (tally_start (length l.accounts)) l.accounts
