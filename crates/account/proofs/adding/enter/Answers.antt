-- `account::adding::enter` meets its contract: a record that is read can be added, and the account
-- that follows is possible.
use mathlib.Core.Path.{ap, ◌∙◌}
use Rattle.account_spec.specs.Account.{impossible}
use Rattle.account_spec.proofs.NextLaws.{entered-on}
use Rattle.account_spec.proofs.TurnLaws.{frame-dosable}
use Rattle.account.proofs.adding.enter.Goals as goal

pub entered-requires : goal.entered-requires
entered-requires c =
    let held = c.args.held in frame-dosable held.account held.possible c.requires.0 _ c.requires.1

pub invariant_of-result : goal.invariant_of-result
invariant_of-result c =
    let held = c.args.held in
    let next = entered-on held.account held.possible c.requires.0 _ c.requires.1 in
    record { possible = ap impossible c.entered.ensures ∙ next }
