-- `trial::try_line` meets its contract: row 13 comes first.
use mathlib.Core.Path.{subst}
use Rattle.account_spec.specs.declared.Account.{Account}
use Rattle.trial.specs.Trial.{Tries}
use Rattle.trial.proofs.TryLaws.{tries-impossible}
use Rattle.trial.proofs.try_line.Goals as goal

pub returns-in_default : goal.returns-in_default
returns-in_default c = tries-impossible _ _ (rw c.in_default.is at c.tested.ensures)

pub returns : goal.returns
returns c =
    subst (λ (a : Account). Tries a c.args.line.now c.try_possible.result)
    (rw c.in-Some.is at c.tested.ensures) c.try_possible.ensures
