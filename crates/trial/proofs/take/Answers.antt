-- `trial::take` meets its contract.
use mathlib.Core.Path.{◌≡◌, sym, ◌∙◌}
use mathlib.Core.Bool.{true, false}
use borrow.Author.Rules.{rules}
use borrow.Author.Tests.{not-true, not-false}
use Rattle.account_spec.specs.Account.{impossible}
use Rattle.trial.specs.Same.{is_same}
use Rattle.trial.proofs.TakeLaws.{takes-impossible, takes-other, takes-refused}
use Rattle.trial.proofs.TakeLaws.{takes-next-impossible, takes-next}
use Rattle.trial.proofs.take.Goals as goal

pub returns-then-impossible-clause-takes_trial : goal.returns-then-impossible-clause-takes_trial
returns-then-impossible-clause-takes_trial c =
    takes-impossible _ _ (sym c.impossible.ensures ∙ c.if-impossible.true)

pub returns-then-not-same-clause-takes_trial : goal.returns-then-not-same-clause-takes_trial
returns-then-not-same-clause-takes_trial c =
    takes-other _ _ (sym c.impossible.ensures ∙ c.if-impossible.false)
    (sym c.same.ensures ∙ not-true _ c.if-not-same.true-raw)

pub returns-in-Ok-clause-takes_trial : goal.returns-in-Ok-clause-takes_trial
returns-in-Ok-clause-takes_trial c =
    let same : is_same c.args.account c.args.trial.tried ≡ true =
    sym c.same.ensures ∙ not-false _ c.if-not-same.false-raw in
    let out : impossible c.in-Ok.next ≡ true = search rules in
    takes-next-impossible _ _
    (sym c.impossible.ensures ∙ c.if-impossible.false) same _ c.in-Ok.is out

pub returns-in-Ok-2-clause-takes_trial : goal.returns-in-Ok-2-clause-takes_trial
returns-in-Ok-2-clause-takes_trial c =
    let same : is_same c.args.account c.args.trial.tried ≡ true =
    sym c.same.ensures ∙ not-false _ c.if-not-same.false-raw in
    let possible : impossible c.in-Ok.next ≡ false = search rules in
    let next : c.in-Ok.next ≡ c.in-Ok-2.next = cc in
    takes-next _ _ (sym c.impossible.ensures ∙ c.if-impossible.false) same _ c.in-Ok-2.is
    (rw next at possible)

pub returns-in-Err-clause-takes_trial : goal.returns-in-Err-clause-takes_trial
returns-in-Err-clause-takes_trial c =
    let same : is_same c.args.account c.args.trial.tried ≡ true =
    sym c.same.ensures ∙ not-false _ c.if-not-same.false-raw in
    takes-refused _ _ (sym c.impossible.ensures ∙ c.if-impossible.false) same _ _ c.in-Err.is
