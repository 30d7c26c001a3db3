-- `part::trials::taken` meets its contract.
use borrow.Author.Rules.{rules}
use mathlib.Core.Path.{◌≡◌, ap, ◌∙◌}
use Rattle.std.specs.Prelude.{Err}
use Rattle.frames.specs.Answers.{outcome_of}
use Rattle.part.proofs.TrialLaws.{taken_none, taken-trial}
use Rattle.part.proofs.trials.taken.Goals as goal

pub returns-in_err-t : goal.returns-in_err-t
returns-in_err-t c =
    let e : c.from_residual.result ≡ Err c.in_err-t.field-0.0 = search rules in
    ap outcome_of e ∙ taken_none _ _ _ c.take_up.ensures.holds _ c.in_err-t.was

pub returns : goal.returns
returns c =
    c.next_by.ensures
    ∙ taken-trial _ _ _ c.take_up.ensures.holds _ c.in_ok-t.was _ c.take.ensures.takes_trial
