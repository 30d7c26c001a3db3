-- `part::trials::pod1_trial` meets its contract.
use Rattle.frames.specs.Answers.{outcome_of}
use mathlib.Core.Path.{sym, ap, ◌∙◌}
use Rattle.stored.specs.Reading.{no_trial}
use Rattle.part.proofs.TrialLaws.{tries-none, tries-short, tries-made}
use Rattle.part.proofs.trials.pod1_trial.Goals as goal

pub returns-in-Ok-store : goal.returns-in-Ok-store
returns-in-Ok-store c = let has = sym c.take_up.ensures.result_value ∙ ap outcome_of c.in-Ok.is in
    tries-made _ _ _ _ _ _ _ has c.try_line-made.ensures c.store.ensures.prints c.store.ensures.back
    _ _ c.in-Ok-store.is c.tried_of.ensures

pub returns-in-Err-store : goal.returns-in-Err-store
returns-in-Err-store c = let has = sym c.take_up.ensures.result_value ∙ ap outcome_of c.in-Ok.is in
    tries-short _ _ _ _ _ _ _ has c.try_line-made.ensures c.store.ensures.prints
    c.store.ensures.back _ _ c.in-Err-store.is (c.no_trial.ensures ∙ ap no_trial c.code_of.ensures)

pub returns-in-Err : goal.returns-in-Err
returns-in-Err c =
    tries-none _ _ _ _ _ _ c.take_up.ensures.result_value c.in-Err.is
    (c.no_trial-in-Err.ensures ∙ ap no_trial c.code_of-in-Err.ensures)
