-- `power::worked_f_temp` meets its contract.
use Rattle.power.proofs.FitLaws.{fit-fits}
use Rattle.power.proofs.AnswerLaws.{holds, factor-pair, factor-unfit}
use Rattle.power.proofs.worked_f_temp.Goals as goal

pub invariant_of-fitting_f_temp : goal.invariant_of-fitting_f_temp
invariant_of-fitting_f_temp c =
    record { fits = fit-fits _ (holds c.is_fit.ensures c.if-is_fit.true) }

pub returns-then-is_fit : goal.returns-then-is_fit
returns-then-is_fit c = record {
  value = (factor-pair _ _ c.is_fit.ensures c.if-is_fit.true c.fitting_f_temp.ensures).0;
  sound = (factor-pair _ _ c.is_fit.ensures c.if-is_fit.true c.fitting_f_temp.ensures).1;
}

pub returns : goal.returns
returns c = record {
  value = (factor-unfit _ _ c.is_fit.ensures c.if-is_fit.false).0;
  sound = (factor-unfit _ _ c.is_fit.ensures c.if-is_fit.false).1;
}
