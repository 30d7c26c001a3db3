-- `dose::remembered::f_temp_at` meets its contract.
use Rattle.std.proofs.Common.{sym, ◌∙◌}
use Rattle.power.proofs.FitLaws.{sound-fits}
use Rattle.dose.proofs.remembered.f_temp_at.Goals as goal

pub invariant_of-fitting_f_temp : goal.invariant_of-fitting_f_temp
invariant_of-fitting_f_temp c = record { fits = sound-fits _ c.args.dosing.sound }

pub returns-in-Tabled : goal.returns-in-Tabled
returns-in-Tabled c =
    c.tabled_f_temp.ensures.pair ∙ sym (c.args.dosing.tabled.pair _ c.in-Tabled.is _)
