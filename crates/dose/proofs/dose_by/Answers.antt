-- `dose::dose_by` meets its contract.
use Rattle.std.proofs.Common.{◌≡◌, sym, ap, ◌∙◌}
use Rattle.frames.specs.Ranges.{hour_checked}
use Rattle.frames.specs.Answers.{accepted, outcome_of}
use Rattle.dose_spec.specs.HourDose.{soil_unfit}
use Rattle.dose_spec.proofs.HourDoseLaws.{fit-checked}
use Rattle.dose.proofs.dose_by.Goals as goal

pub invariant_of-pair_alone : goal.invariant_of-pair_alone
invariant_of-pair_alone c = let stand = c.args.dosing.stand in
    let h = c.args.h in
    let range : outcome_of c.check_hour.result
    ≡ hour_checked (soil_unfit stand.figures.measure h.soil) h =
    rw c.soil_unfit.ensures at c.check_hour.ensures in
    let passed : hour_checked (soil_unfit stand.figures.measure h.soil) h ≡ accepted tt =
    sym range ∙ ap outcome_of c.in_ok-check_hour.was in
    record { passes = fit-checked stand.figures.measure h passed }
