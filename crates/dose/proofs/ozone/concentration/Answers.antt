-- `dose::ozone::concentration` meets its contract.
use Rattle.std.proofs.Common.{sym, ap, ◌∙◌}
use Rattle.frames.specs.Ozone.{tenths_or, with_ozone}
use Rattle.dose_spec.specs.Pair.{concentration_low}
use Rattle.dose_spec.proofs.ConcentrationLaws.{concentration_low-none}
use Rattle.dose.proofs.ozone.concentration.Goals as goal

pub returns-in-None-clause-lower : goal.returns-in-None-clause-lower
returns-in-None-clause-lower c =
    sym (concentration_low-none c.args.h)
    ∙ ap (λ n. concentration_low (with_ozone n c.args.h))
    (sym (ap (λ o. tenths_or 0 o) c.in-None.is))
