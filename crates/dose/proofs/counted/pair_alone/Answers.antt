-- `dose::counted::pair_alone` meets its contract.
use Rattle.dose.proofs.SmallLaws.{pair-small}
use Rattle.dose.proofs.counted.pair_alone.Goals as goal

pub returns-clause-small : goal.returns-clause-small
returns-clause-small c =
    let given = c.args.dosing in
    let h = c.args.passed in
    pair-small given.stand given.sound given.few h.hour h.passes _ c.pair_by.ensures.is
