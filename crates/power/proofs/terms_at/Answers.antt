-- `power::terms_at` makes terms that a root can be asked of.
use Rattle.power.proofs.TermLaws.{terms-asked}
use Rattle.power.proofs.terms_at.Goals as goal

pub invariant_of-result : goal.invariant_of-result
invariant_of-result c =
    let own = c.args.own in
    record { asked = terms-asked own.figures c.args.x own.fits c.requires.0 c.requires.1 }
