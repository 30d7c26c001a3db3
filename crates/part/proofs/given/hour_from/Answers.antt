-- `part::given::hour_from` meets its contract.
use borrow.Author.Rules.{rules}
use Rattle.frames.proofs.SignedLaws.{plain}
use Rattle.part.proofs.given.hour_from.Goals as goal

pub returns : goal.returns
returns c = let t = c.args.readings in
    rw (c.ozone_of.ensures, c.soil_from.ensures, plain t.temperature (search rules))
