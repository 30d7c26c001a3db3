-- `dose::share::by_digits` meets its contract.
use Rattle.exact.proofs.TimesLaws.{digits-is}
use Rattle.dose.proofs.share.by_digits.Goals as goal

pub returns : goal.returns
returns c =
    digits-is c.args.part.n c.args.by.x.num c.args.by.x.den 32768 c.args.more c.args.by.factor.whole
