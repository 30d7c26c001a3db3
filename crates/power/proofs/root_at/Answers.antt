-- `power::root_at` meets its contract.
use Rattle.std.proofs.Common.{arith}
use Rattle.power.proofs.TermLaws.{root_is}
use Rattle.power.proofs.root_at.Goals as goal

pub returns : goal.returns
returns c = (root_is c.args.own.fits c.terms_at.ensures c.root.ensures, omega arith)
