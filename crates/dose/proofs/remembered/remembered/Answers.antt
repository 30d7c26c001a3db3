-- `dose::remembered::remembered` meets its contract.
use Rattle.std.proofs.Common.{refl, arith}
use Rattle.dose.proofs.RememberedLaws.{read-back, given}
use Rattle.dose.proofs.remembered.remembered.Goals as goal

pub returns-then-found-ne0-clause-is : goal.returns-then-found-ne0-clause-is
returns-then-found-ne0-clause-is c =
    read-back _ _ c.requires.memory (omega arith) refl (omega (arith, c.if-found-ne0.true))

pub returns-clause-kept : goal.returns-clause-kept
returns-clause-kept c = given _ c.requires.memory (omega arith) c.worked-warm.ensures
