-- `part::leaving::leave` meets its contract.
use Rattle.part.proofs.CallLaws.{accepted-leaves, refused-leaves}
use Rattle.part.proofs.leaving.leave.Goals as goal

pub returns-in-Ok : goal.returns-in-Ok
returns-in-Ok c =
    accepted-leaves _ _ (c.requires _ c.in-Ok.is) _ _ _ _ c.in-Ok.is c.store.ensures.prints
    c.store.ensures.back c.of_answer.ensures

pub returns-in-Err : goal.returns-in-Err
returns-in-Err c = refused-leaves _ _ _ _ c.in-Err.is c.code_of.ensures
