-- `part::pod1_fresh` meets its contract.
use Rattle.part.proofs.CallLaws.{stores}
use Rattle.part.proofs.Cited.{part-cited}
use Rattle.part.proofs.pod1_fresh.Goals as goal

pub returns-clause-season : goal.returns-clause-season
returns-clause-season c = part-cited c.fresh.ensures.season c.fresh.ensures.filling

pub returns-clause-stores : goal.returns-clause-stores
returns-clause-stores c = let put = c.store.ensures in
    stores _ _ _ _ _ c.fresh.ensures.value put.prints put.back _ c.of_answer.ensures
