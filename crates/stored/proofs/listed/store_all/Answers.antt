-- `stored::listed::store_all` meets its contract.
use native.Mathlib.Omega.{arith}
use Rattle.stored.proofs.StoringLaws.{stores-none, stores-step}
use Rattle.stored.proofs.listed.store_all.Goals as goal

pub loop-i-init : goal.loop-i-init
loop-i-init c = stores-none _

pub loop-i-preserved : goal.loop-i-preserved
loop-i-preserved c =
    stores-step c.args.accounts.now c.loop-i.i _ c.args.bytes.now c.loop-i.bytes _ _ (omega arith)
    (omega arith) c.loop-i.invariant c.store.ensures.prints c.store.ensures.back
