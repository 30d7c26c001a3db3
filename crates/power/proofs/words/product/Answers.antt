-- `power::words::product` meets its contract.
use Rattle.std.proofs.Common.{◌∙◌}
use Rattle.power.proofs.WordLaws.{first-holds, product-is}
use Rattle.power.proofs.words.product.Goals as goal

pub returns : goal.returns
returns c =
    let t = c.times_power-n.ensures.1 1 first-holds in
    let a = c.times_power-n-2.ensures.1 _ t in
    let w = c.times_power.ensures.1 _ a in
    w.value ∙ product-is _ _ _
