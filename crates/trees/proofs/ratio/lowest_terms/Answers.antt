-- `trees::ratio::lowest_terms` meets its contract: p·rise and r are q·fall, and no smaller q leaves
-- 0.
use Rattle.std.proofs.Common.{mod-lt, div-add-mod', div-le_self, arith}
use Rattle.trees.proofs.LowestLaws.{rest-next, rest-carried, none-next, lowest-small}
use Rattle.trees.proofs.LowestLaws.{lowest-large-p, lowest-large-q}
use Rattle.trees.proofs.ratio.lowest_terms.Goals as goal
use Rattle.trees.proofs.ratio.lowest_terms.Goals.{then-rise-r, else-rise-r}

pub loop-q-init : goal.loop-q-init
loop-q-init c = let a = c.args in
    let each = div-le_self a.fall a.rise in (
      omega arith,
      omega (arith, div-add-mod' a.fall a.rise),
      mod-lt a.fall (omega arith),
      λ r s h e. h,
    )

pub overflow_add-p : goal.overflow_add-p
overflow_add-p c = let a = c.args in let each = div-le_self a.fall a.rise in omega arith

pub overflow_add-r : goal.overflow_add-r
overflow_add-r c =
    let a = c.args in let rest = mod-lt a.fall {m = a.rise} (omega arith) in omega arith

pub overflow_add-p-then-rise-r : goal.overflow_add-p-then-rise-r
overflow_add-p-then-rise-r c = let a = c.args in let each = div-le_self a.fall a.rise in omega arith

pub loop-q-preserved : goal.loop-q-preserved
loop-q-preserved c = let a = c.args in
    let each = div-le_self a.fall a.rise in
    let rest = mod-lt a.fall {m = a.rise} (omega arith) in
    let none =
    none-next a.rise a.fall c.loop-q.p c.loop-q.q c.loop-q.r
    (omega arith) c.loop-q.invariant.2 c.loop-q.invariant.1 c.loop-q.invariant.3 in
    elim c.if-rise-r.branch [
      | then-rise-r w ↦ (
        omega arith,
        rw (w.p-is, w.r-is)
            (rest-carried a.rise a.fall c.loop-q.p c.loop-q.q c.loop-q.r c.loop-q.invariant.1
            (omega arith)),
        omega arith,
        none,
      )
      | else-rise-r w ↦ (
        omega arith,
        rw (w.p-is, w.r-is)
            (rest-next a.rise a.fall c.loop-q.p c.loop-q.q c.loop-q.r c.loop-q.invariant.1),
        omega arith,
        none,
      )
    ]

pub returns-then-p-le-GREATEST_POWER : goal.returns-then-p-le-GREATEST_POWER
returns-then-p-le-GREATEST_POWER c = let a = c.args in
    lowest-small a.rise a.fall c.loop-q.p c.loop-q.q (omega arith)
    (record { positive = omega arith; ratio = omega arith; least = c.loop-q.invariant.3 })
    (omega arith) (omega arith)

pub returns-then-r-eq0 : goal.returns-then-r-eq0
returns-then-r-eq0 c = let a = c.args in
    lowest-large-p a.rise a.fall c.loop-q.p c.loop-q.q (omega arith)
    (record { positive = omega arith; ratio = omega arith; least = c.loop-q.invariant.3 })
    (omega arith)

pub returns : goal.returns
returns c =
    lowest-large-q c.args.rise c.args.fall (omega arith)
    (λ r s h e. omega (arith, c.loop-q.invariant.3 r s h e))
