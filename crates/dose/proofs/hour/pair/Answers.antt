-- `dose::hour::pair` meets its contract.
use Rattle.std.proofs.Common.{◌≡◌, ℕ, ◌+◌, ◌≤◌, arith}
use Rattle.dose_spec.specs.Pair.{root_low, most_concentration}
use Rattle.dose_spec.proofs.BoundaryLaws.{root_low-200}
use Rattle.dose_spec.proofs.QuotientSizes.{quotient-most}
use Rattle.dose.specs.declared.given.Dosing.{Dosing}
use Rattle.dose.proofs.hour.pair.Goals as goal

-- the root, and one more
root-most :
    (d : Dosing) (wind r : ℕ) → r ≡ root_low d.stand.figures.leaf wind → r + 1 ≤ 14142136
root-most d wind r is = omega (arith, is, root_low-200 d.stand.figures.leaf wind d.sound.leaf.1)

pub overflow_add-r : goal.overflow_add-r
overflow_add-r c = omega (arith, root-most c.args.dosing _ _ c.root_low-r.ensures)

pub quotient_low-lower-requires : goal.quotient_low-lower-requires
quotient_low-lower-requires c =
    let root = root-most c.args.dosing _ _ c.root_low-r.ensures in
    (c.args.dosing.sound.g_max.1, c.requires.concentration.0, c.requires.share.0, root)

pub quotient_up-upper-requires : goal.quotient_up-upper-requires
quotient_up-upper-requires c =
    let root = root-most c.args.dosing _ _ c.root_low-r.ensures in (
      c.args.dosing.sound.g_max.1,
      c.requires.concentration.1,
      c.requires.share.1,
      omega (arith, root),
    )

pub overflow_add-upper : goal.overflow_add-upper
overflow_add-upper c = let a = c.args in
    let g_max = a.dosing.stand.figures.g_max in
    let root = c.root_low-r.result in
    let most = quotient-most most_concentration 2603 g_max a.c.upper a.s.upper root 0 in
    let within = most (omega arith) c.requires.concentration.1 c.requires.share.1 in
    omega (arith, c.quotient_up-upper.ensures, within, a.dosing.sound.g_max.1)
