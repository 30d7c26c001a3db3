-- `power::root::search` meets its contract: what passes stays at or below the root, what does not
-- above it.
use Rattle.std.proofs.Common.{◌≡◌, ℕ, ◌+◌, ◌<◌, sym, ◌∙◌, subst, arith, leb-false, leb-true}
use Rattle.power.specs.steps.Power.{left, right}
use Rattle.power.proofs.RootLaws.{zero-under, one-over}
use Rattle.power.proofs.root.search.Goals as goal

pub loop-high-init : goal.loop-high-init
loop-high-init c = (
  omega arith,
  omega arith,
  omega arith,
  record { above = λ h. omega arith; below = λ h. omega arith },
  zero-under _ c.args.s.asked.q_in.0,
  one-over c.args.s,
)

pub next-probe-requires : goal.next-probe-requires
next-probe-requires c =
    (c.loop-high.invariant.3.below (omega arith), c.loop-high.invariant.1, c.loop-high.invariant.2)

pub loop-high-smaller-then-passes : goal.loop-high-smaller-then-passes
loop-high-smaller-then-passes c = omega (
  arith,
  c.loop-high.invariant.3.above (omega arith),
  c.loop-high.invariant.3.below (omega arith),
)

pub loop-high-preserved-then-passes : goal.loop-high-preserved-then-passes
loop-high-preserved-then-passes c = (
  c.loop-high.invariant.3.below (omega arith),
  c.loop-high.invariant.1,
  omega (arith, c.saturating_mul-step.ensures),
  c.next-probe.ensures,
  leb-true _ _ (sym c.passes.ensures ∙ c.if-passes.true),
  c.loop-high.invariant.5,
)

pub next-probe-requires-else-passes : goal.next-probe-requires-else-passes
next-probe-requires-else-passes c =
    let below : c.loop-high.probe < c.loop-high.high =
    c.loop-high.invariant.3.below (omega arith) in
    (c.loop-high.invariant.3.above (omega arith), omega arith, c.loop-high.invariant.2)

pub loop-high-smaller : goal.loop-high-smaller
loop-high-smaller c = omega (
  arith,
  c.loop-high.invariant.3.above (omega arith),
  c.loop-high.invariant.3.below (omega arith),
)

pub loop-high-preserved : goal.loop-high-preserved
loop-high-preserved c =
    let below : c.loop-high.probe < c.loop-high.high =
    c.loop-high.invariant.3.below (omega arith) in (
      c.loop-high.invariant.3.above (omega arith),
      omega arith,
      omega (arith, c.saturating_mul-step.ensures),
      c.next-probe-else-passes.ensures,
      c.loop-high.invariant.4,
      leb-false _ _ (sym c.passes.ensures ∙ c.if-passes.false),
    )

pub returns : goal.returns
returns c = let s = c.args.s in
    let e : c.loop-high.high ≡ c.loop-high.low + 1 = omega arith in
    record {
      under = c.loop-high.invariant.4;
      above = subst (λ (h : ℕ). right s < left s h) e c.loop-high.invariant.5;
    }

pub overflow_sub-high : goal.overflow_sub-high
overflow_sub-high c = omega arith
