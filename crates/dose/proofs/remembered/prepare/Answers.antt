-- `dose::remembered::prepare` meets its contract: an emptied memory is of any tree, and one of the
-- same number and parameters is of the same figures.
use Rattle.std.proofs.Common.{◌≡◌, false, refl, sym, ap, ◌∙◌}
use Rattle.frames.specs.Answers.{outcome_of, accepted}
use Rattle.frames.specs.Ranges.{ceiling_out}
use Rattle.frames.proofs.OzoneLaws.{ceiling-le}
use Rattle.frames.proofs.ParameterLaws.{figures-in-tabled}
use Rattle.dose_spec.specs.HourDose.{tree_of}
use Rattle.dose_spec.proofs.EnclosureLaws.{tree-named}
use Rattle.dose.specs.Remembered.{IsOf, Remembers}
use Rattle.dose.proofs.RememberedLaws.{none-remembered, named-of, same-kept}
use Rattle.dose.proofs.remembered.prepare.Goals as goal
use Rattle.dose.proofs.remembered.prepare.Goals.{then-not-is_of, else-not-is_of}

pub invariant_of-memory : goal.invariant_of-memory
invariant_of-memory c =
    let f = c.in_ok-figures.figures in
    let named : tree_of c.args.parameters c.args.tree ≡ accepted f =
    sym c.tree_of.ensures ∙ ap outcome_of c.in_ok-figures.was in
    let tree = tree-named _ _ _ named in
    let tabled = figures-in-tabled _ _ _ tree.chosen in
    let within : ceiling_out c.args.ceiling ≡ false =
    sym c.ceiling_out.ensures ∙ c.if-ceiling_out.false in
    let few = ceiling-le _ within in
    let now = c.if-not-is_of.memory in
    -- its `of` and its cells
    let held : IsOf now.1.0 f × Remembers f now.1.1.1.0 =
    elim c.if-not-is_of.branch [
      | then-not-is_of w ↦ rw w.memory-is (named-of refl named, none-remembered f 1101)
      | else-not-is_of w ↦
          let was = c.args.memory.now in
          let of = c.is_of.ensures w.if-not-is_of.false in
          rw w.memory-is (named-of of named, same-kept of named was.own was.kept)
    ] in
    record { sound = tree.sound; few = few; tabled = tabled; own = held.0; kept = held.1 }
