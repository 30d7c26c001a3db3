-- `dose::remembered::no_memory` meets its contract: tree 1 has figures, which its stand is of, and
-- a memory of zeros remembers nothing.
use Rattle.std.proofs.Common.{◌≡◌, refl, sym, ap, ◌∙◌, lit≤}
use Rattle.trees.specs.Parameters.{no_parameters}
use Rattle.frames.specs.Answers.{accepted, outcome_of}
use Rattle.frames.proofs.ParameterLaws.{figures-in-tabled}
use Rattle.dose_spec.specs.HourDose.{tree_of}
use Rattle.dose_spec.proofs.EnclosureLaws.{tree-named}
use Rattle.dose.proofs.RememberedLaws.{none-remembered, first-tree, none-of}
use Rattle.dose.proofs.remembered.no_memory.Goals as goal

pub unreachable-requires : goal.unreachable-requires
unreachable-requires c =
    first-tree _ _ (sym c.tree_of.ensures ∙ ap outcome_of c.in_default.is)

pub invariant_of-result : goal.invariant_of-result
invariant_of-result c =
    let tree = tree-named _ _ _ (sym c.tree_of.ensures ∙ ap outcome_of c.in-Ok.is) in
    record {
      sound = tree.sound;
      few = lit≤ tt;
      tabled = figures-in-tabled _ _ _ tree.chosen;
      own = none-of _;
      kept = none-remembered _ 1101;
    }

pub returns : goal.returns
returns c =
    let named : tree_of no_parameters 1 ≡ accepted c.in-Ok.figures =
    rw c.no_parameters.ensures at (sym c.tree_of.ensures ∙ ap outcome_of c.in-Ok.is) in
    rw (c.day_age.ensures, named) refl
