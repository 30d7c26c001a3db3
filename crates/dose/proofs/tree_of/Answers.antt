-- `dose::tree_of` meets its contract.
use Rattle.std.specs.Prelude.{ℕ, Option, Some, None}
use Rattle.std.specs.Option.{ok_or}
use Rattle.std.proofs.Common.{◌≡◌, false, ◌&&◌, eqb, sym, ap, ◌∙◌}
use Rattle.trees.specs.declared.Figures.{Figures}
use Rattle.trees.specs.declared.measured.Parameters.{Parameters}
use Rattle.trees.specs.MeasuredFigures.{figures_in}
use Rattle.frames.specs.declared.records.Refusal.{Refusal}
use Rattle.frames.specs.Parameters.{parameter_out}
use Rattle.frames.specs.Answers.{outcome_of}
use Rattle.dose_spec.specs.HourDose.{tree_of}
use Rattle.dose_spec.proofs.HourDoseLaws.{parameters-out-is, tree_is, no-figures-is}
use Rattle.dose.proofs.tree_of.Goals as goal

chosen :
    (p : Parameters) (tree : ℕ) → (eqb tree 7 && parameter_out p) ≡ false → (o : Option Figures) →
    o ≡ figures_in p tree → outcome_of (ok_or o Refusal.Tree) ≡ tree_of p tree
chosen p tree passed (Some f) e = tree_is _ _ passed _ (sym e)
chosen p tree passed None e = no-figures-is _ _ passed (sym e)

pub returns-then-measured_out : goal.returns-then-measured_out
returns-then-measured_out c =
    parameters-out-is _ _ (sym c.measured_out.ensures ∙ c.if-measured_out.true)

pub returns : goal.returns
returns c =
    ap outcome_of c.ok_or.ensures.value
    ∙ chosen _ _ (sym c.measured_out.ensures ∙ c.if-measured_out.false) _ c.figures_in.ensures.value
