-- `dose::dosing` meets its contract: rows 17 and 24 are passed, and the tree has figures.
use Rattle.std.specs.Prelude.{Some}
use Rattle.std.proofs.Common.{◌≡◌, ◌&&◌, false, eqb, sym, ◌∙◌}
use Rattle.trees.specs.MeasuredFigures.{figures_in}
use Rattle.frames.specs.Parameters.{parameter_out}
use Rattle.frames.specs.Ranges.{ceiling_out}
use Rattle.frames.proofs.OzoneLaws.{ceiling-le}
use Rattle.frames.proofs.ParameterLaws.{figures-in-tabled}
use Rattle.dose_spec.proofs.EnclosureLaws.{named-sound}
use Rattle.dose.proofs.dosing.Goals as goal

pub invariant_of-result : goal.invariant_of-result
invariant_of-result c =
    let within : ceiling_out c.args.ceiling ≡ false =
    sym c.ceiling_out.ensures ∙ c.if-ceiling_out.false in
    let passed : (eqb c.args.tree 7 && parameter_out c.args.parameters) ≡ false =
    sym c.measured_out.ensures ∙ c.if-measured_out.false in
    let chosen : figures_in c.args.parameters c.args.tree ≡ Some c.in-Some.figures =
    sym c.figures_in.ensures.value ∙ c.in-Some.is in
    record {
      sound = named-sound c.args.parameters c.args.tree passed c.in-Some.figures chosen;
      tabled = figures-in-tabled _ _ _ chosen;
      few = ceiling-le _ within;
    }
