-- What the hour's pair is worth: for any sound figures, for the six trees and for what `hour_dose`
-- answers.
use Rattle.std.proofs.lemmas.Bool.Decides.{nat_tests}
use Rattle.std.specs.Prelude.{Some}
use Prim.Native.Nat.{ℕ, ◌≤◌}
use mathlib.Core.Bool.{true, false, ◌&&◌}
use lib.Dec.{eqb}
use mathlib.Core.Path.{◌≡◌, refl, sym, ap, ◌∙◌}
use native.Mathlib.Omega.{arith}
use Rattle.trees.specs.declared.Figures.{Figures}
use Rattle.trees.specs.Figures.{figures_of}
use Rattle.trees.specs.Sound.{Sound}
use Rattle.trees.proofs.SoundLaws.{figures-all, figures-sound}
use Rattle.trees.specs.declared.measured.Parameters.{Parameters}
use Rattle.trees.specs.MeasuredFigures.{measured_figures, figures_in}
use Rattle.frames.specs.Parameters.{parameter_out}
use Rattle.frames.proofs.ParameterLaws.{parameters-sound, figures-in-sound}
use Rattle.dose_spec.specs.declared.Age.{Age}
use Rattle.dose_spec.specs.Enclosure.{gap_most, Limited, MeasuredLimited, Answered, Enclosure}
use Rattle.dose_spec.specs.HourDose.{tree_of, age_by, stand_of, stand_for, added_pair, hour_dose_of}
use Rattle.exact.specs.declared.Bounds.{Bounds}
use Rattle.frames.specs.declared.records.Hour.{Hour}
use Rattle.frames.specs.Answers.{accepted}
use Rattle.frames.proofs.AnswerLaws.{accepted-same, onward-passed}
use Rattle.dose_spec.proofs.BudgetLaws.{most_dose-le}
use Rattle.dose_spec.proofs.HourDoseLaws.{figures-named, stand-passed}
use Rattle.dose_spec.proofs.PairLaws.{ozone-grows}
use Rattle.dose_spec.proofs.HourLaws.{hour-enclosed}
use Rattle.dose_spec.proofs.FillingLaws.{pair-enclosed}

-- ---- the six trees

tree-limited : (tree : ℕ) (f : Figures) → figures_of tree ≡ Some f → Limited f
tree-limited tree f e = record {
  sound = figures-sound tree f e;
  g_max =
      figures-all (λ g. g.g_max ≤ 265) (omega arith) (omega arith) (omega arith) (omega arith)
      (omega arith) (omega arith) tree f e;
  y = figures-all (λ g. g.y ≡ 1) refl refl refl refl refl refl tree f e;
  gap = figures-all (λ g. gap_most g ≡ 2) refl refl refl refl refl refl tree f e;
}

-- ---- a measured tree

measured-limited :
    (ps : Parameters) → parameter_out ps ≡ false → MeasuredLimited (measured_figures ps)
measured-limited ps e = grind (arith, nat_tests, parameters-sound, most_dose-le)

-- ---- any tree that has figures

-- which row 24 lets pass
pub named-sound :
    (ps : Parameters) (tree : ℕ) → eqb tree 7 && parameter_out ps ≡ false →
    (f : Figures) → figures_in ps tree ≡ Some f → Sound f
named-sound ps tree passed f chosen =
    grind (arith, nat_tests, passed, chosen, figures-in-sound ps tree f)

pub record TreeNamed (ps : Parameters) (tree : ℕ) (f : Figures) : Type 0 where
  pub chosen : figures_in ps tree ≡ Some f
  pub measured : eqb tree 7 ≡ true → parameter_out ps ≡ false
  pub sound : Sound f

pub tree-named :
    (ps : Parameters) (tree : ℕ) (f : Figures) → tree_of ps tree ≡ accepted f → TreeNamed ps tree f
tree-named ps tree f e =
    let named = figures-named ps tree f e in
    grind (arith, nat_tests, named.passed, named.chosen, figures-in-sound ps tree f)

answered :
    (ps : Parameters) (age : Age) (tree first last ceiling : ℕ) (h : Hour) (pair : Bounds) →
    hour_dose_of ps tree age first last ceiling h ≡ accepted pair →
    Answered ps age tree first last ceiling h pair
unfolding hour_dose_of
answered ps age tree first last ceiling h pair e =
    let found = onward-passed (stand_for ps tree (age_by tree age) first last ceiling h) _ pair e in
    let stand = found.0 in
    let p = stand-passed tree (age_by tree age) first last ceiling h stand found.1 in
    let own = stand_of stand.figures (age_by tree age) first last ceiling in
    let sound = (tree-named ps tree stand.figures p.named).sound in
    record {
      figures = stand.figures;
      named = p.named;
      is = sym (accepted-same found.2) ∙ ap (λ s. added_pair s h) p.is;
      enclosed = hour-enclosed own sound h p.checks;
      filled = pair-enclosed own sound h p.checks p.within;
    }

pub enclosure : Enclosure
enclosure = record {
  trees = tree-limited;
  measured = measured-limited;
  hour = hour-enclosed;
  ozone = ozone-grows;
  pair = λ stand s few h passed. pair-enclosed stand s h passed few;
  answer = answered;
}
