-- The figures of any tree: sound where row 24 lets the parameters pass.
use Rattle.std.specs.Prelude.{Option, Some, None, is_none}
use Prim.Native.Nat.{ℕ}
use mathlib.Core.Path.{◌≡◌, refl, sym, subst, ◌∙◌}
use mathlib.Core.Logic.{◌↔◌}
use mathlib.Core.Bool.{Bool, true, false, ◌||◌, true≢false}
use native.Mathlib.Omega.{arith}
use borrow.Author.Tests.{ltb-false, leb-false, ne_eqb}
use lib.Dec.{eqb}
use Rattle.trees.specs.declared.Figures.{Figures}
use Rattle.trees.specs.declared.Curve.{Curve}
use Rattle.trees.specs.declared.Source.{Source}
use Rattle.trees.specs.declared.Source.TheVariants.{Tabled, Worked}
use Rattle.trees.specs.Figures.{figures_of}
use Rattle.trees.specs.Sound.{Sound}
use Rattle.trees.specs.steps.Trees.{HasTable}
use Rattle.trees.proofs.SoundLaws.{figures-sound}
use Rattle.trees.proofs.CurveLaws.{figures-tabled}
use Rattle.trees.specs.declared.ratio.Ratio.{Ratio}
use Rattle.trees.specs.Powers.{ArePowers, PowersFacts}
use Rattle.trees.proofs.LowestLaws.{powers-facts}
use Rattle.trees.specs.declared.measured.Parameters.{Parameters}
use Rattle.trees.specs.Parameters.{is_fed}
use Rattle.trees.specs.MeasuredFigures.{p_in, q_in, powers_in, measured_figures, figures_in}
use Rattle.frames.specs.Answers.{accepted}
use Rattle.frames.specs.Parameters.{parameter_out}
use Rattle.frames.specs.Ranges.{checked}
use Rattle.frames.specs.declared.records.Record.{Record}
use Rattle.frames.proofs.AnswerLaws.{or-neither, row-passed}

-- ---- row 24

or-neither-iff : (a b : Bool) → ((a || b) ≡ false) ↔ ((a ≡ false) × (b ≡ false))
or-neither-iff a b = (or-neither a b, λ both. rw both.0 both.1)

powers-found :
    (r : Option Ratio) (t_min t_opt t_max : ℕ) → is_none r ≡ false →
    PowersFacts t_min t_opt t_max r → ArePowers t_min t_opt t_max (p_in r) (q_in r)
powers-found (Some r) t_min t_opt t_max e facts = facts
powers-found None t_min t_opt t_max e facts = absurd (true≢false e)

module _ (ps : Parameters) (passed : parameter_out ps ≡ false) where
  pub parameters-sound : Sound (measured_figures ps)
  unfolding parameter_out measured_figures
  parameters-sound =
      let each = simp or-neither-iff at passed in
      let powers =
      powers-found (powers_in ps) _ _ _ each.0.0.0.0.0.0.0.0.1.1 (powers-facts _ _ _) in
      omega (arith, ltb-false, leb-false, powers, each)

  pub parameters-fed : is_fed ps ≡ true
  unfolding measured_figures
  parameters-fed = rw (ne_eqb ps.g_max 0 (omega (arith, parameters-sound.g_max)))

pub parameters-passed :
    (ps : Parameters) → checked (Record.Parameters ps) ≡ accepted tt → parameter_out ps ≡ false
unfolding checked
parameters-passed ps e = (row-passed (parameter_out ps) _ _ tt e).0

-- ---- worked out, not tabled

measured-worked : (ps : Parameters) → (measured_figures ps).source ≡ Worked
unfolding measured_figures
measured-worked ps = refl

worked-not-tabled : {A : Type 0} {s : Source} (curve : Curve) → s ≡ Worked → s ≡ Tabled curve → A
worked-not-tabled curve e f = let z : ◌≡◌ {A = ℕ} 0 1 = cc in absurd (omega arith)

measured-tabled : (ps : Parameters) → HasTable (measured_figures ps)
measured-tabled ps =
    record { pair = λ curve named x. worked-not-tabled curve (measured-worked ps) named }

-- ---- by the tree's number

module _ (ps : Parameters) (t : ℕ) where
  figures-in-measured : eqb t 7 ≡ true → figures_in ps t ≡ Some (measured_figures ps)
  unfolding figures_in
  figures-in-measured e = rw e

  figures-in-other : eqb t 7 ≡ false → figures_in ps t ≡ figures_of t
  unfolding figures_in
  figures-in-other e = rw e

module _ (P : Figures → Type 0) (ps : Parameters) (t : ℕ) (f : Figures)
    (chosen : figures_in ps t ≡ Some f) where
  by-test :
      (b : Bool) → eqb t 7 ≡ b → (b ≡ true → P (measured_figures ps)) →
      (figures_of t ≡ Some f → P f) → P f
  by-test true e measured tabled =
      let same : measured_figures ps ≡ f = cc (figures-in-measured ps t e) in
      subst P same (measured refl)
  by-test false e measured tabled = tabled (sym (figures-in-other ps t e) ∙ chosen)

  -- what holds of the measured tree and of the six holds of any tree that is chosen
  figures-in-all : (eqb t 7 ≡ true → P (measured_figures ps)) → (figures_of t ≡ Some f → P f) → P f
  figures-in-all = by-test (eqb t 7) refl

module _ (ps : Parameters) (t : ℕ) (f : Figures) (chosen : figures_in ps t ≡ Some f) where
  pub figures-in-tabled : HasTable f
  figures-in-tabled =
      figures-in-all HasTable ps t f chosen (λ _. measured-tabled ps) (figures-tabled t f)

  pub figures-in-sound : (eqb t 7 ≡ true → parameter_out ps ≡ false) → Sound f
  figures-in-sound passed =
      figures-in-all Sound ps t f chosen (λ e. parameters-sound ps (passed e)) (figures-sound t f)
