-- `trees::measured::figures_by` meets its contract.
use Rattle.std.specs.Prelude.{◌≡◌, Option, Some, None}
use Rattle.std.specs.Option.{unwrap_or}
use Rattle.std.proofs.Common.{refl, ap, ap₂, ◌∙◌}
use borrow.Author.Rules.{rules}
use Rattle.trees.specs.declared.ratio.Ratio.{Ratio}
use Rattle.trees.specs.MeasuredFigures.{p_in, q_in, powers_in, measured_figures}
use Rattle.trees.proofs.measured.figures_by.Goals as goal

abbrev no_ratio : Ratio
no_ratio = record { p = 0; q = 0 }

p-is : (o : Option Ratio) → (unwrap_or o no_ratio).p ≡ p_in o
p-is (Some r) = refl
p-is None = refl

q-is : (o : Option Ratio) → (unwrap_or o no_ratio).q ≡ q_in o
q-is (Some r) = refl
q-is None = refl

pub returns : goal.returns
unfolding measured_figures
returns c = let a = c.args in
    let zeros : c.default.result ≡ no_ratio = search rules in
    let is = ap₂ unwrap_or c.requires zeros in
    let p : c.unwrap_or-ratio.result.p ≡ p_in (powers_in a.p) =
    ap (λ (r : Ratio). r.p) (c.unwrap_or-ratio.ensures ∙ is) ∙ p-is (powers_in a.p) in
    let q : c.unwrap_or-ratio.result.q ≡ q_in (powers_in a.p) =
    ap (λ (r : Ratio). r.q) (c.unwrap_or-ratio.ensures ∙ is) ∙ q-is (powers_in a.p) in
    simp (p, q, c.degrees-3.ensures, c.degrees-2.ensures, c.degrees.ensures)
