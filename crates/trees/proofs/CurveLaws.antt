-- The six trees' figures have the f_temp of their curve.
use Rattle.std.specs.Prelude.{Some}
use Prim.Native.Nat.{ℕ}
use mathlib.Core.Path.{◌≡◌, refl, sym, ap, ◌∙◌}
use Rattle.trees.specs.declared.Curve.{Curve}
use Rattle.trees.specs.declared.Curve.TheVariants.{BorealSpruce, Birch, ContinentalSpruce, Beech}
use Rattle.trees.specs.declared.Curve.TheVariants.{Oak, Evergreen}
use Rattle.trees.specs.declared.Source.{Source}
use Rattle.trees.specs.declared.Source.TheVariants.{Tabled, Worked}
use Rattle.trees.specs.declared.Figures.{Figures}
use Rattle.trees.specs.Figures.{owner_of, figures_of}
use Rattle.trees.specs.steps.Trees.{HasTable}
use Rattle.trees.specs.Temperature.{temperature_pair}
use Rattle.trees.proofs.SoundLaws.{figures-all}

-- the curve of a source, any where it is worked out
abbrev curve_or : Curve → Source → Curve
curve_or other (Tabled curve) = curve
curve_or other Worked = other

pub figures-tabled : (t : ℕ) (f : Figures) → figures_of t ≡ Some f → HasTable f
figures-tabled =
    let own : (g : Figures) (mine : Curve) → g.source ≡ Tabled mine →
    owner_of mine ≡ g → HasTable g =
    λ g mine named e. record {
      pair = λ curve other x.
          let same : mine ≡ curve = ap (curve_or mine) (sym named ∙ other) in
          ap (λ f. temperature_pair f x) (sym e ∙ ap owner_of same);
    } in
    figures-all HasTable
    (own _ BorealSpruce refl refl)
    (own _ Birch refl refl)
    (own _ ContinentalSpruce refl refl)
    (own _ Beech refl refl)
    (own _ Oak refl refl)
    (own _ Evergreen refl refl)
