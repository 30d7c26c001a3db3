-- `account::adding::dosing` meets its contract: the season's tree has figures.
use Rattle.std.specs.Prelude.{Some}
use mathlib.Core.Path.{◌≡◌, sym, ap, ◌∙◌}
use Rattle.trees.specs.declared.Figures.{Figures}
use Rattle.frames.proofs.ParameterLaws.{figures-in-tabled}
use Rattle.dose_spec.specs.declared.Age.{Age}
use Rattle.dose_spec.specs.HourDose.{stand_of}
use Rattle.dose_spec.proofs.EnclosureLaws.{tree-named}
use Rattle.account.proofs.adding.dosing.Goals as goal

pub unreachable-requires : goal.unreachable-requires
unreachable-requires c =
    c.in_default.not-Some c.requires.figures
    (c.figures_in.ensures.value ∙ (tree-named _ _ _ c.requires.named).chosen)

-- the figures found are the tree's
found : {f g : Figures} → Some f ≡ Some g → f ≡ g
found e = cc

pub invariant_of-result : goal.invariant_of-result
invariant_of-result c =
    let named = tree-named _ _ _ c.requires.named in
    let chosen = sym c.figures_in.ensures.value ∙ c.in-Some.is in
    let same : c.requires.figures ≡ c.in-Some.figures = found (sym named.chosen ∙ chosen) in
    record {
      sound = rw same at named.sound;
      tabled = figures-in-tabled _ _ _ chosen;
      few = c.requires.few;
    }

pub returns : goal.returns
returns c =
    λ f named.
    let season = c.args.season in
    let age : Age = record { warmth = season.warmth; sum = c.args.sum } in
    let chosen = sym c.figures_in.ensures.value ∙ c.in-Some.is in
    let same : c.in-Some.figures ≡ f = found (sym chosen ∙ (tree-named _ _ _ named).chosen) in
    ap (λ (g : Figures). stand_of g age season.header.first season.header.last season.ceiling) same
