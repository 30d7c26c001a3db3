-- The rows of a header made from a place: row 14 before row 7, row 7 never.
use Rattle.std.proofs.lemmas.Bool.Decides.{nat_tests}
use Rattle.std.specs.Prelude.{Option, Some, None}
use Prim.Native.Nat.{ℕ}
use mathlib.Core.Path.{◌≡◌, refl}
use mathlib.Core.Bool.{Bool, true, false}
use mathlib.Core.List.{[], ◌∷◌}
use native.Mathlib.Omega.{arith}
use lib.Dec.{leb}
use Rattle.trees.specs.declared.Figures.{Figures}
use Rattle.trees.specs.Figures.{beech, figures_of, ramp_days}
use Rattle.trees.specs.Parameters.{no_parameters}
use Rattle.trees.specs.MeasuredFigures.{figures_in}
use Rattle.frames.specs.declared.records.Header.{Header}
use Rattle.frames.specs.declared.records.Record.{Record}
use Rattle.frames.specs.Answers.{accepted, refused}
use Rattle.frames.specs.Numbers.{is_outside}
use Rattle.frames.specs.Ranges.{period_out, checked}
use Rattle.frames.proofs.CheckLaws.{level_in}
use Rattle.frames.specs.Kinds.{among}
use Rattle.frames.proofs.KindLaws.{among-passes}
use Rattle.exact.specs.Rounding.{round_up, round_down}
use Rattle.dates.specs.Model.{model_start, model_end}
use Rattle.dates.specs.Rules.{with_model, has_model, place_out, made_header, placed_of}
use Rattle.dates.specs.Promise.{InPlace}
use Rattle.dates.proofs.ModelLaws.{model-kept, extremes-is}

-- where both rows' conditions hold, row 14 answers
pub pole-is :
    (period_out (made_header 4 365 520 900 3000) (ramp_days beech) ≡ true)
    × (placed_of 4 365 520 900 3000 ≡ refused (14, 0))
unfolding round_up model_start round_down model_end figures_in figures_of made_header among
    place_out placed_of
pole-is = (refl, refl)

-- ---- inside row 14's ranges

module _ (tree latitude height : ℕ) (e : place_out tree latitude height ≡ false) where
  place_in : InPlace latitude height
  unfolding place_out
  place_in = record {
    southmost = grind (arith, nat_tests, e);
    northmost = grind (arith, nat_tests, e);
    highest = grind (arith, nat_tests, e);
  }

  has : has_model tree ≡ true
  unfolding place_out
  has = grind (arith, nat_tests, e)

-- a tree with the model: it is one, and its ramps take 50 days at most
abbrev short : Option Figures → Bool
short (Some f) = leb (ramp_days f) 50
short None = false

modelled :
    (tree latitude height : ℕ) → place_out tree latitude height ≡ false →
    short (figures_in no_parameters tree) ≡ true
unfolding among figures_in figures_of
modelled tree latitude height e =
    among-passes (λ n. short (figures_in no_parameters n)) with_model tree refl
    (has tree latitude height e)

-- row 7 never comes up
pub period-in :
    (tree days level latitude height : ℕ) (f : Figures) → figures_in no_parameters tree ≡ Some f →
    is_outside 365 366 days ≡ false
    → place_out tree latitude height ≡ false →
    period_out (made_header tree days level latitude height) (ramp_days f) ≡ false
unfolding made_header
period-in tree days level latitude height f known year e =
    let k = model-kept latitude height (place_in tree latitude height e) in
    grind (arith, nat_tests, k, extremes-is, modelled tree latitude height e)

-- ---- the rows

module _ (tree days level latitude height : ℕ) where
  -- row 14 comes before row 7
  pub place_out_lem :
      (f : Figures) → figures_in no_parameters tree ≡ Some f → is_outside 365 366 days ≡ false →
      place_out tree latitude height ≡ true
      → placed_of tree days level latitude height ≡ refused (14, 0)
  unfolding placed_of
  place_out_lem f known year out = rw (known, year, out)

  -- row 7 never comes up
  pub placed-rows :
      (n f : ℕ) → placed_of tree days level latitude height ≡ refused (n, f) →
      (among (5 ∷ 6 ∷ 14 ∷ 8 ∷ []) n ≡ true) × (f ≡ 0)
  unfolding placed_of among
  placed-rows n f e = grind (arith, nat_tests, period-in)

  pub placed-made :
      is_outside 365 366 days ≡ false → place_out tree latitude height ≡ false →
      is_outside 1 10000 level ≡ false
      → placed_of tree days level latitude height
      ≡ accepted (made_header tree days level latitude height)
  unfolding placed_of
  placed-made year inside level_in = grind (arith, modelled, period-in)

  -- the model's header, once it has passed the rows
  pub placed-passed :
      (h : Header) → placed_of tree days level latitude height ≡ accepted h →
      checked (Record.Header h) ≡ accepted tt
  unfolding placed_of made_header checked
  placed-passed h e = grind arith

pub without-model :
    (latitude height : ℕ) →
    (place_out 3 latitude height ≡ true) × (place_out 6 latitude height ≡ true)
    × (place_out 7 latitude height ≡ true)
unfolding place_out among
without-model latitude height = grind (arith, nat_tests)
