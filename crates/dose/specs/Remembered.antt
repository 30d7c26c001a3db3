-- What the hours of a season are dosed by whose leaves age by the day (`stand_with`); and what a
-- temperature gives them.
use Rattle.std.specs.Prelude.{◌≡◌, ℕ, ◌+◌, ◌*◌, ◌^◌, ◌<◌, max, List, slice_get, Option, Some}
use Rattle.std.proofs.Props.{props}
use Rattle.trees.specs.declared.Figures.{Figures}
use Rattle.trees.specs.Temperature.{temperature_pair}
use Rattle.trees.specs.declared.measured.Parameters.{Parameters}
use Rattle.trees.specs.Warmth.{no_warmth}
use Rattle.frames.specs.Answers.{Outcome, accepted, row, onward}
use Rattle.frames.specs.Ranges.{ceiling_out}
use Rattle.dose_spec.specs.HumidityPair.{entry_of}
use Rattle.dose_spec.specs.declared.Age.{Age}
use Rattle.dose_spec.specs.declared.Stand.{Stand}
use Rattle.dose_spec.specs.HourDose.{tree_of, stand_of}
use Rattle.dose.specs.declared.remembered.Warm.{Warm}

-- the larger of f_min and the root, and of f_min and the next number, are f_temp's pair at the
-- reading t; beside them the saturation pressure
pub record IsWarm (f : Figures) (t : ℕ) (warm : Warm) : Type 0 where
  pub lower : max (f.f_min * 10 ^ 7) warm.root ≡ (temperature_pair f t).lower
  pub upper : max (f.f_min * 10 ^ 7) (warm.root + 1) ≡ (temperature_pair f t).upper
  pub saturation : warm.saturation ≡ entry_of t

IsWarm-prop : (f : Figures) (t : ℕ) (warm : Warm) → IsProp (IsWarm f t warm)
IsWarm-prop f t warm = hlevel props

-- a memory by temperature: what one that has come up gives is right
pub record Remembers (f : Figures) (memory : List Warm) : Type 0 where
  pub each :
      (t : ℕ) (warm : Warm) → slice_get memory t ≡ Some warm → 0 < warm.saturation → IsWarm f t warm

pub Remembers-prop : (f : Figures) (memory : List Warm) → IsProp (Remembers f memory)
Remembers-prop f memory = hlevel (props, IsWarm-prop)

-- the figures are those of a tree with a number and parameters, or of none that was asked for
pub record IsOf (of : Option (ℕ × Parameters)) (f : Figures) : Type 0 where
  pub own : (tree : ℕ) (ps : Parameters) → of ≡ Some (tree, ps) → tree_of ps tree ≡ accepted f

pub IsOf-prop : (of : Option (ℕ × Parameters)) (f : Figures) → IsProp (IsOf of f)
IsOf-prop of f = hlevel props

-- no frame of warmth stands, so no sum of it is looked at
abbrev pub by_day : Age
by_day = record { warmth = no_warmth; sum = 0 }

-- the tree's figures, leaf age by the day, the first and the last day of the period and the ozone
-- ceiling: row 17 tests the ceiling, then row 24 tree 7's parameters and row 5 the tree's number
abbrev pub stand_with : Parameters → ℕ → ℕ → ℕ → ℕ → Outcome Stand
stand_with ps tree first last ceiling =
    row 17 (ceiling_out ceiling)
    (onward (tree_of ps tree) (λ f. accepted (stand_of f by_day first last ceiling)))
